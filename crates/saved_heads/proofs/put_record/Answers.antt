use Rattle.lists.proofs.Puts.{puts_more}
use Rattle.saved_heads.proofs.put_record.Goals as goal

pub returns : goal.returns
returns c = puts_more c.put_words-at.ensures (rw c.to_le_bytes.ensures at c.put.ensures)
