use Rattle.lists.proofs.Puts.{puts_more}
use Rattle.saved_heads.proofs.put_rows.Goals as goal

pub returns : goal.returns
returns c = puts_more (rw c.to_le_bytes.ensures at c.put-tags.ensures) (puts_more c.put_tags-records.ensures c.put_records.ensures)
