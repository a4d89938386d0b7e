use Rattle.std.specs.Int.{w32, to_le_bytes}
use Rattle.lists.proofs.Puts.{parts_more}
use Rattle.saved_heads.proofs.put_words.Goals as goal

pub loop-word-preserved : goal.loop-word-preserved
loop-word-preserved c =
    parts_more (to_le_bytes w32) c.args.words.now c.loop-word.word-index 0 c.loop-word.invariant c.loop-word-test.true (rw c.to_le_bytes.ensures at c.put-at.ensures)
