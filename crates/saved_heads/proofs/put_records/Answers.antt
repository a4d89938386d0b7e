-- No plainer: named by `using`, the law does not prove this, since it speaks of an output that the goal does not name.
use Rattle.std.proofs.Common.{rules}
use Rattle.lists.proofs.Puts.{parts_more}
use Rattle.saved_heads.proofs.put_records.Goals as goal

pub loop-row-preserved : goal.loop-row-preserved
loop-row-preserved c = search (parts_more, rules)
