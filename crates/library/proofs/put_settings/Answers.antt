-- No plainer: named by `using`, the law does not prove this, since it speaks of an output that the goal does not name.
use Rattle.std.proofs.Common.{rules}
use Rattle.lists.proofs.Puts.{parts_more}
use Rattle.library.proofs.put_settings.Goals as goal

pub loop-entry-preserved : goal.loop-entry-preserved
loop-entry-preserved c = search (parts_more, rules)
