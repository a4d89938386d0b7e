-- No plainer: named by `using`, the law does not prove this, since it speaks of an output that the goal does not name.
use Rattle.std.proofs.Common.{rules}
use Rattle.library.proofs.Writings.{put_together}
use Rattle.library.proofs.put_sheet.Goals as goal

pub returns : goal.returns
returns c = search (put_together, rules)
