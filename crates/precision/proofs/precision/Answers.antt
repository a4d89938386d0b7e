-- No plainer: named by `using`, the law does not prove this, since it ends in a record.
use Rattle.precision.proofs.Bounds.{precision}
use Rattle.precision.proofs.precision.Goals as goal

pub returns : goal.returns
returns c = precision
