-- No plainer: named by `using`, the law does not prove this, since it ends in a record.
use Rattle.converted_loads.proofs.Alike.{converted_loads}
use Rattle.converted_loads.proofs.converted_loads.Goals as goal

pub returns : goal.returns
returns c = converted_loads
