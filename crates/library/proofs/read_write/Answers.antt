-- No plainer: named by `using`, the law does not prove this, since it ends in a record.
use Rattle.library.proofs.RoundTrip.{read_write}
use Rattle.library.proofs.read_write.Goals as goal

pub returns : goal.returns
returns c = read_write
