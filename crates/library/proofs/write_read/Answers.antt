-- No plainer: named by `using`, the law does not prove this, since it ends in a record.
use Rattle.library.proofs.RoundTrip.{write_read}
use Rattle.library.proofs.write_read.Goals as goal

pub returns : goal.returns
returns c = write_read
