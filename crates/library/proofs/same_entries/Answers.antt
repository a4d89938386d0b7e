-- No plainer: named by `using`, the law does not prove this, since it ends in a record.
use Rattle.library.proofs.RoundTrip.{same_entries}
use Rattle.library.proofs.same_entries.Goals as goal

pub returns : goal.returns
returns c = same_entries
