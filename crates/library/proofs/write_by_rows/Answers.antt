-- No plainer: named by `using`, the law does not prove this, since it ends in a record.
use Rattle.library.proofs.Rows.{write_by_rows}
use Rattle.library.proofs.write_by_rows.Goals as goal

pub returns : goal.returns
returns c = write_by_rows
