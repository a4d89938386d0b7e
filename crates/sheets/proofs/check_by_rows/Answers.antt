-- No plainer: named by `using`, the law does not prove this, since it ends in a record.
use Rattle.sheets.proofs.Rows.{checked}
use Rattle.sheets.proofs.check_by_rows.Goals as goal

pub returns : goal.returns
returns c = checked
