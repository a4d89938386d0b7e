-- No plainer: named by `using`, the law does not prove this, since it ends in a record.
use Rattle.conversion.proofs.Rows.{convert_by_rows}
use Rattle.conversion.proofs.convert_by_rows.Goals as goal

pub returns : goal.returns
returns c = convert_by_rows
