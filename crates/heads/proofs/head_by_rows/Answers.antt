use Rattle.heads.proofs.Rows.{head_by_rows}
use Rattle.heads.proofs.head_by_rows.Goals as goal

pub returns : goal.returns
returns c = head_by_rows
