use Rattle.filter_core.proofs.Rows as rows
use Rattle.filter_core.proofs.refusals_by_rows.Goals as goal

pub returns : goal.returns
returns c = rows.refusals_by_rows
