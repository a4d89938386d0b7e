use Rattle.std.proofs.Common.{rules}
use Rattle.filter_core.proofs.Horner.{folded-series}
use Rattle.filter_core.proofs.series.Goals as goal

pub returns-in-Some : goal.returns-in-Some
returns-in-Some c = let parts = c.in-Some.ensures in search (folded-series, rules)
