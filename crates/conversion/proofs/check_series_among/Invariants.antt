use Rattle.std.proofs.Common.{◌≡◌}
use Rattle.conversion.specs.Conversion.{series_among}
use Rattle.conversion.proofs.check_series_among.Given as goal

abbrev pub invariant-loop-e : goal.invariant-loop-e
invariant-loop-e l = series_among l.e l.sheet ≡ 0
