use Rattle.std.proofs.Common.{◌≡◌, ◌≤◌, drop}
use Rattle.digits.specs.Decimal.{value_from}
use Rattle.digits.proofs.decimal.number_of.Given as goal

abbrev pub invariant-loop-b : goal.invariant-loop-b
invariant-loop-b l = record { fits : l.value ≤ 18446744073709551615; read : value_from 0 l.s ≡ value_from l.value (drop l.b-index l.s) }
