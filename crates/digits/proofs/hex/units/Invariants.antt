use Rattle.std.proofs.Common.{◌≡◌, ◌*◌, ◌++◌}
use Rattle.lists.specs.Table.{table}
use Rattle.digits.proofs.hex.units.Given as goal

abbrev pub invariant-loop-i : goal.invariant-loop-i
invariant-loop-i g l = l.out.items ≡ l.initial.out.items ++ table l.i (λ k. g.T.Unit.read_at l.s (g.T.Unit.DIGITS * k))
