use Rattle.std.proofs.Common.{◌≡◌, ◌++◌, take}
use Rattle.std.specs.List.{flat_map}
use Rattle.digits.proofs.output.put_units.Given as goal

abbrev pub invariant-loop-unit : goal.invariant-loop-unit
invariant-loop-unit g l = l.out.items ≡ take g.row.N (l.initial.out.items ++ flat_map g.T.Unit.text (take l.unit-index l.rest))
