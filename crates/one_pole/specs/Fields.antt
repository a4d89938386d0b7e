-- A filter as the array of its fields, which stand in the source's order: g, gi, state.
use Rattle.std.specs.Prelude.{List, [], ◌∷◌, Float}
use Rattle.filter_core.specs.Fields.{field}
use Rattle.one_pole.specs.declared.OnePole.{OnePole}

abbrev pub one_pole_from : List Float → OnePole
one_pole_from fields = record { g = field fields 0; gi = field fields 1; state = field fields 2 }

abbrev pub one_pole_fields : OnePole → List Float
one_pole_fields s = s.g ∷ s.gi ∷ s.state ∷ []
