-- A filter as the array of its fields, which stand in the source's order: g, r, h, state_1, state_2.
use Rattle.std.specs.Prelude.{List, [], ◌∷◌, Float}
use Rattle.filter_core.specs.Fields.{field}
use Rattle.svf.specs.declared.Svf.{Svf}

abbrev pub svf_from : List Float → Svf
svf_from fields = record { g = field fields 0; r = field fields 1; h = field fields 2; state_1 = field fields 3; state_2 = field fields 4 }

abbrev pub svf_fields : Svf → List Float
svf_fields s = s.g ∷ s.r ∷ s.h ∷ s.state_1 ∷ s.state_2 ∷ []
