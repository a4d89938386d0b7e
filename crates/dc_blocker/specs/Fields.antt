-- A filter as the array of its fields, which stand in the source's order: pole, x, y.
use Rattle.std.specs.Prelude.{List, [], ◌∷◌, Float}
use Rattle.filter_core.specs.Fields.{field}
use Rattle.dc_blocker.specs.declared.DcBlocker.{DcBlocker}

abbrev pub dc_from : List Float → DcBlocker
dc_from fields = record { pole = field fields 0; x = field fields 1; y = field fields 2 }

abbrev pub dc_fields : DcBlocker → List Float
dc_fields s = s.pole ∷ s.x ∷ s.y ∷ []
