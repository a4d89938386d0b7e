-- A filter as the array of its fields, which stand in the source's order: f, fq, x, lp, bp.
use Rattle.std.specs.Prelude.{List, [], ◌∷◌, Float}
use Rattle.filter_core.specs.Fields.{field}
use Rattle.modified_svf.specs.declared.ModifiedSvf.{ModifiedSvf}

abbrev pub modified_from : List Float → ModifiedSvf
modified_from fields = record { f = field fields 0; fq = field fields 1; x = field fields 2; lp = field fields 3; bp = field fields 4 }

abbrev pub modified_fields : ModifiedSvf → List Float
modified_fields s = s.f ∷ s.fq ∷ s.x ∷ s.lp ∷ s.bp ∷ []
