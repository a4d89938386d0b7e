-- A filter as the array of its fields, which stand in the source's order: f, damp, lp, bp.
use Rattle.std.specs.Prelude.{List, [], ◌∷◌, Float}
use Rattle.filter_core.specs.Fields.{field}
use Rattle.naive_svf.specs.declared.NaiveSvf.{NaiveSvf}

abbrev pub naive_from : List Float → NaiveSvf
naive_from fields = record { f = field fields 0; damp = field fields 1; lp = field fields 2; bp = field fields 3 }

abbrev pub naive_fields : NaiveSvf → List Float
naive_fields s = s.f ∷ s.damp ∷ s.lp ∷ s.bp ∷ []
