-- A filter as the array of its fields, which stand in the source's order: f, fq, x of both passes, lp of both, bp of both.
use Rattle.std.specs.Prelude.{List, [], ◌∷◌, Float}
use Rattle.filter_core.specs.Fields.{field}
use Rattle.crossover_svf.specs.declared.CrossoverSvf.{CrossoverSvf}

abbrev pub crossover_from : List Float → CrossoverSvf
crossover_from fields =
    record { f = field fields 0; fq = field fields 1; x = field fields 2 ∷ field fields 3 ∷ []; lp = field fields 4 ∷ field fields 5 ∷ []; bp = field fields 6 ∷ field fields 7 ∷ [] }

abbrev pub crossover_fields : CrossoverSvf → List Float
crossover_fields s = s.f ∷ s.fq ∷ field s.x 0 ∷ field s.x 1 ∷ field s.lp 0 ∷ field s.lp 1 ∷ field s.bp 0 ∷ field s.bp 1 ∷ []
