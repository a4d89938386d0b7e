-- The six filters as one type.
use Rattle.std.specs.Prelude.{[], ◌∷◌}
use Rattle.filter_core.specs.Arithmetic.{zeroᶠ}
use Rattle.filter_core.specs.Fields.{field}
use Rattle.dc_blocker.specs.DcBlocker.{dc_init}
use Rattle.one_pole.specs.OnePole.{one_pole_reset}
use Rattle.svf.specs.Svf.{svf_reset}
use Rattle.naive_svf.specs.NaiveSvf.{naive_reset}
use Rattle.modified_svf.specs.ModifiedSvf.{modified_reset}
use Rattle.crossover_svf.specs.CrossoverSvf.{crossover_reset}
use Rattle.modified_svf.specs.declared.ModifiedSvf.{ModifiedSvf as ModifiedFilter}
use Rattle.crossover_svf.specs.declared.CrossoverSvf.{CrossoverSvf as CrossoverFilter}
use Rattle.any_filter.specs.declared.Passes.{Passes}
use Rattle.any_filter.specs.declared.FilterType.{FilterType}
use Rattle.any_filter.specs.declared.FilterType.TheVariants as type
use Rattle.any_filter.specs.declared.Filter.{Filter}
use Rattle.any_filter.specs.declared.Filter.TheVariants.{DcBlocker, OnePole, Svf, NaiveSvf, ModifiedSvf, CrossoverSvf}

-- the type of a filter: the kind of a head in document 01
abbrev pub type_of : Filter → FilterType
type_of (DcBlocker s) = type.DcBlocker
type_of (OnePole s) = type.OnePole
type_of (Svf s) = type.Svf
type_of (NaiveSvf s) = type.NaiveSvf
type_of (ModifiedSvf s) = type.ModifiedSvf
type_of (CrossoverSvf s) = type.CrossoverSvf

-- a crossover filter with the members of its arrays singly, and back
abbrev pub passes_of : CrossoverFilter → Passes
passes_of s =
    record {
      f = s.f;
      fq = s.fq;
      x_0 = field s.x 0;
      x_1 = field s.x 1;
      lp_0 = field s.lp 0;
      lp_1 = field s.lp 1;
      bp_0 = field s.bp 0;
      bp_1 = field s.bp 1;
    }

abbrev pub crossover_from : Passes → CrossoverFilter
crossover_from p = record { f = p.f; fq = p.fq; x = p.x_0 ∷ p.x_1 ∷ []; lp = p.lp_0 ∷ p.lp_1 ∷ []; bp = p.bp_0 ∷ p.bp_1 ∷ [] }

-- a modified filter with x = 0: the last sample is forgotten
abbrev pub without_last : ModifiedFilter → ModifiedFilter
without_last s = record { f = s.f; fq = s.fq; x = zeroᶠ; lp = s.lp; bp = s.bp }

-- Rest in the frame: the type's own reset; of the DC blocker, which has none, x and y become 0. The modified filter's reset leaves the last
-- sample, so x = 0 follows it (document 02, e).
abbrev pub rested : Filter → Filter
rested (DcBlocker s) = DcBlocker (dc_init s s.pole)
rested (OnePole s) = OnePole (one_pole_reset s)
rested (Svf s) = Svf (svf_reset s)
rested (NaiveSvf s) = NaiveSvf (naive_reset s)
rested (ModifiedSvf s) = ModifiedSvf (without_last (modified_reset s))
rested (CrossoverSvf p) = CrossoverSvf (passes_of (crossover_reset (crossover_from p)))
