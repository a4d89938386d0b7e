-- What a load makes of an entry that the check takes is what the setter makes: no setter refuses it, so no head is left with a filter unset.
use Rattle.std.specs.Prelude.{◌≡◌, Some}
use Rattle.filter_core.specs.Arithmetic.{word}
use Rattle.filter_core.specs.declared.FrequencyApproximation.{FrequencyApproximation}
use Rattle.one_pole.specs.OnePole.{one_pole_new, one_pole_set_f}
use Rattle.svf.specs.Svf.{svf_new, svf_set_f_q}
use Rattle.naive_svf.specs.NaiveSvf.{naive_new, naive_set_f_q}
use Rattle.any_filter.specs.declared.Filter.TheVariants as type
use Rattle.sheets.specs.Kind.{setter_of}
use Rattle.sheets.specs.Refusal.{entry_refusal}
use Rattle.sheets.specs.declared.edition.Edition.{Edition}
use Rattle.sheets.specs.declared.entry.Entry.{Entry}
use Rattle.sheets.specs.declared.setter.Setter.TheVariants.{OnePole, SvfFrequency, NaiveSvf}
use Rattle.loads.specs.Load.{filter_of}

-- said of the setters that can refuse
pub record LoadsSet (t : Entry) (p : FrequencyApproximation) : Type 0 where
  pub one_pole : setter_of t.kind ≡ Some (OnePole p) → filter_of t ≡ type.OnePole (one_pole_set_f one_pole_new (word t.a) p)
  pub svf : setter_of t.kind ≡ Some (SvfFrequency p) → filter_of t ≡ type.Svf (svf_set_f_q svf_new (word t.a) (word t.b) p)
  pub naive : setter_of t.kind ≡ Some (NaiveSvf p) → filter_of t ≡ type.NaiveSvf (naive_set_f_q naive_new (word t.a) (word t.b) p)

abbrev pub LoadsAreSet : Type 0
LoadsAreSet = (v : Edition) (t : Entry) (p : FrequencyApproximation) → entry_refusal v t ≡ 0 → LoadsSet t p
