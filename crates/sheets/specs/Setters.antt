-- A sheet's 11 is the setter's: `frequency_refusal` is the number in the contracts of set_f and both set_f_q.
use Rattle.std.specs.Prelude.{◌≡◌, Some}
use Rattle.filter_core.specs.Arithmetic.{word}
use Rattle.filter_core.specs.Refusal.{frequency_refusal}
use Rattle.filter_core.specs.declared.FrequencyApproximation.{FrequencyApproximation}
use Rattle.sheets.specs.Kind.{setter_in}
use Rattle.sheets.specs.Refusal.{used, words_refusal, entry_refusal}
use Rattle.sheets.specs.declared.edition.Edition.{Edition}
use Rattle.sheets.specs.declared.entry.Entry.{Entry}
use Rattle.sheets.specs.declared.setter.Setter.{Setter}
use Rattle.sheets.specs.declared.setter.Setter.TheVariants.{OnePole, SvfFrequency, NaiveSvf}

-- the setters that take a frequency, and with it an approximation: set_f and both set_f_q
pub data FrequencySetter : Setter → FrequencyApproximation → Type 0 where
  one_pole : {p : FrequencyApproximation} → FrequencySetter (OnePole p) p
  svf : {p : FrequencyApproximation} → FrequencySetter (SvfFrequency p) p
  naive : {p : FrequencyApproximation} → FrequencySetter (NaiveSvf p) p

pub record AsSetters : Type 0 where
  -- an entry that is right in its kind and its words gets the number that its setter answers for its f
  pub same : (v : Edition) (t : Entry) (s : Setter) (p : FrequencyApproximation) → setter_in v t.kind ≡ Some s → FrequencySetter s p → words_refusal (used s) t ≡ 0
      → entry_refusal v t ≡ frequency_refusal (word t.a) p
  -- so no setter refuses an entry of a sheet
  pub taken : (v : Edition) (t : Entry) (s : Setter) (p : FrequencyApproximation) → setter_in v t.kind ≡ Some s → FrequencySetter s p → entry_refusal v t ≡ 0 → frequency_refusal (word t.a) p ≡ 0
