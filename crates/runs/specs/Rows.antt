-- The rows 9 and 10 of the refusal table, as statements about the filter's type and the form.
use Rattle.std.specs.Prelude.{ℕ, [], ◌∷◌, Float}
use Rattle.filter_core.specs.Rows.{Exactly}
use Rattle.filter_core.specs.declared.FilterMode.{FilterMode}
use Rattle.any_filter.specs.declared.FilterType.{FilterType}
use Rattle.any_filter.specs.declared.FilterType.TheVariants.{DcBlocker, OnePole, Svf, NaiveSvf, ModifiedSvf, CrossoverSvf}
use Rattle.runs.specs.Form.{run_refusal, run_two_refusal}
use Rattle.runs.specs.declared.form.RunForm.{RunForm}
use Rattle.runs.specs.declared.form.RunForm.TheVariants.{Plain, Gain, Stride, Multimode, Decimate, Gains, Pair, Split}

-- the forms of a run with one output, filter by filter
pub data Has : FilterType → RunForm → Type 0 where
  dc_plain : {mode : FilterMode} → Has DcBlocker (Plain mode)
  one_pole_plain : {mode : FilterMode} → Has OnePole (Plain mode)
  svf_plain : {mode : FilterMode} → Has Svf (Plain mode)
  svf_gain : {mode : FilterMode} {gain : Float} → Has Svf (Gain mode gain)
  svf_stride : {mode : FilterMode} {step : ℕ} → Has Svf (Stride mode step)
  svf_in_multimode : {value : Float} → Has Svf (Multimode value)
  naive_plain : {mode : FilterMode} → Has NaiveSvf (Plain mode)
  naive_decimate : {mode : FilterMode} {step : ℕ} → Has NaiveSvf (Decimate mode step)
  modified_plain : {mode : FilterMode} → Has ModifiedSvf (Plain mode)
  crossover_plain : {mode : FilterMode} → Has CrossoverSvf (Plain mode)

-- and with two outputs
pub data HasTwo : FilterType → RunForm → Type 0 where
  svf_gains : {mode : FilterMode} {a b : Float} → HasTwo Svf (Gains mode a b)
  svf_pair : {a b : FilterMode} → HasTwo Svf (Pair a b)
  naive_split : HasTwo NaiveSvf Split

-- the forms that go by a step of 0
pub data StepOfZero : RunForm → Type 0 where
  zero_stride : {mode : FilterMode} → StepOfZero (Stride mode 0)
  zero_decimate : {mode : FilterMode} → StepOfZero (Decimate mode 0)

-- the case of each number, where `has` says which forms there are
pub data RunCase (has : FilterType → RunForm → Type 0) (k : FilterType) (form : RunForm) : ℕ → Type 0 where
  no_form : (has k form → ⊥) → RunCase has k form 9
  no_step : StepOfZero form → RunCase has k form 10

pub record RunByRows : Type 0 where
  pub one : (k : FilterType) (form : RunForm) → Exactly (RunCase Has k form) (9 ∷ 10 ∷ []) (run_refusal k form)
  pub two : (k : FilterType) (form : RunForm) → Exactly (RunCase HasTwo k form) (9 ∷ 10 ∷ []) (run_two_refusal k form)
