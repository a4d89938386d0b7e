-- Which filter has which form, and what a run is refused for.
use Rattle.std.specs.Prelude.{ℕ, Bool, true, false, cond}
use Rattle.filter_core.specs.Refusal.{step_refusal}
use Rattle.any_filter.specs.declared.FilterType.{FilterType}
use Rattle.any_filter.specs.declared.FilterType.TheVariants.{DcBlocker, OnePole, Svf, NaiveSvf, ModifiedSvf, CrossoverSvf}
use Rattle.runs.specs.declared.form.RunForm.{RunForm}
use Rattle.runs.specs.declared.form.RunForm.TheVariants.{Plain, Gain, Stride, Multimode, Decimate, Gains, Pair, Split}

abbrev pub is_svf : FilterType → Bool
is_svf DcBlocker = false
is_svf OnePole = false
is_svf Svf = true
is_svf NaiveSvf = false
is_svf ModifiedSvf = false
is_svf CrossoverSvf = false

abbrev pub is_naive : FilterType → Bool
is_naive DcBlocker = false
is_naive OnePole = false
is_naive Svf = false
is_naive NaiveSvf = true
is_naive ModifiedSvf = false
is_naive CrossoverSvf = false

-- the forms with one output
abbrev pub has_form : FilterType → RunForm → Bool
has_form k (Plain mode) = true
has_form k (Gain mode gain) = is_svf k
has_form k (Stride mode step) = is_svf k
has_form k (Multimode value) = is_svf k
has_form k (Decimate mode step) = is_naive k
has_form k (Gains mode a b) = false
has_form k (Pair a b) = false
has_form k Split = false

-- the forms with two outputs
abbrev pub has_form_two : FilterType → RunForm → Bool
has_form_two k (Plain mode) = false
has_form_two k (Gain mode gain) = false
has_form_two k (Stride mode step) = false
has_form_two k (Multimode value) = false
has_form_two k (Decimate mode step) = false
has_form_two k (Gains mode a b) = is_svf k
has_form_two k (Pair a b) = is_svf k
has_form_two k Split = is_naive k

-- 10 where a form goes by a step of 0
abbrev pub form_refusal : RunForm → ℕ
form_refusal (Plain mode) = 0
form_refusal (Gain mode gain) = 0
form_refusal (Stride mode step) = step_refusal step
form_refusal (Multimode value) = 0
form_refusal (Decimate mode step) = step_refusal step
form_refusal (Gains mode a b) = 0
form_refusal (Pair a b) = 0
form_refusal Split = 0

-- 9, then 10
abbrev pub refusal_if : Bool → RunForm → ℕ
refusal_if has form = cond has (form_refusal form) 9

abbrev pub run_refusal : FilterType → RunForm → ℕ
run_refusal k form = refusal_if (has_form k form) form

abbrev pub run_two_refusal : FilterType → RunForm → ℕ
run_two_refusal k form = refusal_if (has_form_two k form) form
