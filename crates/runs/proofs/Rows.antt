-- 9 and 10 by their rows. Assumes nothing.
use Prim.Native.Nat.{zero, suc}
use mathlib.Core.Path.{◌≡◌, refl, sym, ◌∙◌}
use mathlib.Core.Bool.{Bool, true, false}
use mathlib.Core.List.{[], ◌∷◌}
use native.Mathlib.Omega.{arith}
use lib.Dec.{eqb-suc-zero}
use Rattle.std.proofs.lemmas.Bool.{false≢true}
use Rattle.filter_core.specs.Rows.{First, none, here, later}
use Rattle.filter_core.proofs.Rows.{exactly}
use Rattle.any_filter.specs.declared.FilterType.{FilterType}
use Rattle.any_filter.specs.declared.FilterType.TheVariants.{DcBlocker, OnePole, Svf, NaiveSvf, ModifiedSvf, CrossoverSvf}
use Rattle.runs.specs.Form.{is_svf, is_naive, has_form, has_form_two, form_refusal, refusal_if}
use Rattle.runs.specs.Rows.{Has, dc_plain, one_pole_plain, svf_plain, svf_gain, svf_stride, svf_in_multimode, naive_plain, naive_decimate, modified_plain, crossover_plain, HasTwo, svf_gains, svf_pair, naive_split, StepOfZero, zero_stride, zero_decimate, RunCase, no_form, no_step, RunByRows}
use Rattle.runs.specs.declared.form.RunForm.{RunForm}
use Rattle.runs.specs.declared.form.RunForm.TheVariants.{Plain, Gain, Stride, Multimode, Decimate, Gains, Pair, Split}

-- ---- the step

ten : {form : RunForm} → StepOfZero form → form_refusal form ≡ 10
ten zero_stride = refl
ten zero_decimate = refl

module _ {has : FilterType → RunForm → Type 0} {k : FilterType} where
  no_case : {form : RunForm} → form_refusal form ≡ 0 → RunCase has k form 10 → ⊥
  no_case e (no_step s) = let h = sym e ∙ ten s in absurd (omega arith)

  by_step : (form : RunForm) → First (RunCase has k form) (10 ∷ []) (form_refusal form)
  by_step (Plain mode) = later (no_case refl) none
  by_step (Gain mode gain) = later (no_case refl) none
  by_step (Stride mode zero) = here (no_step zero_stride)
  by_step (Stride mode (suc step)) = rw eqb-suc-zero (later (no_case (rw eqb-suc-zero)) none)
  by_step (Multimode value) = later (no_case refl) none
  by_step (Decimate mode zero) = here (no_step zero_decimate)
  by_step (Decimate mode (suc step)) = rw eqb-suc-zero (later (no_case (rw eqb-suc-zero)) none)
  by_step (Gains mode a b) = later (no_case refl) none
  by_step (Pair a b) = later (no_case refl) none
  by_step Split = later (no_case refl) none

  -- ---- the form, where b is the test of it

  there : {form : RunForm} → has k form → RunCase has k form 9 → ⊥
  there h (no_form m) = m h

  by_form : {form : RunForm} (b : Bool) → (b ≡ true → has k form) → (has k form → b ≡ true) → First (RunCase has k form) (9 ∷ 10 ∷ []) (refusal_if b form)
  by_form {form} true p q = later (there (p refl)) (by_step form)
  by_form false p q = here (no_form (λ h. false≢true (q h)))

-- ---- which filter has which form

svf_is : (k : FilterType) → is_svf k ≡ true → k ≡ Svf
svf_is DcBlocker e = cc
svf_is OnePole e = cc
svf_is Svf e = refl
svf_is NaiveSvf e = cc
svf_is ModifiedSvf e = cc
svf_is CrossoverSvf e = cc

naive_is : (k : FilterType) → is_naive k ≡ true → k ≡ NaiveSvf
naive_is DcBlocker e = cc
naive_is OnePole e = cc
naive_is Svf e = cc
naive_is NaiveSvf e = refl
naive_is ModifiedSvf e = cc
naive_is CrossoverSvf e = cc

plain : (k : FilterType) {mode : _} → Has k (Plain mode)
plain DcBlocker = dc_plain
plain OnePole = one_pole_plain
plain Svf = svf_plain
plain NaiveSvf = naive_plain
plain ModifiedSvf = modified_plain
plain CrossoverSvf = crossover_plain

has : (k : FilterType) (form : RunForm) → has_form k form ≡ true → Has k form
has k (Plain mode) e = plain k
has k (Gain mode gain) e = rw (svf_is k e) svf_gain
has k (Stride mode step) e = rw (svf_is k e) svf_stride
has k (Multimode value) e = rw (svf_is k e) svf_in_multimode
has k (Decimate mode step) e = rw (naive_is k e) naive_decimate
has k (Gains mode a b) e = absurd (false≢true e)
has k (Pair a b) e = absurd (false≢true e)
has k Split e = absurd (false≢true e)

tested : {k : FilterType} {form : RunForm} → Has k form → has_form k form ≡ true
tested dc_plain = refl
tested one_pole_plain = refl
tested svf_plain = refl
tested svf_gain = refl
tested svf_stride = refl
tested svf_in_multimode = refl
tested naive_plain = refl
tested naive_decimate = refl
tested modified_plain = refl
tested crossover_plain = refl

has_two : (k : FilterType) (form : RunForm) → has_form_two k form ≡ true → HasTwo k form
has_two k (Plain mode) e = absurd (false≢true e)
has_two k (Gain mode gain) e = absurd (false≢true e)
has_two k (Stride mode step) e = absurd (false≢true e)
has_two k (Multimode value) e = absurd (false≢true e)
has_two k (Decimate mode step) e = absurd (false≢true e)
has_two k (Gains mode a b) e = rw (svf_is k e) svf_gains
has_two k (Pair a b) e = rw (svf_is k e) svf_pair
has_two k Split e = rw (naive_is k e) naive_split

tested_two : {k : FilterType} {form : RunForm} → HasTwo k form → has_form_two k form ≡ true
tested_two svf_gains = refl
tested_two svf_pair = refl
tested_two naive_split = refl

pub by_rows : RunByRows
by_rows =
    record {
      one = λ k form. exactly (by_form (has_form k form) (has k form) tested);
      two = λ k form. exactly (by_form (has_form_two k form) (has_two k form) tested_two);
    }
