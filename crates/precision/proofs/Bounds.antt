-- The bounds, over every float and every word of the span. Assumes nothing.
use mathlib.Core.Path.{◌≡◌, refl}
use mathlib.Core.Bool.{true, false}
use Prim.Native.Nat.{ℕ}
use lib.Ieee.{Float, of_bits, le, lt}
use lib.Ieee.Bits.{is_true}
use Rattle.std.proofs.lemmas.Bool.{and_parts, false_from_ne_true}
use Rattle.std.proofs.lemmas.Float.{T_from_true, lt_of_le_of_lt}
use Rattle.filter_core.specs.Arithmetic.{word, zeroᶠ}
use Rattle.filter_core.specs.declared.FrequencyApproximation.TheVariants.{Exact, Series}
use Rattle.one_pole.specs.Tangent.{tan_of}
use Rattle.precision.specs.Scaled.{exact, within}
use Rattle.precision.specs.Precision.{lowest, highest, in_span, exact_series, Precision}
use Rattle.precision.proofs.Counted.{Formula, in_binary32, exactly, within_span}
use Rattle.precision.proofs.Words.{words_in_span}
use Rattle.precision.proofs.Polynomials.{over_span, dirty, fast, accurate, series, dirty_counts, fast_counts, accurate_counts, series_counts}

bounded : (e : Formula) (t : ℕ) → over_span e t → (f : Float) → in_span f ≡ true → within t (in_binary32 e f) (exactly e (exact f)) ≡ true
bounded e t = within_span lowest highest e t

-- up to 0.25 Exact neither mirrors, nor clips, nor takes a reciprocal
setting_exact_is : (f : Float) → in_span f ≡ true → le f (word 0x3e80_0000) ≡ true → tan_of f Exact ≡ tan_of f Series
unfolding lt of_bits
setting_exact_is f i q =
    let a : lt f zeroᶠ ≡ false = false_from_ne_true (lt f zeroᶠ) (λ h. lt_of_le_of_lt lowest f zeroᶠ (T_from_true (le lowest f) (and_parts _ _ i).0) (T_from_true (lt f zeroᶠ) h)) in
    let b : lt f (word 0x3efe_76c9) ≡ true = is_true (lt f (word 0x3efe_76c9)) (lt_of_le_of_lt f (word 0x3e80_0000) (word 0x3efe_76c9) (T_from_true (le f (word 0x3e80_0000)) q) tt) in
    rw (a, b, q) refl

by_series : (f : Float) → in_span f ≡ true → within 33 (tan_of f Series) (exact_series (exact f)) ≡ true
by_series = bounded series _ series_counts

pub precision : Precision
precision = record {
  words = words_in_span;
  dirty = bounded dirty _ dirty_counts;
  fast = bounded fast _ fast_counts;
  accurate = bounded accurate _ accurate_counts;
  series = by_series;
  setting_exact_to_quarter = λ f i q. rw (setting_exact_is f i q) (by_series f i);
}
