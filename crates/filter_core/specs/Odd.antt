-- Odd functions of a frequency, by 02 c.
use Rattle.std.specs.Prelude.{◌≡◌, true, false, cond, Float}
use Rattle.std.specs.Float.Ieee.{lt}
use Rattle.filter_core.specs.Arithmetic.{zeroᶠ, negᶠ}

-- g from 0 up, and below 0 the value at -f negated. -0.0 is not below 0, and neither is a NaN
abbrev pub odd : (Float → Float) → Float → Float
odd g f = cond (lt f zeroᶠ) (negᶠ (g (negᶠ f))) (g f)

-- `value` is g at every f that is not below 0, and at every f that is, its own value at -f negated
pub record OddFrom (g value : Float → Float) : Type 0 where
  pub from_zero : (f : Float) → lt f zeroᶠ ≡ false → value f ≡ g f
  pub below_zero : (f : Float) → lt f zeroᶠ ≡ true → value f ≡ negᶠ (value (negᶠ f))
