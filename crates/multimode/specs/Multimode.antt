-- The gains of multimode: low-pass at 0, inverted high-pass at 0.5, band-pass at 1.
use Rattle.std.specs.Prelude.{cond, Float}
use Rattle.std.specs.Float.Ieee.{lt}
use Rattle.filter_core.specs.Arithmetic.{◌+ᶠ◌, ◌-ᶠ◌, ◌*ᶠ◌, negᶠ, zeroᶠ, halfᶠ, oneᶠ, twoᶠ}

abbrev pub high_gain : Float → Float
high_gain m = cond (lt m halfᶠ) (negᶠ m *ᶠ twoᶠ) (negᶠ twoᶠ +ᶠ m *ᶠ twoᶠ)

abbrev pub band_gain : Float → Float
band_gain m = cond (lt m halfᶠ) zeroᶠ (m *ᶠ twoᶠ -ᶠ oneᶠ)

abbrev pub low_gain : Float → Float
low_gain m = cond (lt m halfᶠ) (oneᶠ -ᶠ m *ᶠ twoᶠ) zeroᶠ
