-- The frequency coefficient: twice the sine of π f by the series of Abramowitz and Stegun, or 2 π f.
use Rattle.std.specs.Prelude.{List, [], ◌∷◌, Float}
use Rattle.filter_core.specs.Arithmetic.{◌*ᶠ◌, word, oneᶠ, twoᶠ, πᶠ}
use Rattle.filter_core.specs.Series.{horner}
use Rattle.filter_core.specs.Clip.{clip_at}
use Rattle.filter_core.specs.Odd.{odd, OddFrom}
use Rattle.filter_core.specs.declared.FrequencyApproximation.{FrequencyApproximation}
use Rattle.filter_core.specs.declared.FrequencyApproximation.TheVariants.{Exact, Accurate, Fast, Dirty, Series}

-- 4.3.97: 1, -0.1666666664, 0.0083333315, -0.0001984090, 0.0000027526, -0.0000000239
abbrev sine_row : List Float
sine_row = oneᶠ ∷ word 0xbe2a_aaab ∷ word 0x3c08_8887 ∷ word 0xb950_0c03 ∷ word 0x3638_b94f ∷ word 0xb2cd_4ca8 ∷ []

abbrev pub sine_series : Float → Float
sine_series x = x *ᶠ horner (x *ᶠ x) sine_row

-- clipped at 0.497, as 01 has it, for f from 0 up
abbrev pub sine_exact : Float → Float
sine_exact f = sine_series (πᶠ *ᶠ clip_at (word 0x3efe_76c9) f)

-- 01's from 0 up, and by 02 c mirrored below
abbrev pub sine_mirrored : Float → Float
sine_mirrored f = odd sine_exact f

abbrev pub naive_exact : Float → Float
naive_exact f = twoᶠ *ᶠ sine_mirrored f

-- clipped at 0.158: the source's three others, and 02 a's approximation 4
abbrev pub naive_linear : Float → Float
naive_linear f = twoᶠ *ᶠ πᶠ *ᶠ clip_at (word 0x3e21_cac1) f

abbrev pub naive_frequency : Float → FrequencyApproximation → Float
naive_frequency f Exact = naive_exact f
naive_frequency f Accurate = naive_linear f
naive_frequency f Fast = naive_linear f
naive_frequency f Dirty = naive_linear f
naive_frequency f Series = naive_linear f

-- Exact's coefficient is odd
abbrev pub SineIsOdd : Type 0
SineIsOdd = OddFrom (λ f. twoᶠ *ᶠ sine_exact f) (λ f. naive_frequency f Exact)
