-- tan (π f): the series of Abramowitz and Stegun, and the source's three polynomials.
use Rattle.std.specs.Prelude.{cond, List, [], ◌∷◌, Float}
use Rattle.std.specs.Float.Ieee.{le}
use Rattle.filter_core.specs.Arithmetic.{◌+ᶠ◌, ◌-ᶠ◌, ◌*ᶠ◌, ◌/ᶠ◌, word, halfᶠ, oneᶠ, πᶠ}
use Rattle.filter_core.specs.Series.{horner}
use Rattle.filter_core.specs.Clip.{clip_at}
use Rattle.filter_core.specs.Odd.{odd, OddFrom}
use Rattle.filter_core.specs.declared.FrequencyApproximation.{FrequencyApproximation}
use Rattle.filter_core.specs.declared.FrequencyApproximation.TheVariants.{Exact, Accurate, Fast, Dirty, Series}

-- ---- Exact

-- 0.497 where f is not below it, so at a NaN too
abbrev pub clip : Float → Float
clip f = clip_at (word 0x3efe_76c9) f

-- 4.3.101: 1, 0.3333314036, 0.1333923995, 0.0533740603, 0.0245650893, 0.0029005250, 0.0095168091
abbrev pub tangent_row : List Float
tangent_row =
    oneᶠ ∷ word 0x3eaa_aa6a ∷ word 0x3e08_9804 ∷ word 0x3d5a_9ec2 ∷ word 0x3cc9_3cba ∷ word 0x3b3e_16bc ∷ word 0x3c1b_ec64 ∷ []

-- T(x)
abbrev pub tan_series : Float → Float
tan_series x = x *ᶠ horner (x *ᶠ x) tangent_row

-- T(π f) up to f = 0.25, above that 1 / T(π (0.5 - f))
abbrev pub tangent : Float → Float
tangent f = cond (le f (word 0x3e80_0000)) (tan_series (πᶠ *ᶠ f)) (oneᶠ /ᶠ tan_series (πᶠ *ᶠ (halfᶠ -ᶠ f)))

-- as 01 has it, for f from 0 up
abbrev pub tan_exact : Float → Float
tan_exact f = tangent (clip f)

-- 01's from 0 up, and by 02 c mirrored below
abbrev pub tan_mirrored : Float → Float
tan_mirrored f = odd tan_exact f

-- ---- the source's polynomials

abbrev π² : Float
π² = πᶠ *ᶠ πᶠ

abbrev π³ : Float
π³ = π² *ᶠ πᶠ

abbrev π⁵ : Float
π⁵ = π³ *ᶠ π²

abbrev π⁷ : Float
π⁷ = π⁵ *ᶠ π²

abbrev π⁹ : Float
π⁹ = π⁷ *ᶠ π²

abbrev π¹¹ : Float
π¹¹ = π⁹ *ᶠ π²

-- 0.3736
unfoldable pub dirty_a : Float
dirty_a = word 0x3ebf_4880 *ᶠ π³

abbrev pub tan_dirty : Float → Float
tan_dirty f = f *ᶠ (πᶠ +ᶠ dirty_a *ᶠ f *ᶠ f)

-- 0.3260, 0.1823
unfoldable pub fast_a : Float
fast_a = word 0x3ea6_e979 *ᶠ π³

unfoldable pub fast_b : Float
fast_b = word 0x3e3a_acda *ᶠ π⁵

abbrev pub tan_fast : Float → Float
tan_fast f = let y = f *ᶠ f in f *ᶠ (πᶠ +ᶠ y *ᶠ (fast_a +ᶠ fast_b *ᶠ y))

-- 0.3333314036, 0.1333923995, 0.0533740603, 0.0029005250, 0.0095168091: the series' fourth number is missing, as in the source
unfoldable pub accurate_a : Float
accurate_a = word 0x3eaa_aa6a *ᶠ π³

unfoldable pub accurate_b : Float
accurate_b = word 0x3e08_9804 *ᶠ π⁵

unfoldable pub accurate_c : Float
accurate_c = word 0x3d5a_9ec2 *ᶠ π⁷

unfoldable pub accurate_d : Float
accurate_d = word 0x3b3e_16bc *ᶠ π⁹

unfoldable pub accurate_e : Float
accurate_e = word 0x3c1b_ec64 *ᶠ π¹¹

abbrev pub tan_accurate : Float → Float
tan_accurate f =
    let y = f *ᶠ f in
    f *ᶠ (πᶠ +ᶠ y *ᶠ (accurate_a +ᶠ y *ᶠ (accurate_b +ᶠ y *ᶠ (accurate_c +ᶠ y *ᶠ (accurate_d +ᶠ y *ᶠ accurate_e)))))

-- ---- 02 a's approximation 4

-- T(π f) at every f: not clipped, and no reciprocal
abbrev pub tan_by_series : Float → Float
tan_by_series f = tan_series (πᶠ *ᶠ f)

abbrev pub tan_of : Float → FrequencyApproximation → Float
tan_of f Exact = tan_mirrored f
tan_of f Accurate = tan_accurate f
tan_of f Fast = tan_fast f
tan_of f Dirty = tan_dirty f
tan_of f Series = tan_by_series f

-- Exact's tangent is odd
abbrev pub TangentIsOdd : Type 0
TangentIsOdd = OddFrom tan_exact (λ f. tan_of f Exact)
