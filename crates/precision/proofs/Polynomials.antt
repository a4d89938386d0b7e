-- The polynomials as formulas: 4, 7, 16 and 32 roundings. That the two values of a formula are those of `Precision` is seen where Bounds.antt
-- uses it. Assumes nothing.
use mathlib.Core.Path.{◌≡◌, refl}
use mathlib.Core.Bool.{true}
use mathlib.Core.List.{List, [], ◌∷◌}
use Prim.Native.Nat.{ℕ}
use lib.Ieee.{Float, mul, of_bits}
use Rattle.filter_core.specs.Arithmetic.{zeroᶠ, πᶠ}
use Rattle.one_pole.specs.Tangent.{dirty_a, fast_a, fast_b, accurate_a, accurate_b, accurate_c, accurate_d, accurate_e, tangent_row}
use Rattle.precision.specs.Precision.{lowest, highest}
use Rattle.precision.proofs.Counted.{Formula, var, stored, ◌⊞◌, ◌⊠◌, counts}

-- c₀ + y * (c₁ + y * (c₂ + ..))
abbrev by_horner : Formula → List Float → Formula
by_horner y [] = stored zeroᶠ
by_horner y (c ∷ []) = stored c
by_horner y (c ∷ (d ∷ cs)) = stored c ⊞ y ⊠ by_horner y (d ∷ cs)

abbrev pub dirty : Formula
dirty = var ⊠ (stored πᶠ ⊞ stored dirty_a ⊠ var ⊠ var)

abbrev pub fast : Formula
fast = let y = var ⊠ var in var ⊠ (stored πᶠ ⊞ y ⊠ (stored fast_a ⊞ stored fast_b ⊠ y))

abbrev pub accurate : Formula
accurate = var ⊠ by_horner (var ⊠ var) (πᶠ ∷ accurate_a ∷ accurate_b ∷ accurate_c ∷ accurate_d ∷ accurate_e ∷ [])

abbrev pub series : Formula
series = let x = stored πᶠ ⊠ var in x ⊠ by_horner (x ⊠ x) tangent_row

abbrev pub over_span : Formula → ℕ → Type 0
over_span e t = counts lowest highest e t ≡ true

pub dirty_counts : over_span dirty 5
unfolding dirty_a mul of_bits
dirty_counts = refl

pub fast_counts : over_span fast 8
unfolding fast_a fast_b mul of_bits
fast_counts = refl

pub accurate_counts : over_span accurate 17
unfolding accurate_a accurate_b accurate_c accurate_d accurate_e mul of_bits
accurate_counts = refl

pub series_counts : over_span series 33
unfolding of_bits
series_counts = refl
