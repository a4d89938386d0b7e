-- A power series by Horner's rule.
use Rattle.std.specs.Prelude.{List, [], ◌∷◌, Float}
use Rattle.filter_core.specs.Arithmetic.{◌+ᶠ◌, ◌*ᶠ◌, zeroᶠ}

-- c₀ + y * (c₁ + y * (c₂ + ..)); 0 for no coefficient
abbrev pub horner : Float → List Float → Float
horner y [] = zeroᶠ
horner y (c ∷ []) = c
horner y (c ∷ (d ∷ cs)) = c +ᶠ y *ᶠ horner y (d ∷ cs)
