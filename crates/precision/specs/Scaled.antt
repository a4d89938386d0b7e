-- Exact numbers, and how far a binary32 value is from one. Whole numbers only, scaled by powers of two.
use Rattle.std.specs.Prelude.{ℕ, suc, ◌+◌, ◌-◌, ◌*◌, ◌^◌, pos, negsuc, Bool, false, not, ◌&&◌, leb, ltb, Float}
use Rattle.std.specs.Float.Ieee.{nan, inf, fin}

-- whole / 2 ^ places
pub record Scaled : Type 0 where
  pub whole : ℕ
  pub places : ℕ

infixl 60 ◌⊕◌
infixl 70 ◌⊗◌
abbrev pub ◌⊕◌ : Scaled → Scaled → Scaled
◌⊕◌ x y = record { whole = x.whole * 2 ^ y.places + y.whole * 2 ^ x.places; places = x.places + y.places }

abbrev pub ◌⊗◌ : Scaled → Scaled → Scaled
◌⊗◌ x y = record { whole = x.whole * y.whole; places = x.places + y.places }

-- A float is a NaN, an infinity, or m * 2 ^ e with a sign; the exponent of `negsuc e` is -(e + 1).

abbrev pub above_zero : Float → Bool
above_zero nan = false
above_zero (inf s) = false
above_zero (fin s m e) = not s && ltb 0 m

-- |v| as it stands, and 0 for a NaN or an infinity: the sign is left out, since every stored coefficient and every f of the span is above zero
abbrev pub exact : Float → Scaled
exact nan = record { whole = 0; places = 0 }
exact (inf s) = record { whole = 0; places = 0 }
exact (fin s m (pos e)) = record { whole = m * 2 ^ e; places = 0 }
exact (fin s m (negsuc e)) = record { whole = m; places = suc e }

-- |a - b|: one of the two differences is 0
abbrev pub distance : ℕ → ℕ → ℕ
distance a b = a - b + (b - a)

-- Whether v is a number above zero with |v - x| ≤ k * 2 ^ -24 * x: within k units. All is taken times the two powers by which v and x are scaled.
abbrev pub within : ℕ → Float → Scaled → Bool
within k v x =
    let size = (exact v).whole * 2 ^ x.places in
    let wanted = x.whole * 2 ^ (exact v).places in
    above_zero v && leb (distance size wanted * 2 ^ 24) (k * wanted)
