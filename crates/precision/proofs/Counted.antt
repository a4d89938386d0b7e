-- A formula of sums and products, evaluated in binary32: its roundings are counted, and by so many its value may be off the exact one.
-- Assumes nothing.
use mathlib.Core.Path.{◌≡◌}
use mathlib.Core.Bool.{Bool, true, ◌&&◌}
use Prim.Native.Nat.{ℕ, suc, ◌+◌, ◌-◌, ◌*◌, ◌^◌, ◌≤◌, ◌<◌, max}
use native.Mathlib.Nat.{add-zero, zero-add, le_of_mul-le-mul_right, mul-le-mul_right, mul-sub, one-le-pow}
use native.Mathlib.Numerals.{one-add}
use native.Mathlib.Omega.{arith}
use lib.Dec.{T, leb, lit≤}
use lib.Ieee.{Float, le}
use lib.Ieee.Positive.{positive, between, le→cross}
use Rattle.std.proofs.lemmas.Bool.{and_from, and_parts, leb-true, le-leb}
use Rattle.std.proofs.lemmas.Float.{T_from_true}
use Rattle.std.proofs.Math.Nat.{le-max_left, le-max_right}
use Rattle.filter_core.specs.Arithmetic.{◌+ᶠ◌, ◌*ᶠ◌}
use Rattle.precision.specs.Scaled.{Scaled, ◌⊕◌, ◌⊗◌, exact, distance, within}
use Rattle.precision.proofs.Near.{N, U, Under, under_self, under_chain, under_back, under_product, under_sum, Near, near_self, near_more, near_chain, near_product, near_sum}
use Rattle.precision.proofs.Rounding.{whole_is, scale_is, rounded, least, most, Normal, Close, round_close, mul_rounded, add_rounded, is_above_zero}

infixl 60 ◌⊞◌
infixl 70 ◌⊠◌
pub data Formula : Type 0 where
  var : Formula
  stored : Float → Formula
  ◌⊞◌ ◌⊠◌ : Formula → Formula → Formula

abbrev pub in_binary32 : Formula → Float → Float
in_binary32 var f = f
in_binary32 (stored c) f = c
in_binary32 (d ⊞ e) f = in_binary32 d f +ᶠ in_binary32 e f
in_binary32 (d ⊠ e) f = in_binary32 d f *ᶠ in_binary32 e f

abbrev pub exactly : Formula → Scaled → Scaled
exactly var f = f
exactly (stored c) f = exact c
exactly (d ⊞ e) f = exactly d f ⊕ exactly e f
exactly (d ⊠ e) f = exactly d f ⊗ exactly e f

-- a sum has the roundings of the side with more, a product those of both; and one for the operation
abbrev pub roundings : Formula → ℕ
roundings var = 0
roundings (stored c) = 0
roundings (d ⊞ e) = suc (max (roundings d) (roundings e))
roundings (d ⊠ e) = suc (roundings d + roundings e)

-- ---- No value leaves the normal range. All of them grow with the argument, so it is enough to look at the two ends of its span.

-- x * (1 + 2 ^ -24) ^ k ≤ y: there is room for k roundings
abbrev room : ℕ → Scaled → Scaled → Bool
room k x y = leb (x.whole * 2 ^ y.places * U ^ k) (y.whole * 2 ^ x.places * N ^ k)

-- between lo and hi, and k roundings off, a value can be rounded once more in the normal range
abbrev in_range : ℕ → Scaled → Scaled → Bool
in_range k lo hi = room k least lo && room k hi most

abbrev pub fits : Scaled → Scaled → Formula → Bool
fits lo hi var = true
fits lo hi (stored c) = positive c
fits lo hi (d ⊞ e) = fits lo hi d && (fits lo hi e && in_range (max (roundings d) (roundings e)) (exactly (d ⊞ e) lo) (exactly (d ⊞ e) hi))
fits lo hi (d ⊠ e) = fits lo hi d && (fits lo hi e && in_range (roundings d + roundings e) (exactly (d ⊠ e) lo) (exactly (d ⊠ e) hi))

grows : (e : Formula) (x y : Scaled) → Under N U 0 x y → Under N U 0 (exactly e x) (exactly e y)
grows var x y h = h
grows (stored c) x y h = under_self N U (exact c)
grows (d ⊞ e) x y h = under_sum N U (exactly d x) (exactly d y) (exactly e x) (exactly e y) 0 (grows d x y h) (grows e x y h)
grows (d ⊠ e) x y h = under_product N U (exactly d x) (exactly d y) (exactly e x) (exactly e y) 0 0 (grows d x y h) (grows e x y h)

under : (k : ℕ) (x y : Scaled) → room k x y ≡ true → Under U N k x y
under k x y t = leb-true (x.whole * 2 ^ y.places * U ^ k) (y.whole * 2 ^ x.places * N ^ k) t

module _ {k : ℕ} {a x : Scaled} (lo hi : Scaled) (t : in_range k lo hi ≡ true) (from : Under N U 0 lo x) (to : Under N U 0 x hi) (h : Near k a x) where
  stays_normal : Normal a
  stays_normal =
      let s = and_parts _ _ t in
      record {
        from = under_back U N least lo a k (lit≤ tt) (under k least lo s.0) (rw zero-add at (under_chain N U lo x a 0 k from h.below));
        to = under_back N U a hi most k (lit≤ tt) (rw add-zero at (under_chain N U a x hi k 0 h.above to)) (under k hi most s.1);
      }

  -- one rounding more
  step : Close (suc k) (rounded a) x
  step =
      let r = round_close a stays_normal in
      record { above_zero = r.above_zero; near = rw one-add at (near_chain r.near h) }

-- ---- a sum and a product

module _ {v w : Float} {x y : Scaled} {j k : ℕ} (a : Close j v x) (b : Close k w y) (lo hi : Scaled) where
  sum_close : in_range (max j k) lo hi ≡ true → Under N U 0 lo (x ⊕ y) → Under N U 0 (x ⊕ y) hi → Close (suc (max j k)) (v +ᶠ w) (x ⊕ y)
  sum_close t from to =
      let n = near_sum (near_more (max j k) (le-max_left j k) a.near) (near_more (max j k) (le-max_right j k) b.near) in
      rw (add_rounded v w a.above_zero b.above_zero) (step lo hi t from to n)

  product_close : in_range (j + k) lo hi ≡ true → Under N U 0 lo (x ⊗ y) → Under N U 0 (x ⊗ y) hi → Close (suc (j + k)) (v *ᶠ w) (x ⊗ y)
  product_close t from to =
      rw (mul_rounded v w a.above_zero b.above_zero)
      (step lo hi t from to (near_product a.near b.near))

-- ---- the law

module _ (lo hi : Scaled) (f : Float) (p : T (positive f)) (from : Under N U 0 lo (exact f)) (to : Under N U 0 (exact f) hi) where
  counted : (e : Formula) → fits lo hi e ≡ true → Close (roundings e) (in_binary32 e f) (exactly e (exact f))
  counted var t = record { above_zero = p; near = near_self (exact f) }
  counted (stored c) t = record { above_zero = T_from_true (positive c) t; near = near_self (exact c) }
  counted (d ⊞ e) t =
      let l = exactly (d ⊞ e) lo in
      let h = exactly (d ⊞ e) hi in
      let s = and_parts _ _ t in
      let r = and_parts _ _ s.1 in
      sum_close (counted d s.0) (counted e r.0) l h r.1
      (grows (d ⊞ e) lo (exact f) from) (grows (d ⊞ e) (exact f) hi to)
  counted (d ⊠ e) t =
      let l = exactly (d ⊠ e) lo in
      let h = exactly (d ⊠ e) hi in
      let s = and_parts _ _ t in
      let r = and_parts _ _ s.1 in
      product_close (counted d s.0) (counted e r.0) l h r.1
      (grows (d ⊠ e) lo (exact f) from) (grows (d ⊠ e) (exact f) hi to)

-- ---- from roundings to units

-- (1 + 2 ^ -24) ^ k is at most 1 + t * 2 ^ -24, and its inverse at least 1 - t * 2 ^ -24
abbrev units_cover : ℕ → ℕ → Bool
units_cover k t = leb (U ^ k * N) (N ^ k * (N + t)) && leb (U ^ k * (N - t)) (N ^ k * N)

close_within : (k t : ℕ) (v : Float) (x : Scaled) → units_cover k t ≡ true → Close k v x → within t v x ≡ true
close_within k t v x h a =
    let p = (exact v).whole * 2 ^ x.places in
    let q = x.whole * 2 ^ (exact v).places in
    let c = and_parts _ _ h in
    let n = one-le-pow k N (lit≤ tt) in
    let more = turn p q (N ^ k) (U ^ k) N (N + t) n (leb-true (U ^ k * N) (N ^ k * (N + t)) c.0) a.near.above in
    let less = turn q p (N ^ k) (U ^ k) (N - t) N n (leb-true (U ^ k * (N - t)) (N ^ k * N) c.1) a.near.below in
    and_from _ _ (is_above_zero v a.above_zero) (le-leb (distance p q * N) (t * q) (apart p q N t more less))
  where
    -- of p ≤ q * (u / n) and u / n ≤ s / r
    turn : (p q n u r s : ℕ) → 0 < n → u * r ≤ n * s → p * n ≤ q * u → p * r ≤ q * s
    turn p q n u r s n>0 h c = le_of_mul-le-mul_right {k = n} (omega (arith, mul-le-mul_right r c, mul-le-mul_right q h)) n>0

    apart : (p q m t : ℕ) → p * m ≤ q * (m + t) → q * (m - t) ≤ p * m → distance p q * m ≤ t * q
    apart p q m t a b = omega (arith, mul-sub m p q, mul-sub m q p, mul-sub q m t)

-- ---- over a span of floats

-- all that the law asks, by computation
abbrev pub counts : Float → Float → Formula → ℕ → Bool
counts from to e t = positive from && positive to && fits (exact from) (exact to) e && units_cover (roundings e) t

pub within_span : (from to : Float) (e : Formula) (t : ℕ) → counts from to e t ≡ true → (f : Float) → (le from f && le f to) ≡ true → within t (in_binary32 e f) (exactly e (exact f)) ≡ true
within_span from to e t h f i =
    let a = and_parts _ _ h in
    let b = and_parts _ _ a.0 in
    let c = and_parts _ _ b.0 in
    let p = T_from_true (positive from) c.0 in
    let q = T_from_true (positive to) c.1 in
    let l = T_from_true (le from f) (and_parts _ _ i).0 in
    let m = T_from_true (le f to) (and_parts _ _ i).1 in
    let r = between from f to p q l m in
    close_within (roundings e) t (in_binary32 e f) (exactly e (exact f)) a.1 (counted (exact from) (exact to) f r (ordered from f p r l) (ordered f to r q m) e b.1)
  where
    ordered : (v w : Float) → T (positive v) → T (positive w) → T (le v w) → Under N U 0 (exact v) (exact w)
    ordered v w p q h = rw (whole_is v, whole_is w, scale_is v, scale_is w) (omega (arith, le→cross v w p q h))
