-- One rounding: an exact number in the normal range, rounded to binary32, is at most 1 + 2 ^ -24 times the number, and the number at most as
-- many times what it rounds to. Assumes nothing.
use mathlib.Core.Path.{◌≡◌, refl, sym}
use mathlib.Core.Bool.{true, false, not}
use Prim.Native.Nat.{ℕ, zero, suc, ◌+◌, ◌-◌, ◌*◌, ◌/◌, ◌%◌, ◌^◌, ◌≤◌, ◌<◌, compare, Ordering}
use native.Mathlib.Nat.{le_of_mul-le-mul_right, lt_of_le_of_lt, div-add-mod', le-div_iff_mul-le, le_trans, mod-lt, mul-le-mul_right, mul-one, mul-pos}
use native.Mathlib.Omega.{arith}
use lib.Dec.{T, ltb, is_le, compare_is_eq, leb→le, nleb→lt, eqb→eq, lit≤}
use lib.IntN.{pos, negsuc}
use lib.Pow.{pow-add, pow_pos}
use lib.Ieee.{Float, nan, inf, fin, binary32, size, nearest, round, sum, add}
use lib.Ieee.Bits.{is_true}
use lib.Ieee.Digits.{size_reaches}
use lib.Ieee.Exact.{HasValue}
use lib.Ieee.Nearest.{closest, nearest-ge}
use lib.Ieee.Order.{drop, kept}
use lib.Ieee.Scale.{grid, overflow, round_val, normal_of_fraction}
use lib.Ieee.Positive.{num, den, positive, den_pos, own_value, mul_at, value→cross, positive_of_value}
use Rattle.filter_core.specs.Arithmetic.{◌+ᶠ◌, ◌*ᶠ◌}
use Rattle.precision.specs.Scaled.{Scaled, ◌⊕◌, ◌⊗◌, above_zero, exact}
use Rattle.precision.proofs.Near.{N, U, Under, Near, near_chain}

-- ---- the nearest whole number is at most half off

abbrev Half : ℕ → ℕ → ℕ → Type 0
Half k n u = (k * u * 2 ≤ n * 2 + u) × (n * 2 ≤ k * u * 2 + u)

one_bit : (q : ℕ) → q % 2 ≤ 1
one_bit q = omega arith

half_off : (q r u : ℕ) → r < u → Half (nearest q (compare (r * 2) u)) (q * u + r) u
half_off q r u l = go (compare (r * 2) u) (leb→le (r * 2) u) (nleb→lt (r * 2) u) (eqb→eq (r * 2) u)
  where
    go : (o : Ordering) → (T (is_le o) → r * 2 ≤ u) → (T (not (is_le o)) → u < r * 2) → (T (compare_is_eq o) → r * 2 ≡ u) → Half (nearest q o) (q * u + r) u
    go Ordering.lt h k e = let a = h tt in (omega arith, omega arith)
    go Ordering.eq h k e = let a = e tt in let b = mul-le-mul_right u (one_bit q) in (omega arith, omega arith)
    go Ordering.gt h k e = let a = k tt in (omega arith, omega arith)

closest_half : (n u : ℕ) → 0 < u → Half (closest n u) n u
closest_half n u h = rw (div-add-mod' n u) at (half_off (n / u) (n % u) u (mod-lt n h))

-- ---- what `round` keeps of n / c, where there are p digits to keep: the unit, 2 ^ drop, is at most 2 ^ -(p - 1) of it

module _ (p n c : ℕ) (P : 0 < p) (C : 0 < c) (h : p ≤ size (n / c)) where
  below_size : p - 1 + (size (n / c) - p) < size (n / c)
  below_size = omega (arith, P, h)

  unit_small : 2 ^ (p - 1) * (c * 2 ^ drop p n c) ≤ n
  unit_small =
      let k = drop p n c in
      let a : 2 ^ (p - 1 + k) * c ≤ n = (le-div_iff_mul-le C).0 (size_reaches (n / c) (p - 1 + k) below_size) in
      omega (arith, rw pow-add at a)

  kept_large : 2 ^ (p - 1) ≤ kept p n c
  kept_large =
      let u = c * 2 ^ drop p n c in
      le_trans ((le-div_iff_mul-le (mul-pos C (pow_pos (drop p n c)))).1 unit_small) (nearest-ge (n / u) (compare (n % u * 2) u))

  kept_near : (kept p n c * 2 ^ drop p n c * c * (2 ^ (p - 1) * 2) ≤ n * (2 ^ (p - 1) * 2 + 1)) × (n * (2 ^ (p - 1) * 2) ≤ kept p n c * 2 ^ drop p n c * c * (2 ^ (p - 1) * 2 + 1))
  kept_near = relative (2 ^ drop p n c) (kept p n c) (2 ^ (p - 1)) unit_small kept_large (closest_half n (c * 2 ^ drop p n c) (mul-pos C (pow_pos (drop p n c))))
    where
      relative : (w q H : ℕ) → H * (c * w) ≤ n → H ≤ q → Half q n (c * w) → (q * w * c * (H * 2) ≤ n * (H * 2 + 1)) × (n * (H * 2) ≤ q * w * c * (H * 2 + 1))
      relative w q H a b d =
          (omega (arith, mul-le-mul_right H d.0), omega (arith, mul-le-mul_right H d.1, mul-le-mul_right (c * w) b))

-- ---- a value as a fraction

pub whole_is : (v : Float) → (exact v).whole ≡ num v
whole_is nan = refl
whole_is (inf s) = refl
whole_is (fin s m (pos e)) = refl
whole_is (fin s m (negsuc e)) = sym (mul-one m)

pub scale_is : (v : Float) → 2 ^ (exact v).places ≡ den v
scale_is nan = refl
scale_is (inf s) = refl
scale_is (fin s m (pos e)) = refl
scale_is (fin s m (negsuc e)) = refl

pub is_above_zero : (v : Float) → T (positive v) → above_zero v ≡ true
is_above_zero nan p = absurd p
is_above_zero (inf s) p = absurd p
is_above_zero (fin true m e) p = absurd p
is_above_zero (fin false m e) p = is_true (ltb 0 m) p

-- ---- rounded

abbrev pub rounded : Scaled → Float
rounded s = round binary32 false s.whole (2 ^ s.places)

-- from 2 ^ -126 to 2 ^ 126, the normal range but for its last two powers
abbrev pub least : Scaled
least = record { whole = 1; places = 126 }

abbrev pub most : Scaled
most = record { whole = 2 ^ 126; places = 0 }

pub record Normal (s : Scaled) : Type 0 where
  pub from : Under N U 0 least s
  pub to : Under N U 0 s most

-- in steps of 2 ^ -149
abbrev steps : Scaled → ℕ
steps s = grid binary32 s.whole (2 ^ s.places)

abbrev of_steps : Scaled → Scaled
of_steps s = record { whole = steps s; places = 149 }

module _ (s : Scaled) (h : Normal s) where
  steps_near : Near 1 (of_steps s) s
  steps_near =
      let n = s.whole * 2 ^ 149 in
      let c = 2 ^ s.places in
      let z = normal_of_fraction binary32 s.whole c (pow_pos s.places) (scaled (2 ^ 23) c s.whole (2 ^ 126) (2 ^ 149) (omega (arith, h.from)) (lit≤ tt)) in
      let d = kept_near 24 n c (lit≤ tt) (pow_pos s.places) z in
      record { above = d.0; below = d.1 }
    where
      scaled : (m c a i l : ℕ) → c ≤ a * i → m * i ≤ l → m * c ≤ a * l
      scaled m c a i l b d = omega (arith, mul-le-mul_right m b, mul-le-mul_right a d)

  steps_above_zero : 0 < steps s
  steps_above_zero = go s.whole (2 ^ s.places) (steps s) (2 ^ 126) (2 ^ 149) (pow_pos s.places) (omega (arith, h.from)) (pow_pos 149) steps_near.below
    where
      go : (a c g i l : ℕ) → 0 < c → c ≤ a * i → 0 < l → a * l * 2 ^ 24 ≤ g * c * (2 ^ 24 + 1) → 0 < g
      go zero c g i l C b L d = omega (arith, C, b)
      go (suc a) c zero i l C b L d = omega (arith, d, mul-pos L C)
      go (suc a) c (suc g) i l C b L d = omega arith

  steps_in_range : steps s < overflow binary32
  steps_in_range = go s.whole (2 ^ s.places) (steps s) (2 ^ 126) (2 ^ 149) (2 ^ 277) (pow_pos s.places) (omega (arith, h.to)) (lit≤ tt) steps_near.above
    where
      go : (a c g j l o : ℕ) → 0 < c → a ≤ c * j → j * l * 2 < o → g * c * 2 ^ 24 ≤ a * l * (2 ^ 24 + 1) → g < o
      go a c g j l o C b d e = lt_of_le_of_lt (le_of_mul-le-mul_right {k = c} (omega (arith, e, mul-le-mul_right l b)) C) d

-- a value that is g / 2 ^ l
value_near : (v : Float) (g l : ℕ) → HasValue v false g (2 ^ l) → Near 0 (exact v) (record { whole = g; places = l })
value_near v g l h =
    let e = value→cross v g (2 ^ l) h in
    let a = whole_is v in
    let b = scale_is v in
    record { above = rw (a, b) (omega (arith, e)); below = rw (a, b) (omega (arith, e)) }

-- a value above zero that is k roundings from x
pub record Close (k : ℕ) (v : Float) (x : Scaled) : Type 0 where
  pub above_zero : T (positive v)
  pub near : Near k (exact v) x

pub round_close : (s : Scaled) → Normal s → Close 1 (rounded s) s
round_close s h =
    let v = round_val binary32 s.whole (2 ^ s.places) (steps_in_range s h) in
    record {
      above_zero = positive_of_value (rounded s) (steps s) (2 ^ 149) v (steps_above_zero s h);
      near = near_chain (value_near (rounded s) (steps s) 149 v) (steps_near s h);
    }

-- ---- a sum and a product of values above zero are the exact ones, rounded

pub mul_rounded : (v w : Float) → T (positive v) → T (positive w) → v *ᶠ w ≡ rounded (exact v ⊗ exact w)
mul_rounded v w p q =
    rw (pow-add 2 (exact v).places (exact w).places, whole_is v, whole_is w, scale_is v, scale_is w)
    (mul_at binary32 v w (num v) (den v) (num w) (den w) p q (den_pos v) (den_pos w) (own_value v p) (own_value w q))

add_is : (v w : Float) → T (positive v) → T (positive w) → v +ᶠ w ≡ round binary32 false (num v * den w + num w * den v) (den v * den w)
unfolding add sum
add_is nan w p q = absurd p
add_is (inf s) w p q = absurd p
add_is (fin true m e) w p q = absurd p
add_is (fin false m e) nan p q = absurd q
add_is (fin false m e) (inf t) p q = absurd q
add_is (fin false m e) (fin true n d) p q = absurd q
add_is (fin false m e) (fin false n d) p q = refl

pub add_rounded : (v w : Float) → T (positive v) → T (positive w) → v +ᶠ w ≡ rounded (exact v ⊕ exact w)
add_rounded v w p q = rw (pow-add 2 (exact v).places (exact w).places, whole_is v, whole_is w, scale_is v, scale_is w) (add_is v w p q)
