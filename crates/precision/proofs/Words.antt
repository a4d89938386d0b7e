-- Words of finite floats without a sign are in the order of their values; so those from the span's first to its last are of floats in it.
-- Assumes nothing.
use mathlib.Core.Path.{◌≡◌}
use mathlib.Core.Bool.{true}
use mathlib.Core.Logic.{inl, inr}
use Prim.Native.Nat.{ℕ, zero, suc, ◌+◌, ◌*◌, ◌/◌, ◌%◌, ◌^◌, ◌≤◌, ◌<◌}
use native.Mathlib.Nat.{eq-or-lt_of_le, mod-lt, mul-le-mul, mul-le-mul_right, pow-suc}
use native.Mathlib.Omega.{arith}
use lib.Dec.{T, lit≤, lt→ltb, le→leb}
use lib.Pow.{pow_pos, pow_mono}
use lib.Ieee.{binary32, le}
use lib.Ieee.Bits.{is_true}
use lib.Ieee.Fits.{and_i}
use borrow.Author.Numbers.{const_le, units_of}
use Rattle.std.proofs.lemmas.Bool.{and_from}
use Rattle.filter_core.specs.Arithmetic.{word}
use Rattle.precision.specs.Precision.{first, last, lowest, highest, in_span}

-- a greater field doubles the unit, which weighs more than all digits
ordered : (x y t u : ℕ) → t < 2 ^ 23 → x * 2 ^ 23 + t ≤ y * 2 ^ 23 + u → u < 2 ^ 23 → units_of binary32 x t ≤ units_of binary32 y u
ordered zero zero t u l h m = omega (arith, h)
ordered zero (suc y) t u l h m = omega (arith, l, mul-le-mul_right (2 ^ 23 + u) (pow_pos y))
ordered (suc x) zero t u l h m = absurd (omega (arith, h, m))
ordered (suc x) (suc y) t u l h m =
    let k : x ≤ y = omega (arith, h, m) in
    elim (eq-or-lt_of_le k) [
      | inl e ↦ let o : 2 ^ 23 + t ≤ 2 ^ 23 + u = omega (arith, h, e) in rw e (mul-le-mul_right (2 ^ y) o)
      | inr g ↦ let o : 2 ^ 23 ≤ 2 ^ 23 + u = omega arith in omega (arith, mul-le-mul_right (2 ^ x) l, rw (pow-suc 2 x) at (mul-le-mul o (pow_mono g)))
    ]

words_in_order : (n m : ℕ) → n ≤ m → m < 255 * 2 ^ 23 → T (le (word n) (word m))
words_in_order n m b c =
    const_le binary32 n m
    (and_i _ _ (and_i _ _ (lt→ltb n _ (omega (arith, b, c))) (lt→ltb m _ c))
    (le→leb _ _ (ordered (n / 2 ^ 23) (m / 2 ^ 23) (n % 2 ^ 23) (m % 2 ^ 23) (mod-lt n (pow_pos 23)) (omega (arith, b)) (mod-lt m (pow_pos 23)))))

pub words_in_span : (n : ℕ) → first ≤ n → n ≤ last → in_span (word n) ≡ true
words_in_span n a b =
    and_from _ _ (is_true (le lowest (word n)) (words_in_order first n a (omega (arith, b))))
    (is_true (le (word n) highest) (words_in_order n last b (lit≤ tt)))
