-- A function that is odd by a test of its frequency is odd, and so is a multiple of it. Assumes nothing.
use Prim.Native.Nat.{ℕ, zero, suc, ◌*◌, ◌^◌, ◌+◌}
use mathlib.Core.Path.{◌≡◌, refl, sym}
use mathlib.Core.Bool.{Bool, true, false, not, cond}
use borrow.Author.Tests.{ltb-true, le-ltb}
use native.Mathlib.Omega.{arith}
use lib.Dec.{ltb, eqb}
use lib.Ieee.{Float, nan, inf, fin, Format, binary32, prec, emax, low, unlike, up, down, units, round, mul, lt, neg, of_bits}
use lib.Ieee as ieee
use Rattle.filter_core.specs.Arithmetic.{◌*ᶠ◌, zeroᶠ, negᶠ}
use Rattle.filter_core.specs.Odd.{odd, OddFrom}

-- ---- signs

-- what is below 0 is not when negated
above : (f : Float) → lt f zeroᶠ ≡ true → lt (negᶠ f) zeroᶠ ≡ false
unfolding lt neg of_bits
above nan h = refl
above (inf true) h = refl
above (inf false) h = sym h
above (fin true m e) h = le-ltb (m * up e * 1) (0 * down e) (omega arith)
above (fin false m e) h = let p = ltb-true (m * up e * 1) (0 * down e) h in absurd (omega arith)

-- to nearest, ties to even: the sign has no part in it
units_neg : (f : Format) (s : Bool) (q k : ℕ) → units f (not s) q k ≡ neg (units f s q k)
unfolding units neg ieee.odd
units_neg f s q k = go q (ltb (q * 2 ^ k) (2 ^ (low f + suc (emax f))))
  where
    go : (q : ℕ) (b : Bool) → cond b (ieee.odd (suc (prec f)) (not s) q k (low f)) (inf (not s)) ≡ neg (cond b (ieee.odd (suc (prec f)) s q k (low f)) (inf s))
    go q false = refl
    go zero true = refl
    go (suc q) true = refl

round_neg : (f : Format) (s : Bool) (a b : ℕ) → round f (not s) a b ≡ neg (round f s a b)
unfolding round
round_neg f s a b = units_neg f s _ _

unlike_not : (s t : Bool) → unlike s (not t) ≡ not (unlike s t)
unlike_not true true = refl
unlike_not true false = refl
unlike_not false true = refl
unlike_not false false = refl

neg_if : (b : Bool) (s t : Bool) → cond b nan (inf (unlike s (not t))) ≡ neg (cond b nan (inf (unlike s t)))
unfolding neg
neg_if true s t = refl
neg_if false s t = rw (unlike_not s t) refl

times_neg : (f : Format) (x y : Float) → mul f x (neg y) ≡ neg (mul f x y)
unfolding mul neg
times_neg f nan y = refl
times_neg f (inf s) nan = refl
times_neg f (inf s) (inf t) = rw (unlike_not s t) refl
times_neg f (inf s) (fin t n d) = neg_if (eqb n 0) s t
times_neg f (fin s m e) nan = refl
times_neg f (fin s m e) (inf t) = neg_if (eqb m 0) s t
times_neg f (fin s m e) (fin t n d) = rw (unlike_not s t) (round_neg f (unlike s t) _ _)

-- ---- odd functions

module _ (g : Float → Float) where
  pub is_odd : OddFrom g (odd g)
  is_odd = record { from_zero = λ f e. rw e refl; below_zero = λ f e. rw (e, above f e) refl }

  pub times_is_odd : (y : Float) → OddFrom (λ f. y *ᶠ g f) (λ f. y *ᶠ odd g f)
  times_is_odd y = record { from_zero = λ f e. rw e refl; below_zero = λ f e. rw (e, above f e) (times_neg binary32 y (g (negᶠ f))) }
