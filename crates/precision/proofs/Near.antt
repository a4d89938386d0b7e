-- Near: of two exact numbers either is at most (1 + 2 ^ -24) ^ k times the other, as k roundings leave them. How that goes through chains,
-- products and sums: there are no terms of second order, and only at the end are k roundings turned into units. Assumes nothing.
use Prim.Native.Nat.{ℕ, ◌+◌, ◌-◌, ◌*◌, ◌^◌, ◌≤◌, ◌<◌}
use native.Mathlib.Nat.{add_comm, add-sub_of_le, le_of_mul-le-mul_right, mul-le-mul, mul-le-mul_right, mul-pos, one-le-pow, pow-le-pow_left, pow-zero}
use native.Mathlib.Omega.{arith}
use lib.Dec.{lit≤}
use lib.Pow.{pow-add, pow_pos}
use Rattle.precision.specs.Scaled.{Scaled, ◌⊕◌, ◌⊗◌}

-- ---- one side, by any two numbers

-- x ≤ y * (U / N) ^ k
abbrev pub Under : ℕ → ℕ → ℕ → Scaled → Scaled → Type 0
Under N U k x y = x.whole * 2 ^ y.places * N ^ k ≤ y.whole * 2 ^ x.places * U ^ k

module _ (N U : ℕ) where
  pub under_self : (x : Scaled) → Under N U 0 x x
  under_self x = rw (pow-zero N, pow-zero U) (omega arith)

  -- N ≤ U
  under_more : (x y : Scaled) (j d : ℕ) → N ≤ U → Under N U j x y → Under N U (j + d) x y
  under_more x y j d h a = rw (pow-add N j d, pow-add U j d) (omega (arith, mul-le-mul a (pow-le-pow_left h d)))

  pub under_chain : (x y z : Scaled) (j k : ℕ) → Under N U j x y → Under N U k y z → Under N U (j + k) x z
  under_chain x y z j k a b =
      rw (pow-add N j k, pow-add U j k)
      (le_of_mul-le-mul_right {k = 2 ^ y.places} (omega (arith, mul-le-mul_right (2 ^ z.places * N ^ k) a, mul-le-mul_right (2 ^ x.places * U ^ j) b)) (pow_pos y.places))

  -- one factor undoes the other
  pub under_back : (x y z : Scaled) (k : ℕ) → 0 < N → Under N U k x y → Under U N k y z → Under N U 0 x z
  under_back x y z k N>0 a b =
      rw (pow-zero N, pow-zero U)
      (le_of_mul-le-mul_right {k = 2 ^ y.places * N ^ k} (omega (arith, mul-le-mul_right (2 ^ z.places) a, mul-le-mul_right (2 ^ x.places) b)) (mul-pos (pow_pos y.places) (one-le-pow k N N>0)))

  pub under_product : (x y x' y' : Scaled) (j k : ℕ) → Under N U j x y → Under N U k x' y' → Under N U (j + k) (x ⊗ x') (y ⊗ y')
  under_product x y x' y' j k a b =
      rw (pow-add N j k, pow-add U j k, pow-add 2 x.places x'.places, pow-add 2 y.places y'.places) (omega (arith, mul-le-mul a b))

  pub under_sum : (x y x' y' : Scaled) (k : ℕ) → Under N U k x y → Under N U k x' y' → Under N U k (x ⊕ x') (y ⊕ y')
  under_sum x y x' y' k a b =
      rw (pow-add 2 x.places x'.places, pow-add 2 y.places y'.places)
      (omega (arith, mul-le-mul_right (2 ^ x'.places * 2 ^ y'.places) a, mul-le-mul_right (2 ^ x.places * 2 ^ y.places) b))

-- ---- both sides, by 1 + 2 ^ -24

abbrev pub N : ℕ
N = 2 ^ 24

abbrev pub U : ℕ
U = 2 ^ 24 + 1

pub record Near (k : ℕ) (x y : Scaled) : Type 0 where
  pub above : Under N U k x y
  pub below : Under N U k y x

pub near_self : (x : Scaled) → Near 0 x x
near_self x = record { above = under_self N U x; below = under_self N U x }

pub near_more : {x y : Scaled} {j : ℕ} (k : ℕ) → j ≤ k → Near j x y → Near k x y
near_more {x} {y} {j} k h a =
    let b : Near (j + (k - j)) x y = record { above = under_more N U x y j (k - j) (lit≤ tt) a.above; below = under_more N U y x j (k - j) (lit≤ tt) a.below } in
    rw (add-sub_of_le h) at b

pub near_chain : {x y z : Scaled} {j k : ℕ} → Near j x y → Near k y z → Near (j + k) x z
near_chain {x} {y} {z} {j} {k} a b =
    record { above = under_chain N U x y z j k a.above b.above; below = rw (add_comm k j) at (under_chain N U z y x k j b.below a.below) }

pub near_product : {x y x' y' : Scaled} {j k : ℕ} → Near j x y → Near k x' y' → Near (j + k) (x ⊗ x') (y ⊗ y')
near_product {x} {y} {x'} {y'} {j} {k} a b =
    record { above = under_product N U x y x' y' j k a.above b.above; below = under_product N U y x y' x' j k a.below b.below }

pub near_sum : {x y x' y' : Scaled} {k : ℕ} → Near k x y → Near k x' y' → Near k (x ⊕ x') (y ⊕ y')
near_sum {x} {y} {x'} {y'} {k} a b =
    record { above = under_sum N U x y x' y' k a.above b.above; below = under_sum N U y x y' x' k a.below b.below }
