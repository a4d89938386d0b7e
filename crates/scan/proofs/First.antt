-- The first place that passes a test is the place of the first member that passes it. Assumes nothing.
use Prim.Native.Nat.{ℕ, zero, suc, ◌+◌, ◌<◌}
use mathlib.Core.Path.{◌≡◌, refl}
use mathlib.Core.Bool.{Bool, true}
use mathlib.Core.List.{List, [], ◌∷◌}
use native.Mathlib.Nat.{add-zero}
use native.Mathlib.Omega.{arith}
use lib.ListN.{length, get_or}
use Rattle.std.proofs.lemmas.Bool.{false_from_ne_true}
use Rattle.std.specs.Prelude.{Some, None}
use Rattle.std.specs.List.{position_from}

module _ (p : ℕ → Bool) where
  pub first_at : (i : ℕ) (s : List ℕ) (k : ℕ) → k < length s → ((j : ℕ) → j < k → p (get_or s j 0) ≡ true → ⊥) → p (get_or s k 0) ≡ true
      → Some (i + k) ≡ position_from p i s
  first_at i [] k l n e = absurd (omega arith)
  first_at i (x ∷ s) zero l n e = rw (e, add-zero i) refl
  first_at i (x ∷ s) (suc k) l n e =
      let w : i + suc k ≡ i + 1 + k = omega arith in
      rw (false_from_ne_true (p x) (n 0 (omega arith)), w) (first_at (i + 1) s k (omega arith) (λ j h. n (suc j) (omega arith)) e)

  pub first_nowhere : (i : ℕ) (s : List ℕ) → ((j : ℕ) → j < length s → p (get_or s j 0) ≡ true → ⊥) → None ≡ position_from p i s
  first_nowhere i [] n = refl
  first_nowhere i (x ∷ s) n = rw (false_from_ne_true (p x) (n 0 (omega arith))) (first_nowhere (i + 1) s (λ j h. n (suc j) (omega arith)))
