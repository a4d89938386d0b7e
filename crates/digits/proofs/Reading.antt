-- A number, read digit by digit. Assumes nothing.
use Prim.Native.Nat.{ℕ, ◌+◌, ◌*◌, ◌≤◌, ◌<◌}
use mathlib.Core.Path.{◌≡◌, refl}
use mathlib.Core.List.{List, [], ◌∷◌}
use native.Mathlib.Numerals.{add-one}
use native.Mathlib.Omega.{arith}
use borrow.Author.Tests.{lt-ltb, le-ltb}
use lib.ListN.{length, get_or, drop, drop_of_length-le}
use lib.Seq.{drop-cons}
use Rattle.std.specs.Prelude.{Some, None, option_and_then}
use Rattle.digits.specs.Decimal.{digit_of, value_from, fitting}

-- what is read from the digits behind v has more of them than v
pub large : (v : ℕ) (s : List ℕ) → 18446744073709551615 < v → option_and_then fitting (value_from v s) ≡ None
unfolding value_from
large v [] h = rw (lt-ltb 18446744073709551615 v h) refl
large v (b ∷ s) h =
    elim (digit_of b) as (λ o. option_and_then fitting (option_and_then (λ d. value_from (10 * v + d) s) o) ≡ None) [
      | None ↦ refl
      | Some d ↦ large (10 * v + d) s (omega arith)
    ]

module _ (s : List ℕ) (v i : ℕ) where
  -- one digit more
  pub read_more : i < length s → value_from v (drop i s) ≡ option_and_then (λ d. value_from (10 * v + d) (drop (i + 1) s)) (digit_of (get_or s i 0))
  unfolding value_from
  read_more h = rw (add-one, drop-cons s i 0 h) refl

  pub read_all : length s ≤ i → v ≤ 18446744073709551615 → option_and_then fitting (value_from v (drop i s)) ≡ Some v
  unfolding value_from
  read_all h l = rw (drop_of_length-le s {i = i} h, le-ltb 18446744073709551615 v l) refl
