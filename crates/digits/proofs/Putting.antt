-- What has room in a buffer of n places, of what is put behind what it holds. Assumes nothing.
use Prim.Native.Nat.{ℕ, zero, suc, ◌+◌, ◌-◌, ◌≤◌, min}
use mathlib.Core.Path.{◌≡◌, refl, ap}
use mathlib.Core.List.{List, [], ◌∷◌, ◌++◌}
use native.Mathlib.Omega.{arith}
use lib.ListN.{length, take}
use lib.Seq.{take-append-add}
use Rattle.lists.specs.Table.{table}
use Rattle.lists.proofs.Tables.{take_of_table}

module _ {A : Type 0} where
  -- what had no room before has none after
  pub again : (n : ℕ) (xs zs : List A) → take n (take n xs ++ zs) ≡ take n (xs ++ zs)
  again zero xs zs = refl
  again (suc n) [] zs = refl
  again (suc n) (x ∷ xs) zs = ap (λ (l : List A). x ∷ l) (again n xs zs)

  -- of a function's first m values
  pub table_room : (n m : ℕ) (xs : List A) (f : ℕ → A) → length xs ≤ n → take n (xs ++ table m f) ≡ xs ++ table (min m (n - length xs)) f
  table_room n m xs f h =
      let whole : n ≡ length xs + (n - length xs) = omega arith in
      rw (← take_of_table (n - length xs) m f, ← take-append-add xs (table m f) (n - length xs), ← whole) refl
