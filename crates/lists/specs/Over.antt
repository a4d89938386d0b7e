-- A list written over another from a place on, as far as there is room.
use Rattle.std.specs.Prelude.{ℕ, ◌+◌, ◌-◌, min, ◌≡◌, List, length}
use Rattle.std.proofs.Math.Seq.{paste}

-- how many of xs have room in ys from the place `at` on
abbrev pub room : {A : Type 0} → ℕ → List A → List A → ℕ
room at xs ys = min (length xs) (length ys - at)

-- ys with those of xs there: places before and behind keep their contents
unfoldable pub over : {A : Type 0} → ℕ → List A → List A → List A
over at xs ys = paste ys at xs (room at xs ys)

-- zs is ys with xs put over it from the place `at` on, and r the place behind
pub record Puts {A : Type 0} (at : ℕ) (xs ys : List A) (r : ℕ) (zs : List A) : Type 0 where
  pub list : zs ≡ over at xs ys
  pub place : r ≡ at + room at xs ys
