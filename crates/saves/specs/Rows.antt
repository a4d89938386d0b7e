-- The refusals of 02 h, row by row: of a save of which k bytes are left, and a library of n entries.
use Rattle.std.specs.Prelude.{ℕ, ◌<◌, ◌≡◌, [], ◌∷◌, length}
use Rattle.filter_core.specs.Rows.{Exactly}
use Rattle.library.specs.Rows.{Held}
use Rattle.library.specs.declared.Library.{Library}
use Rattle.saves.specs.Save.{left_of, begin_refusal, take_refusal}
use Rattle.saves.specs.declared.Save.{Save}

pub data BeginCase (k n : ℕ) : ℕ → Type 0 where
  -- 16: a save is unfinished
  unfinished : 0 < k → BeginCase k n 16
  -- 2: there is no library
  no_entries : n ≡ 0 → BeginCase k n 2

pub data TakeCase (k : ℕ) : ℕ → Type 0 where
  -- 17: no save is unfinished
  finished : k ≡ 0 → TakeCase k 17

-- for every save and every library that a frame can hold: a number is given in its row's case, and in no other
pub record SavesByRows : Type 0 where
  pub begins : (v : Save) (l : Library) (n : ℕ) → Held l n → Exactly (BeginCase (length (left_of v)) n) (16 ∷ 2 ∷ []) (begin_refusal (length (left_of v)) l)
  pub takes : (v : Save) → Exactly (TakeCase (length (left_of v))) (17 ∷ []) (take_refusal v)
