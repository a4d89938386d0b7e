-- The refusal table of document 01 for a write, and the length that an accepted one answers.
use Rattle.std.specs.Prelude.{ℕ, ◌+◌, ◌*◌, ◌<◌, ◌≡◌, List, [], ◌∷◌, length}
use Rattle.filter_core.specs.Rows.{Exactly}
use Rattle.sheets.specs.Sheet.{entries_of}
use Rattle.sheets.specs.Rows.{Sheet}
use Rattle.library.specs.Library.{none, library_of, write_number, sheet_length}
use Rattle.library.specs.declared.Library.{Library}

-- the libraries that a frame can hold, with their n: none, and those of sheets
pub data Held : Library → ℕ → Type 0 where
  nothing : Held none 0
  of_sheet : {s : List ℕ} → Sheet s → Held (library_of s) (entries_of s)

-- `size` and `short`, of n entries and an output of m places
pub data WriteCase (n m : ℕ) : ℕ → Type 0 where
  no_entries : n ≡ 0 → WriteCase n m 2
  short : m < 2 + 13 * n → WriteCase n m 12

-- a number is given in its row's case, and in no other; an accepted write answers its length
pub record WriteRow (l : Library) (n : ℕ) (out : List ℕ) : Type 0 where
  pub number : Exactly (WriteCase n (length out)) (2 ∷ 12 ∷ []) (write_number l out)
  pub answer : sheet_length l ≡ 2 + 13 * n

abbrev pub WriteByRows : Type 0
WriteByRows = (l : Library) (n : ℕ) → Held l n → (out : List ℕ) → WriteRow l n out
