-- A sheet and its library say the same: each comes back from the other.
use Rattle.std.specs.Prelude.{ℕ, ◌≤◌, ◌<◌, ◌≡◌, List, ◌++◌, length, take, drop}
use Rattle.sheets.specs.Sheet.{entries_of, edition_in, entry_in, check_of}
use Rattle.sheets.specs.Rows.{Sheet}
use Rattle.library.specs.declared.Library.{Library}
use Rattle.library.specs.Library.{count, library_of, entry_at, write_number, sheet_length, written_of}

-- a sheet is read, and its library written to an output that has room: the sheet's bytes, and what stood behind them
pub record Rewritten (s out : List ℕ) : Type 0 where
  pub accepted : write_number (library_of s) out ≡ 0
  pub answer : sheet_length (library_of s) ≡ length s
  pub bytes : written_of (library_of s) out ≡ s ++ drop (length s) out

abbrev pub ReadWrite : Type 0
ReadWrite = (s out : List ℕ) → Sheet s → length s ≤ length out → Rewritten s out

-- what was written
abbrev pub written_sheet : List ℕ → List ℕ → List ℕ
written_sheet s out = take (length s) (written_of (library_of s) out)

-- a library of a sheet is written, and what was written is read: the same library
pub record Reread (s out : List ℕ) : Type 0 where
  pub accepted : check_of (written_sheet s out) ≡ 0
  pub library : library_of (written_sheet s out) ≡ library_of s

abbrev pub WriteRead : Type 0
WriteRead = (s out : List ℕ) → Sheet s → length s ≤ length out → Reread s out

-- a refused write leaves every byte
abbrev pub RefusedWrite : Type 0
RefusedWrite = (l : Library) (out : List ℕ) → (write_number l out ≡ 0 → ⊥) → written_of l out ≡ out

-- two sheets of one library are one sheet
abbrev pub OneSheet : Type 0
OneSheet = (s t : List ℕ) → Sheet s → Sheet t → library_of s ≡ library_of t → s ≡ t

-- the entries of the library are those of the sheet, as they stand there, and its edition too
pub record Same (s : List ℕ) : Type 0 where
  pub number : count (library_of s) ≡ entries_of s
  pub edition : (library_of s).edition ≡ edition_in s
  pub most : count (library_of s) ≤ 64
  pub entry : (e : ℕ) → e < entries_of s → entry_at (library_of s) e ≡ entry_in s e

abbrev pub SameEntries : Type 0
SameEntries = (s : List ℕ) → Sheet s → Same s
