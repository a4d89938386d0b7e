-- What a conversion makes of a sheet, what it leaves of the output, and that it can be undone (02 f).
use Rattle.std.specs.Prelude.{ℕ, ◌≤◌, ◌≡◌, List, [], ◌∷◌, ◌++◌, length, set, take, drop}
use Rattle.filter_core.specs.Rows.{Exactly}
use Rattle.sheets.specs.Edition.{edition_byte}
use Rattle.sheets.specs.Sheet.{entries_of, edition_in, entry_in, check_entry_of, lookup_of}
use Rattle.sheets.specs.EditionOne.{check_one, check_entry_one, lookup_one}
use Rattle.sheets.specs.Rows.{Sheet}
use Rattle.sheets.specs.declared.edition.Edition.{Edition}
use Rattle.sheets.specs.declared.edition.Edition.TheVariants.{One, Two}
use Rattle.library.specs.Library.{library_of, write_number, sheet_length, written_of}
use Rattle.library.specs.declared.Library.{Library}
use Rattle.conversion.specs.Conversion.{convert_number, convert_length, converted_of}
use Rattle.conversion.specs.Rows.{UsesSeries, ConvertCase}

-- the sheet s with the second byte of the edition v
abbrev pub in_edition : Edition → List ℕ → List ℕ
in_edition v s = set s 1 (edition_byte v)

-- the sheet that a conversion wrote: as many bytes of the output as it answers
abbrev pub written_sheet : Edition → List ℕ → List ℕ → List ℕ
written_sheet v s out = take (convert_length s) (converted_of v s out)

-- the conversion of s to the edition v writes t, all of it, and leaves what stood behind
pub record Writes (v : Edition) (s out t : List ℕ) : Type 0 where
  pub accepted : convert_number v s out ≡ 0
  pub answer : convert_length s ≡ length t
  pub bytes : converted_of v s out ≡ t ++ drop (length t) out

-- t has the entries of s, under the same numbers
pub record HasEntries (s t : List ℕ) : Type 0 where
  pub number : entries_of t ≡ entries_of s
  pub entry : (e : ℕ) → entry_in t e ≡ entry_in s e

-- the reader that knows edition 1 only takes t, and finds in it what the reader of both finds in s
pub record OldReader (s t : List ℕ) : Type 0 where
  pub check : check_one t ≡ 0
  pub entry : (e : ℕ) → check_entry_one t e ≡ check_entry_of s e
  pub lookup : (e : ℕ) → lookup_one t e ≡ lookup_of s e

-- an accepted conversion of s to the edition v, which wrote t
pub record Converted (v : Edition) (s out t : List ℕ) : Type 0 where
  pub writes : Writes v s out t
  pub bytes : t ≡ in_edition v s
  pub sheet : Sheet t
  pub edition : edition_in t ≡ v
  pub entries : HasEntries s t
  -- converted back, t is s again, in any output that has room
  pub back : (into : List ℕ) → length s ≤ length into → Writes (edition_in s) t into s
  pub old_reader : v ≡ One → OldReader s t

-- the library l as one of the edition v
abbrev pub library_in : Edition → Library → Library
library_in v l = record { edition = v; entries = l.entries }

-- what converting s does is what writing the library l does
pub record AsWrite (v : Edition) (s out : List ℕ) (l : Library) : Type 0 where
  pub number : convert_number v s out ≡ write_number l out
  pub answer : convert_length s ≡ sheet_length l
  pub bytes : converted_of v s out ≡ written_of l out

pub record Conversions : Type 0 where
  pub accepted : (v : Edition) (s out : List ℕ) → convert_number v s out ≡ 0 → Converted v s out (written_sheet v s out)
  -- a refused one leaves every byte
  pub refused : (v : Edition) (s out : List ℕ) → (convert_number v s out ≡ 0 → ⊥) → converted_of v s out ≡ out
  -- a sheet to edition 2: 12 is its only refusal
  pub up : (s out : List ℕ) → Sheet s → Exactly (ConvertCase Two s (length out)) (12 ∷ []) (convert_number Two s out)
  -- a sheet to edition 1: 15 and 12 are, and 15 is given exactly where an entry uses approximation 4
  pub down : (s out : List ℕ) → Sheet s → Exactly (ConvertCase One s (length out)) (15 ∷ 12 ∷ []) (convert_number One s out)
  pub series : (s out : List ℕ) → Sheet s → (convert_number One s out ≡ 15 → UsesSeries s) × (UsesSeries s → convert_number One s out ≡ 15)
  -- a sheet that is in the wanted edition already is copied
  pub copied : (s out : List ℕ) → Sheet s → length s ≤ length out → Writes (edition_in s) s out s
  -- an answer other than 15 is that of write, and so is the output, where the library has the wanted edition
  pub as_write : (v : Edition) (s out : List ℕ) → Sheet s → (convert_number v s out ≡ 15 → ⊥) → AsWrite v s out (library_in v (library_of s))
