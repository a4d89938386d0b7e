-- The refusal table of document 01 for a sheet, with 02 a's, row by row: the case of each number as a statement about the bytes.
-- The rows are said of the second byte and of the kind and the approximation that a kind byte holds, and not by the edition and the setter
-- that the check goes by.
use Rattle.std.specs.Prelude.{ℕ, ◌%◌, ◌/◌, ◌≤◌, ◌<◌, ◌≡◌, true, List, [], ◌∷◌, ◌⊎◌, length, get_or}
use Rattle.std.specs.Float.{binary32}
use Rattle.std.specs.Float.Ieee.{is_nan, to_bits}
use Rattle.filter_core.specs.Arithmetic.{word}
use Rattle.filter_core.specs.Rows.{First, Only, FrequencyCase}
use Rattle.filter_core.specs.declared.FrequencyApproximation.TheVariants.{Exact}
use Rattle.words.specs.Word.{Bytes}
use Rattle.sheets.specs.Sheet.{entries_of, Sized, entry_in, word_at, check_of, check_entry_of, lookup_of}
use Rattle.sheets.specs.declared.entry.Entry.{Entry}

-- `kind`: not 1 to 7, or an approximation that it does not take. The kinds 2, 3 and 5 take 0 to 3, and by 02 a also 4 where the sheet's
-- second byte b is 2; the others take 0
pub data KindWrong (b kind approximation : ℕ) : Type 0 where
  no_kind : kind ≡ 0 → KindWrong b kind approximation
  past_kinds : 7 < kind → KindWrong b kind approximation
  past_approximations : 4 < approximation → KindWrong b kind approximation
  past_edition_1 : (b ≡ 2 → ⊥) → 3 < approximation → KindWrong b kind approximation
  not_exact : (kind ≡ 2 → ⊥) → (kind ≡ 3 → ⊥) → (kind ≡ 5 → ⊥) → 0 < approximation → KindWrong b kind approximation

-- how many of the words a, b, c the kinds 1 to 7 use
abbrev pub words_used : ℕ → ℕ
words_used kind = get_or (0 ∷ 1 ∷ 1 ∷ 2 ∷ 3 ∷ 2 ∷ 2 ∷ 2 ∷ []) kind 0

-- `word`: the word at the place k of an entry that uses the first u is unused and not zero, or another NaN
pub data WordWrong (u k w : ℕ) : Type 0 where
  unused : u ≤ k → (w ≡ 0 → ⊥) → WordWrong u k w
  another_nan : is_nan (word w) ≡ true → (w ≡ 0x7fc0_0000 → ⊥) → WordWrong u k w

pub data WordsWrong (u : ℕ) (t : Entry) : Type 0 where
  wrong_a : WordWrong u 0 t.a → WordsWrong u t
  wrong_b : WordWrong u 1 t.b → WordsWrong u t
  wrong_c : WordWrong u 2 t.c → WordsWrong u t

-- `frequency`: what Exact refuses in a setter
pub record FrequencyWrong (kind approximation a : ℕ) : Type 0 where
  pub takes_f : (kind ≡ 2) ⊎ ((kind ≡ 3) ⊎ (kind ≡ 5))
  pub exact : approximation ≡ 0
  pub refused : FrequencyCase (word a) Exact 11

-- kind byte = kind + 16 * approximation
pub data EntryCase (b : ℕ) (t : Entry) : ℕ → Type 0 where
  wrong_kind : KindWrong b (t.kind % 16) (t.kind / 16) → EntryCase b t 3
  wrong_words : WordsWrong (words_used (t.kind % 16)) t → EntryCase b t 4
  wrong_frequency : FrequencyWrong (t.kind % 16) (t.kind / 16) t.a → EntryCase b t 11

-- the number of the entry t of a sheet with the second byte b, 0 where nothing is wrong
abbrev pub EntryRow : ℕ → Entry → ℕ → Type 0
EntryRow b t r = First (EntryCase b t) (3 ∷ 4 ∷ 11 ∷ []) r

-- the number of a sheet's entry e
abbrev pub RowAt : List ℕ → ℕ → ℕ → Type 0
RowAt s e r = EntryRow (get_or s 1 0) (entry_in s e) r

pub record Sheet (s : List ℕ) : Type 0 where
  pub size : Sized s
  pub entries : (e : ℕ) → e < entries_of s → RowAt s e 0

-- the number of a sheet: `size`, then that of the first entry that has one
pub data SheetRow (s : List ℕ) : ℕ → Type 0 where
  is_sheet : Sheet s → SheetRow s 0
  wrong_size : (Sized s → ⊥) → SheetRow s 2
  wrong_entry : {r : ℕ} (e : ℕ) → Sized s → e < entries_of s → ((i : ℕ) → i < e → RowAt s i 0) → RowAt s e r → (r ≡ 0 → ⊥)
      → SheetRow s r

-- the number of looking up the entry e: that of the sheet, then `entry`
pub data LookupRow (s : List ℕ) (e : ℕ) : ℕ → Type 0 where
  is_found : Sheet s → e < entries_of s → LookupRow s e 0
  no_sheet : {r : ℕ} → SheetRow s r → (r ≡ 0 → ⊥) → LookupRow s e r
  no_entry : Sheet s → entries_of s ≤ e → LookupRow s e 5

-- a number is given in its row's case, and in no other; the part of a lookup is empty exactly where it is refused
pub record Checked (s : List ℕ) : Type 0 where
  pub sheets : Only (SheetRow s) (check_of s)
  pub lookups : (e : ℕ) → Only (LookupRow s e) (check_entry_of s e)
  pub parts : (e : ℕ) → (check_entry_of s e ≡ 0 → length (lookup_of s e) ≡ 12) × ((check_entry_of s e ≡ 0 → ⊥) → length (lookup_of s e) ≡ 0)

abbrev pub CheckByRows : Type 0
CheckByRows = (s : List ℕ) → Checked s

-- every word of a sheet comes back when converted to binary32 and back
abbrev pub WordsReturn : Type 0
WordsReturn = (s : List ℕ) → Bytes s → Sheet s → (e k : ℕ) → e < entries_of s → k < 3 → to_bits binary32 (word (word_at s e k)) ≡ word_at s e k
