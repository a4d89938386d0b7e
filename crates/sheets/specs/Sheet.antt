-- A motif sheet: n as one byte, and its edition as another (02 a); n kind bytes; n settings of 12 bytes, which are three words, low byte
-- first.
use Rattle.std.specs.Prelude.{ℕ, ◌+◌, ◌*◌, ◌≤◌, ◌≡◌, cond, List, [], ◌⊎◌, eqb, ltb, length, get_or, take, drop}
use Rattle.words.specs.Word.{word_from}
use Rattle.filter_core.specs.Rows.{◌then◌}
use Rattle.sheets.specs.Edition.{edition_of, edition_refusal}
use Rattle.sheets.specs.Refusal.{first_refusal, entry_refusal}
use Rattle.sheets.specs.declared.edition.Edition.{Edition}
use Rattle.sheets.specs.declared.entry.Entry.{Entry}

abbrev pub entries_of : List ℕ → ℕ
entries_of s = get_or s 0 0

abbrev pub edition_in : List ℕ → Edition
edition_in s = edition_of (get_or s 1 0)

-- ---- an entry

abbrev pub kind_at : List ℕ → ℕ → ℕ
kind_at s e = get_or s (2 + e) 0

-- the setting e behind n kind bytes
abbrev pub setting_behind : ℕ → List ℕ → ℕ → List ℕ
setting_behind n s e = take 12 (drop (2 + n + 12 * e) s)

abbrev pub setting_at : List ℕ → ℕ → List ℕ
setting_at s e = setting_behind (entries_of s) s e

-- a is the word 0 of an entry, b 1, c 2
abbrev pub word_at : List ℕ → ℕ → ℕ → ℕ
word_at s e k = word_from (setting_at s e) (4 * k)

-- the entry of a kind byte and a setting's bytes
abbrev pub entry_of : ℕ → List ℕ → Entry
entry_of k t = record { kind = k; a = word_from t 0; b = word_from t 4; c = word_from t 8 }

-- the entry e of n
abbrev pub entry_among : ℕ → List ℕ → ℕ → Entry
entry_among n s e = entry_of (kind_at s e) (setting_behind n s e)

-- the entry e of a sheet
abbrev pub entry_in : List ℕ → ℕ → Entry
entry_in s e = entry_among (entries_of s) s e

-- ---- a check of n entries by the edition v, as every reader makes it

-- 1 to 64 entries, and the bytes that they take
pub record Fits (n : ℕ) (s : List ℕ) : Type 0 where
  pub some : 1 ≤ n
  pub most : n ≤ 64
  pub long : length s ≡ 2 + 13 * n

-- `size` of the refusal table, for a sheet of l bytes and n entries
abbrev pub size_refusal : ℕ → ℕ → ℕ
size_refusal l n = cond (ltb l 2) 2 (cond (ltb n 1) 2 (cond (ltb 64 n) 2 (cond (eqb l (2 + 13 * n)) 0 2)))

abbrev pub refusal_at : Edition → ℕ → List ℕ → ℕ → ℕ
refusal_at v n s e = entry_refusal v (entry_among n s e)

-- its size, then entry by entry
abbrev pub check_as : Edition → ℕ → List ℕ → ℕ
check_as v n s = size_refusal (length s) n then first_refusal n (refusal_at v n s)

-- `entry` of the refusal table, for the entry number e of n
abbrev pub entry_number_refusal : ℕ → ℕ → ℕ
entry_number_refusal n e = cond (ltb e n) 0 5

-- the part of a sheet of n entries that looking up the entry e with the number r gives: its setting, empty where it is refused
abbrev pub part_for : ℕ → ℕ → List ℕ → ℕ → List ℕ
part_for r n s e = cond (eqb r 0) (setting_behind n s e) []

-- ---- the check of a sheet

-- an edition that there is, and entries that fit
pub record Sized (s : List ℕ) : Type 0 where
  pub edition : (get_or s 1 0 ≡ 0) ⊎ (get_or s 1 0 ≡ 2)
  pub fits : Fits (entries_of s) s

-- the number that opening a sheet gives: its edition, then its n entries by that edition
abbrev pub check_of : List ℕ → ℕ
check_of s = edition_refusal (get_or s 1 0) then check_as (edition_in s) (entries_of s) s

-- the number that looking up the entry e gives
abbrev pub check_entry_of : List ℕ → ℕ → ℕ
check_entry_of s e = check_of s then entry_number_refusal (entries_of s) e

-- the entry's setting, as a part of the sheet
abbrev pub lookup_of : List ℕ → ℕ → List ℕ
lookup_of s e = part_for (check_entry_of s e) (entries_of s) s e
