-- A library: a sheet's entries and its edition, held by value.
use Rattle.std.specs.Prelude.{ℕ, ◌+◌, ◌*◌, cond, List, [], ◌∷◌, ◌++◌, ltb, length, map, slice_get, Option, Some, None}
use Rattle.std.specs.List.{flat_map}
use Rattle.arrayvec.specs.ArrayVec.{array_vec_len}
use Rattle.filter_core.specs.Refusal.{unless_refused}
use Rattle.lists.specs.Over.{over}
use Rattle.lists.specs.Room.{room_refusal}
use Rattle.lists.specs.Table.{table}
use Rattle.sheets.specs.Edition.{edition_byte}
use Rattle.sheets.specs.Sheet.{entries_of, edition_in, kind_at, setting_at, entry_of}
use Rattle.sheets.specs.declared.edition.Edition.TheVariants.{One}
use Rattle.sheets.specs.declared.entry.Entry.{Entry}
use Rattle.library.specs.declared.Library.{Library}
use Rattle.library.specs.declared.StoredEntry.{StoredEntry}

-- how many entries it has
abbrev pub count : Library → ℕ
count l = array_vec_len l.entries

-- ---- reading

abbrev pub none : Library
none = record { edition = One; entries = record { items = [] } }

-- an entry's bytes, as the sheet holds them
abbrev pub stored_in : List ℕ → ℕ → StoredEntry
stored_in s e = record { kind = kind_at s e; setting = setting_at s e }

-- the library of a sheet: its edition (02 a) and its entries
abbrev pub library_of : List ℕ → Library
library_of s = record { edition = edition_in s; entries = record { items = table (entries_of s) (stored_in s) } }

-- ---- an entry of a library; 0 past the last place

abbrev pub entry_from : Option StoredEntry → Entry
entry_from (Some t) = entry_of t.kind t.setting
entry_from None = record { kind = 0; a = 0; b = 0; c = 0 }

abbrev pub entry_at : Library → ℕ → Entry
entry_at l e = entry_from (slice_get l.entries.items e)

-- ---- writing

-- the sheet of a library, in its edition (02 a)
abbrev pub bytes_of : Library → List ℕ
bytes_of l = (count l ∷ edition_byte l.edition ∷ map (λ (t : StoredEntry). t.kind) l.entries.items) ++ flat_map (λ (t : StoredEntry). t.setting) l.entries.items

-- and its length, which a write answers
abbrev pub sheet_length : Library → ℕ
sheet_length l = 2 + 13 * count l

-- `size`, then `short` of the refusal table, for an output of m places; no library of a sheet has more than 64 entries
abbrev pub write_refusal : ℕ → ℕ → ℕ
write_refusal n m = cond (ltb n 1) 2 (cond (ltb 64 n) 2 (room_refusal (2 + 13 * n) m))

abbrev pub write_number : Library → List ℕ → ℕ
write_number l out = write_refusal (count l) (length out)

-- the output after a write: the sheet, and what stood behind it. A refused write leaves it as it was
abbrev pub written_of : Library → List ℕ → List ℕ
written_of l out = unless_refused (write_number l out) out (over 0 (bytes_of l) out)
