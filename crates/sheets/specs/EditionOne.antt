-- A reader that knows edition 1 only, as document 01 has it: n is two bytes, low first, and the approximations are the source's four.
use Rattle.std.specs.Prelude.{ℕ, ◌+◌, ◌*◌, List, get_or}
use Rattle.filter_core.specs.Rows.{◌then◌}
use Rattle.sheets.specs.Sheet.{entry_among, check_as, entry_number_refusal, part_for}
use Rattle.sheets.specs.declared.edition.Edition.TheVariants.{One}
use Rattle.sheets.specs.declared.entry.Entry.{Entry}

abbrev pub entries_one : List ℕ → ℕ
entries_one s = get_or s 0 0 + 256 * get_or s 1 0

-- the entry e that it finds
abbrev pub entry_one : List ℕ → ℕ → Entry
entry_one s e = entry_among (entries_one s) s e

abbrev pub check_one : List ℕ → ℕ
check_one s = check_as One (entries_one s) s

abbrev pub check_entry_one : List ℕ → ℕ → ℕ
check_entry_one s e = check_one s then entry_number_refusal (entries_one s) e

abbrev pub lookup_one : List ℕ → ℕ → List ℕ
lookup_one s e = part_for (check_entry_one s e) (entries_one s) s e
