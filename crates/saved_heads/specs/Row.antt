-- A row of a saved frame (02 k), which is a tag and its record, and the snapshot of a head that it stands for.
use Rattle.std.specs.Prelude.{ℕ, List, replicate, Option, None, Some}
use Rattle.any_filter.specs.Cases.{type_of}
use Rattle.any_filter.specs.Fields.{type_number, type_numbered}
use Rattle.any_filter.specs.Words.{words_of, filter_of_words}
use Rattle.any_filter.specs.declared.Filter.{Filter}
use Rattle.any_filter.specs.declared.FilterType.{FilterType}
use Rattle.heads.specs.Snapshot.{empty_snapshot, holds}
use Rattle.heads.specs.declared.Snapshot.{Snapshot}
use Rattle.saved_heads.specs.declared.Row.{Row}

-- the filter byte: the number of the filter's type, and 0 where there is none
abbrev pub filter_byte : Option Filter → ℕ
filter_byte None = 0
filter_byte (Some f) = type_number (type_of f)

-- the eight words: zeros where there is no filter
abbrev pub filter_words : Option Filter → List ℕ
filter_words None = replicate 8 0
filter_words (Some f) = words_of f

unfoldable pub row_of : ℕ → Snapshot → Row
row_of h s = record { head = h; filter = filter_byte s.filter; words = filter_words s.filter; count = s.count }

-- and back; a row with another filter byte than 1 to 6 holds nothing

abbrev pub snapshot_by : Option FilterType → Row → Snapshot
snapshot_by None r = empty_snapshot
snapshot_by (Some k) r = holds (filter_of_words k r.words) r.count

unfoldable pub snapshot_in : Row → Snapshot
snapshot_in r = snapshot_by (type_numbered r.filter) r
