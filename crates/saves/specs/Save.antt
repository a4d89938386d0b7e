-- A save of the library (02 h): the bytes that are left to take, of its sheet as it stood when the save began.
use Rattle.std.specs.Prelude.{ℕ, cond, List, [], ltb, length, take, drop, replicate}
use Rattle.filter_core.specs.Refusal.{unless_refused}
use Rattle.filter_core.specs.Rows.{◌then◌}
use Rattle.lists.specs.Over.{room, over}
use Rattle.library.specs.Library.{write_number, sheet_length, written_of}
use Rattle.library.specs.declared.Library.{Library}
use Rattle.saves.specs.declared.Save.{Save}

-- an output of so many places
unfoldable pub zero_bytes : ℕ → List ℕ
zero_bytes m = replicate m 0

-- a save of which these bytes are left to take
abbrev pub with_left : List ℕ → Save
with_left s = record { left = record { items = s } }

-- no save was begun
abbrev pub no_save : Save
no_save = with_left []

abbrev pub left_of : Save → List ℕ
left_of v = v.left.items

-- ---- the refusals of 02 h, where k bytes are left

-- 16: a save is unfinished
abbrev pub unfinished_refusal : ℕ → ℕ
unfinished_refusal k = cond (ltb 0 k) 16 0

-- 17: no save is unfinished
abbrev pub finished_refusal : ℕ → ℕ
finished_refusal k = cond (ltb k 1) 17 0

-- 16, then 2 where there is no library: the number of a write with room for every sheet, the longest of which has 834 bytes
abbrev pub begin_refusal : ℕ → Library → ℕ
begin_refusal k l = unfinished_refusal k then write_number l (zero_bytes 834)

-- ---- begin

-- the library as a write puts it over zeros
abbrev pub begun_with : Library → Save
begun_with l = with_left (take (sheet_length l) (written_of l (zero_bytes 834)))

-- the save after a begin
abbrev pub begin_of : Save → Library → Save
begin_of v l = unless_refused (begin_refusal (length (left_of v)) l) v (begun_with l)

-- ---- take

abbrev pub take_refusal : Save → ℕ
take_refusal v = finished_refusal (length (left_of v))

-- as much of what is left as the output has room for; where nothing is left, that is nothing
abbrev pub take_length : Save → List ℕ → ℕ
take_length v out = room 0 (left_of v) out

-- the save after a take, which ends when its last byte is taken
abbrev pub take_of : Save → List ℕ → Save
take_of v out = with_left (drop (room 0 (left_of v) out) (left_of v))

-- the output after a take
abbrev pub taken_of : Save → List ℕ → List ℕ
taken_of v out = over 0 (left_of v) out
