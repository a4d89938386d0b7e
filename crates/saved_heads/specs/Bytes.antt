-- A saved frame's bytes (02 k): heads as rows, rows as bytes, and back.
use Rattle.std.specs.Prelude.{ℕ, suc, ◌+◌, ◌*◌, cond, List, [], ◌∷◌, ◌++◌, ltb, length, get_or, set, take, map, replicate, Option, None, Some}
use Rattle.std.specs.Int.{w16, w32, to_le_bytes}
use Rattle.std.specs.List.{flat_map, fold}
use Rattle.lists.specs.Table.{table}
use Rattle.words.specs.Word.{word_from}
use Rattle.any_filter.specs.declared.Filter.{Filter}
use Rattle.heads.specs.Head.{head_with, empty_head, holding, last_mark, next_mark}
use Rattle.heads.specs.declared.Snapshot.{Snapshot}
use Rattle.heads.specs.declared.Head.{Head}
use Rattle.saved_heads.specs.Row.{row_of, snapshot_in}
use Rattle.saved_heads.specs.declared.Row.{Row}

-- ---- rows as bytes: their number, their tags, their records, low byte first throughout

abbrev pub tag_bytes : Row → List ℕ
tag_bytes r = r.head ∷ r.filter ∷ []

abbrev pub record_bytes : Row → List ℕ
record_bytes r = flat_map (to_le_bytes w32) r.words ++ to_le_bytes w32 r.count

abbrev pub rows_bytes : List Row → List ℕ
rows_bytes rs = to_le_bytes w16 (length rs) ++ flat_map tag_bytes rs ++ flat_map record_bytes rs

-- ---- and bytes as rows; bytes past the end count as 0

abbrev pub rows_said : List ℕ → ℕ
rows_said b = get_or b 0 0 + 256 * get_or b 1 0

-- where the record of row i begins
abbrev pub record_place : List ℕ → ℕ → ℕ
record_place b i = 2 + 2 * rows_said b + 36 * i

unfoldable pub row_at : List ℕ → ℕ → Row
row_at b i =
    let p = record_place b i in
    record { head = get_or b (2 + 2 * i) 0; filter = get_or b (2 + 2 * i + 1) 0; words = table 8 (λ j. word_from b (p + 4 * j)); count = word_from b (p + 32) }

abbrev pub rows_in : List ℕ → List Row
rows_in b = table (rows_said b) (row_at b)

-- ---- heads as rows: of each head in turn what it holds, and then its marks, oldest first

abbrev pub head_rows : ℕ → Head → List Row
head_rows h x = map (row_of h) (x.now ∷ x.marks.items)

unfoldable pub rows_from : ℕ → List Head → List Row
rows_from h [] = []
rows_from h (x ∷ xs) = head_rows h x ++ rows_from (suc h) xs

abbrev pub bytes_of : List Head → List ℕ
bytes_of xs = rows_bytes (rows_from 0 xs)

-- ---- and rows as heads

-- a row taken into its head: as what it holds if it is empty, else as its next mark. A row that fits neither is left out

abbrev pub with_mark : Head → Snapshot → Option Filter → Head
with_mark x s None = x
with_mark x s (Some f) = cond (ltb last_mark (next_mark x)) x (head_with x.now (x.marks.items ++ s ∷ []))

abbrev pub with_snapshot : Head → Snapshot → Option Filter → Head
with_snapshot x s None = holding x s
with_snapshot x s (Some f) = with_mark x s s.filter

abbrev pub grown_head : Head → Snapshot → Head
grown_head x s = with_snapshot x s x.now.filter

unfoldable pub with_row : List Head → Row → List Head
with_row xs r = cond (ltb r.head 12) (set xs r.head (grown_head (get_or xs r.head empty_head) (snapshot_in r))) xs

-- twelve heads, of 60 rows at most
abbrev pub heads_in : List ℕ → List Head
heads_in b = fold with_row (replicate 12 empty_head) (take 60 (rows_in b))
