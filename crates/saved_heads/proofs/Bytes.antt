-- Rows and their bytes come back from each other. Assumes nothing.
use Prim.Native.Nat.{ℕ, suc, ◌+◌, ◌*◌, ◌/◌, ◌%◌, ◌≤◌, ◌<◌}
use mathlib.Core.Path.{◌≡◌, refl, sym, ap, ◌∙◌}
use mathlib.Core.List.{List, ◌∷◌, ◌++◌}
use native.Mathlib.Omega.{arith}
use lib.ListN.{length, get_or, take, drop, length-append, length-drop, take-append-drop}
use lib.Seq.{take-append_seam, take_all, take-add, drop-cons, drop-drop}
use Rattle.std.specs.Prelude.{replicate}
use Rattle.std.specs.Int.{w16, w32, to_le_bytes}
use Rattle.std.specs.List.{All, flat_map}
use Rattle.std.proofs.Math.ListN.{get_or-append}
use Rattle.std.proofs.lemmas.List.{get_or-append-add}
use Rattle.std.proofs.lemmas.List.Elements.{All-from_recursion, All-append, All-get_or, All-weaker}
use Rattle.lists.specs.Table.{table}
use Rattle.lists.proofs.Tables.{length_table, table_is, all_table}
use Rattle.lists.specs.Over.{room, Puts}
use Rattle.lists.proofs.Over.{over_all}
use Rattle.lists.proofs.Pieces.{pieces, length_pieces, get_or_piece, all_get_or, all_joined}
use Rattle.words.specs.Word.{Bytes, word_from}
use Rattle.words.proofs.Words.{word_small, word_at_place, bytes_at_place}
use Rattle.saved_heads.specs.Bytes.{tag_bytes, record_bytes, rows_bytes, rows_said, record_place, row_at, rows_in}
use Rattle.saved_heads.specs.declared.Row.{Row}

-- ---- a row that has the shape of one: eight words and a count, of 32 bits each

abbrev pub Small : ℕ → Type 0
Small w = w < 0x1_0000_0000

pub record Shaped (r : Row) : Type 0 where
  pub eight : length r.words ≡ 8
  pub small : All Small r.words
  pub count : Small r.count

abbrev le : ℕ → List ℕ
le = to_le_bytes w32

four_long : (ws : List ℕ) → All (λ (w : ℕ). length (le w) ≡ 4) ws
four_long ws = λ k d l. refl

two_long : (rs : List Row) → All (λ (r : Row). length (tag_bytes r) ≡ 2) rs
two_long rs = λ k d l. refl

record_long : (r : Row) → length r.words ≡ 8 → length (record_bytes r) ≡ 36
record_long r e =
    let f = length_pieces 4 le r.words (four_long r.words) in
    length-append (flat_map le r.words) (le r.count) ∙ omega arith

-- ---- rows that are written are read back

pub zero_row : Row
zero_row = record { head = 0; filter = 0; words = replicate 8 0; count = 0 }

-- how long they are
pub long_written : (rs : List Row) → All (λ (r : Row). length r.words ≡ 8) rs → length (rows_bytes rs) ≡ 2 + 38 * length rs
long_written rs h =
    let t = length_pieces 2 tag_bytes rs (two_long rs) in
    let r = length_pieces 36 record_bytes rs (All-weaker (λ (r : Row). length r.words ≡ 8) (λ (r : Row). length (record_bytes r) ≡ 36) record_long rs h) in
    let e = length-append (flat_map tag_bytes rs) (flat_map record_bytes rs) in
    omega arith

-- put where there is room, they are what stands in front, up to the place behind
pub written_front : (rs : List Row) (out : List ℕ) {n : ℕ} {xs : List ℕ} → All (λ (r : Row). length r.words ≡ 8) rs → length rs ≤ 60 → length out ≡ 2282
    → Puts 0 (rows_bytes rs) out n xs → take n xs ≡ rows_bytes rs
written_front rs out h few long p =
    let l = long_written rs h in
    let q = p.place in
    let k = length (rows_bytes rs) in
    let e : 0 + room 0 (rows_bytes rs) out ≡ k = omega arith in
    rw (p.list, q, e, over_all (rows_bytes rs) out (omega arith)) (take-append_seam (rows_bytes rs) (drop k out))

module _ (rs : List Row) (few : length rs ≤ 60) (shaped : All Shaped rs) where
  abbrev b : List ℕ
  b = rows_bytes rs

  abbrev tags : List ℕ
  tags = flat_map tag_bytes rs

  abbrev records : List ℕ
  records = flat_map record_bytes rs

  abbrev row : ℕ → Row
  row i = get_or rs i zero_row

  row_shaped : (i : ℕ) → i < length rs → Shaped (row i)
  row_shaped i l = All-get_or Shaped rs i zero_row l shaped

  long_tags : length tags ≡ 2 * length rs
  long_tags = length_pieces 2 tag_bytes rs (two_long rs)

  pub records_long : All (λ (r : Row). length (record_bytes r) ≡ 36) rs
  records_long = All-weaker Shaped (λ (r : Row). length (record_bytes r) ≡ 36) (λ r s. record_long r s.eight) rs shaped

  -- how many are said
  pub said_written : rows_said b ≡ length rs
  said_written = omega arith

  behind_two : (k : ℕ) → get_or b (2 + k) 0 ≡ get_or (tags ++ records) k 0
  behind_two k = get_or-append-add (to_le_bytes w16 (length rs)) (tags ++ records) k 0

  tag_at : (i m : ℕ) → i < length rs → m < 2 → get_or b (2 + 2 * i + m) 0 ≡ get_or (tag_bytes (row i)) m 0
  tag_at i m l h =
      let t = long_tags in
      ap (λ (k : ℕ). get_or b k 0) {x = 2 + 2 * i + m} {y = 2 + (2 * i + m)} (omega arith)
      ∙ behind_two (2 * i + m)
      ∙ get_or-append tags records 0 (2 * i + m) (omega arith)
      ∙ get_or_piece 2 tag_bytes rs i m zero_row 0 (two_long rs) l h

  record_at : (i m : ℕ) → i < length rs → m < 36 → get_or b (record_place b i + m) 0 ≡ get_or (record_bytes (row i)) m 0
  record_at i m l h =
      let t = long_tags in
      let s = said_written in
      ap (λ (k : ℕ). get_or b k 0) {x = record_place b i + m} {y = 2 + (length tags + (36 * i + m))} (omega arith)
      ∙ behind_two (length tags + (36 * i + m))
      ∙ get_or-append-add tags records (36 * i + m) 0
      ∙ get_or_piece 36 record_bytes rs i m zero_row 0 records_long l h

  word_in : (i j : ℕ) → i < length rs → j < 8 → word_from b (record_place b i + 4 * j) ≡ get_or (row i).words j 0
  word_in i j l h =
      let s = row_shaped i l in
      let e = s.eight in
      let ws = (row i).words in
      let n = length_pieces 4 le ws (four_long ws) in
      word_at_place b (record_place b i + 4 * j) (get_or ws j 0) (All-get_or Small ws j 0 (omega arith) s.small)
      (λ m k. ap (λ (p : ℕ). get_or b p 0) {x = record_place b i + 4 * j + m} {y = record_place b i + (4 * j + m)} (omega arith)
      ∙ record_at i (4 * j + m) l (omega arith)
      ∙ get_or-append (flat_map le ws) (le (row i).count) 0 (4 * j + m) (omega arith)
      ∙ get_or_piece 4 le ws j m 0 0 (four_long ws) (omega arith) k)

  count_in : (i : ℕ) → i < length rs → word_from b (record_place b i + 32) ≡ (row i).count
  count_in i l =
      let s = row_shaped i l in
      let e = s.eight in
      let ws = (row i).words in
      let n = length_pieces 4 le ws (four_long ws) in
      word_at_place b (record_place b i + 32) (row i).count s.count
      (λ m k. ap (λ (p : ℕ). get_or b p 0) {x = record_place b i + 32 + m} {y = record_place b i + (32 + m)} (omega arith)
      ∙ record_at i (32 + m) l (omega arith)
      ∙ ap (λ (p : ℕ). get_or (record_bytes (row i)) p 0) {x = 32 + m} {y = length (flat_map le ws) + m} (omega arith)
      ∙ get_or-append-add (flat_map le ws) (le (row i).count) m 0)

  row_read : (i : ℕ) → i < length rs → row_at b i ≡ row i
  unfolding row_at
  row_read i l =
      let s = row_shaped i l in
      let h : get_or b (2 + 2 * i) 0 ≡ (row i).head = ap (λ (k : ℕ). get_or b k 0) {x = 2 + 2 * i} {y = 2 + 2 * i + 0} (omega arith) ∙ tag_at i 0 l (omega arith) in
      let f : get_or b (2 + 2 * i + 1) 0 ≡ (row i).filter = tag_at i 1 l (omega arith) in
      let w : table 8 (λ j. word_from b (record_place b i + 4 * j)) ≡ (row i).words =
      ap (λ (n : ℕ). table n (λ j. word_from b (record_place b i + 4 * j))) (sym s.eight)
      ∙ table_is (row i).words (λ j. word_from b (record_place b i + 4 * j)) 0 (λ j k. word_in i j l (rw (← s.eight) k)) in
      rw (h, f, w, count_in i l) refl

  pub rows_read : rows_in b ≡ rs
  rows_read = rw said_written (table_is rs (row_at b) zero_row row_read)

-- ---- bytes that are read are written back

pub shaped_at : (b : List ℕ) → Bytes b → (i : ℕ) → Shaped (row_at b i)
unfolding row_at
shaped_at b small i =
    let p = record_place b i in
    record {
      eight = length_table 8 (λ j. word_from b (p + 4 * j));
      small = all_table Small 8 (λ j. word_from b (p + 4 * j)) (λ j l. word_small b (p + 4 * j) small);
      count = word_small b (p + 32) small;
    }

module _ (b : List ℕ) (small : Bytes b) (long : length b ≡ 2 + 38 * rows_said b) (few : rows_said b ≤ 60) where
  abbrev n : ℕ
  n = rows_said b

  length_rows : length (rows_in b) ≡ n
  length_rows = length_table n (row_at b)

  tag_back : (i : ℕ) → i < n → tag_bytes (row_at b i) ≡ take 2 (drop (2 + 2 * i) b)
  unfolding row_at
  tag_back i l =
      let q = 2 + 2 * i in
      sym
      (ap (take 2) (drop-cons b q 0 (omega arith) ∙ ap (λ (k : ℕ). get_or b q 0 ∷ drop k b) {x = suc q} {y = q + 1} (omega arith)
      ∙ ap (λ (t : List ℕ). get_or b q 0 ∷ t) (drop-cons b (q + 1) 0 (omega arith))))

  tags_back : flat_map tag_bytes (rows_in b) ≡ take (2 * n) (drop 2 b)
  tags_back = pieces 2 n (drop 2 b) tag_bytes (row_at b) (λ i l. tag_back i l ∙ ap (take 2) (sym (drop-drop (2 * i) 2 b)))

  record_back : (i : ℕ) → i < n → record_bytes (row_at b i) ≡ take 36 (drop (record_place b i) b)
  unfolding row_at
  record_back i l =
      let p = record_place b i in
      let x = drop p b in
      let w : flat_map le (table 8 (λ j. word_from b (p + 4 * j))) ≡ take 32 x =
      pieces 4 8 x le (λ j. word_from b (p + 4 * j)) (λ j k. bytes_at_place b (p + 4 * j) small (omega arith) ∙ ap (take 4) (sym (drop-drop (4 * j) p b))) in
      let c : le (word_from b (p + 32)) ≡ take 4 (drop 32 x) = bytes_at_place b (p + 32) small (omega arith) ∙ ap (take 4) (sym (drop-drop 32 p b)) in
      rw (w, c) (sym (take-add 32 4 x))

  records_back : flat_map record_bytes (rows_in b) ≡ drop (2 + 2 * n) b
  records_back =
      pieces 36 n (drop (2 + 2 * n) b) record_bytes (row_at b) (λ i l. record_back i l ∙ ap (take 36) (sym (drop-drop (36 * i) (2 + 2 * n) b)))
      ∙ take_all (36 * n) (drop (2 + 2 * n) b) (omega (arith, length-drop (2 + 2 * n) b))

  pub bytes_back : rows_bytes (rows_in b) ≡ b
  bytes_back =
      let h0 = small 0 in
      let h1 = small 1 in
      let d : drop (2 + 2 * n) b ≡ drop (2 * n) (drop 2 b) = sym (drop-drop (2 * n) 2 b) in
      let x : n % 256 ≡ get_or b 0 0 = omega arith in
      let y : n / 256 % 256 ≡ get_or b 1 0 = omega arith in
      let two : b ≡ get_or b 0 0 ∷ get_or b 1 0 ∷ drop 2 b = drop-cons b 0 0 (omega arith) ∙ ap (λ (l : List ℕ). get_or b 0 0 ∷ l) (drop-cons b 1 0 (omega arith)) in
      rw (length_rows, tags_back, records_back, d, take-append-drop (2 * n) (drop 2 b), x, y) (sym two)

-- ---- what is written are bytes

abbrev Below : ℕ → Type 0
Below n = n < 256

le_below : (n : ℕ) → All Below (le n)
le_below n = All-from_recursion Below (le n) (omega arith, (omega arith, (omega arith, (omega arith, tt))))

-- a tag's two
pub record Tagged (r : Row) : Type 0 where
  pub head : r.head < 256
  pub filter : r.filter < 256

tag_below : (r : Row) → Tagged r → All Below (tag_bytes r)
tag_below r t = All-from_recursion Below (tag_bytes r) (t.head, (t.filter, tt))

record_below : (r : Row) → All Below (record_bytes r)
record_below r = All-append Below (flat_map le r.words) (le r.count) (all_joined Below le r.words (λ i d l. le_below (get_or r.words i d))) (le_below r.count)

pub written_below : (rs : List Row) → All Tagged rs → Bytes (rows_bytes rs)
written_below rs t i = all_get_or Below (rows_bytes rs) i 0 (omega arith) all
  where
    all : All Below (rows_bytes rs)
    all =
        All-append Below (to_le_bytes w16 (length rs)) (flat_map tag_bytes rs ++ flat_map record_bytes rs) (All-from_recursion Below (to_le_bytes w16 (length rs)) (omega arith, (omega arith, tt)))
        (All-append Below (flat_map tag_bytes rs) (flat_map record_bytes rs)
        (all_joined Below tag_bytes rs (All-weaker Tagged (λ (r : Row). All Below (tag_bytes r)) tag_below rs t))
        (all_joined Below record_bytes rs (λ i d l. record_below (get_or rs i d))))
