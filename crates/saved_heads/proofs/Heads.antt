-- Heads and their rows come back from each other. Assumes nothing.
use Prim.Native.Nat.{ℕ, suc, ◌+◌, ◌*◌, ◌≤◌, ◌<◌}
use mathlib.Core.Path.{◌≡◌, refl, sym, ap, ◌∙◌}
use mathlib.Core.Bool.{Bool, true, false, cond}
use mathlib.Core.List.{List, [], ◌∷◌, ◌++◌, map, append_assoc, append-nil}
use native.Mathlib.Omega.{arith}
use borrow.Author.Tests.{lt-ltb, le-ltb, ltb-false}
use lib.Dec.{ltb}
use lib.ListN.{length, get_or, set, replicate, length-map, length-append, length-set}
use lib.Seq.{get_or-append_seam, set-append_seam}
use Rattle.std.specs.Prelude.{⊤, Option, None, Some}
use Rattle.std.specs.List.{All, fold}
use Rattle.std.proofs.lemmas.List.Sums.{fold-append}
use Rattle.std.proofs.lemmas.List.Elements.{All-nil, All-cons, All-head, All-tail, All-append, All-map, All-weaker, All-set, All-push}
use Rattle.std.proofs.lemmas.Bool.{cond_both}
use Rattle.lists.proofs.Pieces.{all_get_or, all_front, all_back}
use Rattle.std.proofs.lemmas.Option.{none-some}
use Rattle.any_filter.specs.declared.Filter.{Filter}
use Rattle.heads.specs.Head.{head_with, empty_head, holding, last_mark, next_mark}
use Rattle.heads.specs.declared.Snapshot.{Snapshot}
use Rattle.heads.specs.declared.Head.{Head}
use Rattle.saved_heads.specs.Row.{row_of, snapshot_in}
use Rattle.saved_heads.specs.Bytes.{head_rows, rows_from, with_mark, with_snapshot, grown_head, with_row}
use Rattle.saved_heads.specs.Rules.{RowRight, HeadRight, InTurn, none_left, head}
use Rattle.heads.specs.Valid.{ValidSnapshot, ValidMark, ValidHead}
use Rattle.saved_heads.specs.RoundTrip.{ValidHeads}
use Rattle.saved_heads.specs.declared.Row.{Row}
use Rattle.saved_heads.proofs.Bytes.{Shaped, Tagged}
use Rattle.saved_heads.proofs.Snapshots.{snapshot_back, row_shaped, row_right, row_back, valid_in, empty_in, byte_of_none, byte_known, eight_words}

-- ---- rows taken one after the other give the heads

-- a mark that there is room for
mark_grown : (s : Snapshot) (f : Filter) → s.filter ≡ Some f → (ms : List Snapshot) (n : Snapshot) → ValidMark n → length ms < 4
    → grown_head (head_with s ms) n ≡ head_with s (ms ++ n ∷ [])
mark_grown s f e ms n k l = go n.filter refl
  where
    go : (g : Option Filter) → n.filter ≡ g → grown_head (head_with s ms) n ≡ head_with s (ms ++ n ∷ [])
    go None q = absurd (k.filled q)
    go (Some g) q =
        let x = head_with s ms in
        ap (with_snapshot x n) e ∙ ap (with_mark x n) q ∙ ap (λ (b : Bool). cond b x (head_with s (ms ++ n ∷ []))) (le-ltb 3 (length ms) (omega arith))

marks_grown : (s : Snapshot) (f : Filter) → s.filter ≡ Some f → (ms ns : List Snapshot) → All ValidMark ns → length ms + length ns ≤ 4
    → fold grown_head (head_with s ms) ns ≡ head_with s (ms ++ ns)
marks_grown s f e ms [] k l = ap (head_with s) (sym (append-nil ms))
marks_grown s f e ms (n ∷ ns) k l =
    ap (λ (x : Head). fold grown_head x ns) (mark_grown s f e ms n (All-head ValidMark n ns k) (omega arith))
    ∙ marks_grown s f e (ms ++ n ∷ []) ns (All-tail ValidMark n ns k) (omega (arith, length-append ms (n ∷ [])))
    ∙ ap (head_with s) (append_assoc ms (n ∷ []) ns)

-- a head by its rows
head_grown : (x : Head) → ValidHead x → fold grown_head empty_head (x.now ∷ x.marks.items) ≡ x
head_grown x k = go x.now.filter refl
  where
    go : (f : Option Filter) → x.now.filter ≡ f → fold grown_head empty_head (x.now ∷ x.marks.items) ≡ x
    go None e = ap (fold grown_head (holding empty_head x.now)) (k.of_empty e) ∙ ap (head_with x.now) (sym (k.of_empty e))
    go (Some f) e = marks_grown x.now f e [] x.marks.items k.marks (omega (arith, k.few))

module _ (done rest : List Head) (below : length done < 12) where
  abbrev with : Head → List Head
  with y = done ++ y ∷ rest

  row_taken : (y : Head) (s : Snapshot) → ValidSnapshot s → with_row (with y) (row_of (length done) s) ≡ with (grown_head y s)
  unfolding with_row row_of
  row_taken y s k =
      let h = length done in
      let r = row_of h s in
      ap (λ (b : Bool). cond b (set (with y) h (grown_head (get_or (with y) h empty_head) (snapshot_in r))) (with y)) (lt-ltb h 12 below)
      ∙ ap (λ (x : Head). set (with y) h (grown_head x (snapshot_in r))) (get_or-append_seam done y rest empty_head)
      ∙ ap (λ (t : Snapshot). set (with y) h (grown_head y t)) (snapshot_back h s k)
      ∙ set-append_seam done y rest (grown_head y s)

  rows_taken : (y : Head) (ss : List Snapshot) → All ValidSnapshot ss → fold with_row (with y) (map (row_of (length done)) ss) ≡ with (fold grown_head y ss)
  rows_taken y [] k = refl
  rows_taken y (s ∷ ss) k =
      ap (λ (l : List Head). fold with_row l (map (row_of (length done)) ss)) (row_taken y s (All-head ValidSnapshot s ss k))
      ∙ rows_taken (grown_head y s) ss (All-tail ValidSnapshot s ss k)

snapshots_valid : (x : Head) → ValidHead x → All ValidSnapshot (x.now ∷ x.marks.items)
snapshots_valid x k = All-cons ValidSnapshot x.now x.marks.items k.now (All-weaker ValidMark ValidSnapshot (λ m p. p.valid) x.marks.items k.marks)

heads_taken : (done xs : List Head) → length done + length xs ≤ 12 → All ValidHead xs
    → fold with_row (done ++ replicate (length xs) empty_head) (rows_from (length done) xs) ≡ done ++ xs
unfolding rows_from
heads_taken done [] l k = refl
heads_taken done (x ∷ xs) l k =
    let h = length done in
    let rest = replicate (length xs) empty_head in
    let k-x = All-head ValidHead x xs k in
    let e : length (done ++ x ∷ []) ≡ suc h = omega (arith, length-append done (x ∷ [])) in
    fold-append with_row (done ++ empty_head ∷ rest) (head_rows h x) (rows_from (suc h) xs)
    ∙ ap (λ (l : List Head). fold with_row l (rows_from (suc h) xs))
    (rows_taken done rest (omega arith) empty_head (x.now ∷ x.marks.items) (snapshots_valid x k-x)
    ∙ ap (λ (y : Head). done ++ y ∷ rest) (head_grown x k-x)
    ∙ sym (append_assoc done (x ∷ []) rest))
    ∙ ap (λ (n : ℕ). fold with_row ((done ++ x ∷ []) ++ rest) (rows_from n xs)) (sym e)
    ∙ heads_taken (done ++ x ∷ []) xs (omega arith) (All-tail ValidHead x xs k)
    ∙ append_assoc done (x ∷ []) xs

pub heads_back : (xs : List Head) → ValidHeads xs → fold with_row (replicate 12 empty_head) (rows_from 0 xs) ≡ xs
heads_back xs k = rw k.twelve at (heads_taken [] xs (omega (arith, k.twelve)) k.heads)

-- ---- the rows of heads

-- what holds of the row of each snapshot for which Q holds
rows_all : (P : Row → Type 0) (Q : Snapshot → Type 0) (h : ℕ) (xs : List Head) → ((k : ℕ) (s : Snapshot) → k < h + length xs → Q s → P (row_of k s))
    → All (λ (x : Head). All Q (x.now ∷ x.marks.items)) xs → All P (rows_from h xs)
unfolding rows_from
rows_all P Q h [] g q = All-nil P
rows_all P Q h (x ∷ xs) g q =
    let ss = x.now ∷ x.marks.items in
    let q-x = All-head (λ (x : Head). All Q (x.now ∷ x.marks.items)) x xs q in
    All-append P (head_rows h x) (rows_from (suc h) xs) (All-map P (row_of h) ss (All-weaker Q (λ s. P (row_of h s)) (λ s. g h s (omega arith)) ss q-x))
    (rows_all P Q (suc h) xs (λ k s l. g k s (omega arith)) (All-tail (λ (x : Head). All Q (x.now ∷ x.marks.items)) x xs q))

module _ (h : ℕ) (xs : List Head) (k : All ValidHead xs) where
  all_valid : All (λ (x : Head). All ValidSnapshot (x.now ∷ x.marks.items)) xs
  all_valid = All-weaker ValidHead (λ x. All ValidSnapshot (x.now ∷ x.marks.items)) snapshots_valid xs k

  pub rows_shaped : All Shaped (rows_from h xs)
  rows_shaped = rows_all Shaped ValidSnapshot h xs (λ k s l. row_shaped k s) all_valid

  pub rows_right : All RowRight (rows_from h xs)
  rows_right = rows_all RowRight ValidSnapshot h xs (λ k s l. row_right k s) all_valid

pub rows_eight : (h : ℕ) (xs : List Head) → All (λ (r : Row). length r.words ≡ 8) (rows_from h xs)
unfolding row_of
rows_eight h xs = rows_all (λ (r : Row). length r.words ≡ 8) (λ s. ⊤) h xs (λ k s l q. eight_words s.filter) (λ i d l j e m. tt)

pub rows_tagged : (xs : List Head) → length xs ≡ 12 → All Tagged (rows_from 0 xs)
unfolding row_of
rows_tagged xs e = rows_all Tagged (λ s. ⊤) 0 xs (λ k s l q. record { head = omega arith; filter = omega (arith, byte_known s.filter) }) (λ i d l j e m. tt)

pub rows_many : (h : ℕ) (xs : List Head) → length xs ≤ length (rows_from h xs)
unfolding rows_from
rows_many h [] = omega arith
rows_many h (x ∷ xs) = let e = rows_many (suc h) xs in omega (arith, length-append (head_rows h x) (rows_from (suc h) xs))

pub rows_few : (h : ℕ) (xs : List Head) → All ValidHead xs → length (rows_from h xs) ≤ 5 * length xs
unfolding rows_from
rows_few h [] k = omega arith
rows_few h (x ∷ xs) k =
    let e = rows_few (suc h) xs (All-tail ValidHead x xs k) in
    let f = (All-head ValidHead x xs k).few in
    omega (arith, length-append (head_rows h x) (rows_from (suc h) xs), length-map (x.now ∷ x.marks.items) (row_of h))

-- ---- rows of heads in turn are rows of heads that are valid

-- the heads of the rows from head h on
pub record Grouped (h : ℕ) (rs : List Row) : Type 0 where
  pub heads : List Head
  pub count : h + length heads ≡ 12
  pub valid : All ValidHead heads
  pub rows : rows_from h heads ≡ rs

module _ (h : ℕ) where
  row_same : (r : Row) → r.head ≡ h → RowRight r → Shaped r → row_of h (snapshot_in r) ≡ r
  row_same r e t s = ap (λ (k : ℕ). row_of k (snapshot_in r)) (sym e) ∙ row_back r t s

  rows_same : (rs : List Row) → All (λ (r : Row). r.head ≡ h) rs → All RowRight rs → All Shaped rs → map (row_of h) (map snapshot_in rs) ≡ rs
  rows_same [] e t s = refl
  rows_same (r ∷ rs) e t s =
      cc (
        row_same r (All-head (λ (r : Row). r.head ≡ h) r rs e) (All-head RowRight r rs t) (All-head Shaped r rs s),
        rows_same rs (All-tail (λ (r : Row). r.head ≡ h) r rs e) (All-tail RowRight r rs t) (All-tail Shaped r rs s),
      )

mark_valid : (r : Row) → (r.filter ≡ 0 → ⊥) → RowRight r → Shaped r → ValidMark (snapshot_in r)
mark_valid r n t s = record { valid = valid_in r s; filled = λ e. n (empty_in r t s e) }

marks_valid : (rs : List Row) → All (λ (r : Row). r.filter ≡ 0 → ⊥) rs → All RowRight rs → All Shaped rs → All ValidMark (map snapshot_in rs)
marks_valid [] n t s = All-nil ValidMark
marks_valid (r ∷ rs) n t s =
    All-cons ValidMark (snapshot_in r) (map snapshot_in rs)
    (mark_valid r (All-head (λ (r : Row). r.filter ≡ 0 → ⊥) r rs n) (All-head RowRight r rs t) (All-head Shaped r rs s))
    (marks_valid rs (All-tail (λ (r : Row). r.filter ≡ 0 → ⊥) r rs n) (All-tail RowRight r rs t) (All-tail Shaped r rs s))

pub grouped : {h : ℕ} {rs : List Row} → InTurn h rs → All RowRight rs → All Shaped rs → Grouped h rs
unfolding rows_from
grouped none_left t s = record { heads = []; count = refl; valid = All-nil ValidHead; rows = refl }
grouped (head {h} {rest} standing marks hr turn) t s =
    let t-all = All-tail RowRight standing (marks ++ rest) t in
    let s-all = All-tail Shaped standing (marks ++ rest) s in
    let t-marks = all_front RowRight marks rest t-all in
    let s-marks = all_front Shaped marks rest s-all in
    let t-now = All-head RowRight standing (marks ++ rest) t in
    let s-now = All-head Shaped standing (marks ++ rest) s in
    let x = head_with (snapshot_in standing) (map snapshot_in marks) in
    let k : ValidHead x =
    record {
      now = valid_in standing s-now;
      few = rw (length-map marks snapshot_in) hr.few;
      marks = marks_valid marks hr.no_empty t-marks s-marks;
      of_empty = λ e. ap (map snapshot_in) (hr.of_empty (empty_in standing t-now s-now e));
    } in
    let g = grouped turn (all_back RowRight marks rest t-all) (all_back Shaped marks rest s-all) in
    record {
      heads = x ∷ g.heads;
      count = omega (arith, g.count);
      valid = All-cons ValidHead x g.heads k g.valid;
      rows =
          ap (λ (r : Row). r ∷ (map (row_of h) (map snapshot_in marks) ++ rows_from (suc h) g.heads)) (row_same h standing hr.number t-now s-now)
          ∙ ap (λ (rs : List Row). standing ∷ (rs ++ rows_from (suc h) g.heads)) (rows_same h marks hr.numbers t-marks s-marks)
          ∙ ap (λ (rs : List Row). standing ∷ (marks ++ rs)) g.rows;
    }

-- ---- and the other way

module _ (h : ℕ) where
  numbers_of : (ms : List Snapshot) → All (λ (r : Row). r.head ≡ h) (map (row_of h) ms)
  unfolding row_of
  numbers_of ms = All-map (λ (r : Row). r.head ≡ h) (row_of h) ms (λ i d l. refl)

  holds_something : (m : Snapshot) → ValidMark m → (row_of h m).filter ≡ 0 → ⊥
  unfolding row_of
  holds_something m k e = k.filled (byte_of_none m.filter e)

  head_right : (x : Head) → ValidHead x → HeadRight h (row_of h x.now) (map (row_of h) x.marks.items)
  unfolding row_of
  head_right x k =
      record {
        number = refl;
        numbers = numbers_of x.marks.items;
        few = rw (length-map x.marks.items (row_of h)) k.few;
        no_empty = All-map (λ (r : Row). r.filter ≡ 0 → ⊥) (row_of h) x.marks.items (All-weaker ValidMark (λ m. (row_of h m).filter ≡ 0 → ⊥) holds_something x.marks.items k.marks);
        of_empty = λ e. ap (map (row_of h)) (k.of_empty (byte_of_none x.now.filter e));
      }

pub in_turn : (h : ℕ) (xs : List Head) → h + length xs ≡ 12 → All ValidHead xs → InTurn h (rows_from h xs)
unfolding rows_from
in_turn h [] e k = let z : h ≡ 12 = omega arith in rw z none_left
in_turn h (x ∷ xs) e k =
    head (row_of h x.now) (map (row_of h) x.marks.items) (head_right h x (All-head ValidHead x xs k))
    (in_turn (suc h) xs (omega arith) (All-tail ValidHead x xs k))

-- ---- what any rows lead to is valid

module _ (x : Head) (s : Snapshot) (k : ValidHead x) (p : ValidSnapshot s) where
  with_mark_valid : {f g : Filter} → x.now.filter ≡ Some f → s.filter ≡ Some g → (b : Bool) → ltb last_mark (next_mark x) ≡ b
      → ValidHead (cond b x (head_with x.now (x.marks.items ++ s ∷ [])))
  with_mark_valid e q true z = k
  with_mark_valid {f} {g} e q false z =
      record {
        now = k.now;
        few = omega (arith, length-append x.marks.items (s ∷ []), ltb-false last_mark (next_mark x) z);
        marks = All-push ValidMark x.marks.items s k.marks (record { valid = p; filled = λ n. none-some g (sym n ∙ q) });
        of_empty = λ n. absurd (none-some f (sym n ∙ e));
      }

  by_mark : {f : Filter} → x.now.filter ≡ Some f → (g : Option Filter) → s.filter ≡ g → ValidHead (with_mark x s g)
  by_mark e None q = k
  by_mark e (Some g) q = with_mark_valid e q (ltb last_mark (next_mark x)) refl

  by_standing : (f : Option Filter) → x.now.filter ≡ f → ValidHead (with_snapshot x s f)
  by_standing None e = record { now = p; few = k.few; marks = k.marks; of_empty = λ n. k.of_empty e }
  by_standing (Some f) e = by_mark e s.filter refl

  grown_valid : ValidHead (grown_head x s)
  grown_valid = by_standing x.now.filter refl

pub empty_valid : ValidHead empty_head
empty_valid =
    record { now = record { representable = tt; small = omega arith; no_count = λ e. refl }; few = omega arith; marks = All-nil ValidMark; of_empty = λ e. refl }

pub head_valid : (xs : List Head) → All ValidHead xs → (h : ℕ) → ValidHead (get_or xs h empty_head)
head_valid xs k h = all_get_or ValidHead xs h empty_head empty_valid k

row_valid : (xs : List Head) (r : Row) → Shaped r → All ValidHead xs → All ValidHead (with_row xs r)
unfolding with_row
row_valid xs r s k =
    let g = grown_valid (get_or xs r.head empty_head) (snapshot_in r) (head_valid xs k r.head) (valid_in r s) in
    cond_both (ltb r.head 12) _ xs (All ValidHead) (λ e. All-set ValidHead xs r.head _ g k) (λ e. k)

row_length : (xs : List Head) (r : Row) → length (with_row xs r) ≡ length xs
unfolding with_row
row_length xs r = cond_both (ltb r.head 12) _ xs (λ (l : List Head). length l ≡ length xs) (λ e. length-set xs r.head _) (λ e. refl)

pub rows_valid : (xs : List Head) (rs : List Row) → All Shaped rs → All ValidHead xs → All ValidHead (fold with_row xs rs)
rows_valid xs [] s k = k
rows_valid xs (r ∷ rs) s k = rows_valid (with_row xs r) rs (All-tail Shaped r rs s) (row_valid xs r (All-head Shaped r rs s) k)

pub rows_length : (xs : List Head) (rs : List Row) → length (fold with_row xs rs) ≡ length xs
rows_length xs [] = refl
rows_length xs (r ∷ rs) = rows_length (with_row xs r) rs ∙ row_length xs r
