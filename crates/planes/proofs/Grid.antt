-- The laws of rows and of the transpose: those of both arrangements of samples, once. Assumes nothing.
use Prim.Native.Nat.{ℕ, zero, suc, ◌+◌, ◌*◌, ◌<◌, ◌≤◌}
use mathlib.Core.Path.{◌≡◌, refl, sym, ap, subst, ◌∙◌}
use mathlib.Core.List.{List, [], ◌++◌, append_assoc}
use native.Mathlib.Nat.{suc-mul}
use native.Mathlib.Numerals.{add-one}
use native.Mathlib.Omega.{arith}
use lib.ListN.{length, get_or, take, drop, length-append, length-take, length-drop, get_or-append}
use Rattle.std.specs.Prelude.{IsPermutation}
use Rattle.std.proofs.lemmas.List.{append-nil, get_or-append-add, get_or-take, get_or-drop, nil_from_length, take-append-drop}
use Rattle.std.proofs.lemmas.List.Sorted.{IsPermutation-refl, IsPermutation-trans, IsPermutation-cons}
use Rattle.std.proofs.lemmas.List.Sorted.{IsPermutation-append_comm, IsPermutation-append_left, IsPermutation-append_right}
use Rattle.lists.specs.Table.{table}
use Rattle.lists.proofs.Tables.{length_table, get_or_table, table_ext, table_is, table_none}
use Rattle.planes.specs.Grid.{rows, cell, transpose}

pub length_rows : (m n : ℕ) (f : ℕ → ℕ → ℕ) → length (rows m n f) ≡ m * n
unfolding rows
length_rows zero n f = omega arith
length_rows (suc m) n f =
    rw (length-append (table n (f 0)) (rows m n (λ r. f (suc r))), length_table n (f 0), length_rows m n (λ r. f (suc r)), suc-mul m n) (omega arith)

-- the one place of a value: column c of row r
pub get_rows : (m n : ℕ) (f : ℕ → ℕ → ℕ) (r c : ℕ) → r < m → c < n → get_or (rows m n f) (r * n + c) 0 ≡ f r c
unfolding rows
get_rows zero n f r c h l = absurd (omega arith)
get_rows (suc m) n f zero c h l =
    let e : 0 * n + c ≡ c = omega arith in
    rw e (get_or-append (table n (f 0)) (rows m n (λ r. f (suc r))) 0 c (rw (length_table n (f 0)) l) ∙ get_or_table n (f 0) c 0 l)
get_rows (suc m) n f (suc r) c h l =
    let k = length_table n (f 0) in
    let w = suc-mul r n in
    let e : suc r * n + c ≡ length (table n (f 0)) + (r * n + c) = omega arith in
    rw e
    (get_or-append-add (table n (f 0)) (rows m n (λ i. f (suc i))) (r * n + c) 0 ∙ get_rows m n (λ i. f (suc i)) r c (omega arith) l)

pub rows_ext : (m n : ℕ) (f g : ℕ → ℕ → ℕ) → ((r c : ℕ) → r < m → c < n → f r c ≡ g r c) → rows m n f ≡ rows m n g
unfolding rows
rows_ext zero n f g h = refl
rows_ext (suc m) n f g h =
    let p = table_ext n (f 0) (g 0) (λ c l. h 0 c (omega arith) l) in
    let q = rows_ext m n (λ r. f (suc r)) (λ r. g (suc r)) (λ r c k l. h (suc r) c (omega arith) l) in
    cc

rows_suc : (m n : ℕ) (f : ℕ → ℕ → ℕ) → rows (suc m) n f ≡ rows m n f ++ table n (f m)
unfolding rows
rows_suc zero n f = append-nil (table n (f 0))
rows_suc (suc m) n f =
    ap (λ (l : List ℕ). table n (f 0) ++ l) (rows_suc m n (λ r. f (suc r)))
    ∙ sym (append_assoc (table n (f 0)) (rows m n (λ r. f (suc r))) (table n (f (suc m))))

-- one row more
pub rows_more : (m n : ℕ) (f : ℕ → ℕ → ℕ) → rows (m + 1) n f ≡ rows m n f ++ table n (f m)
rows_more m n f = rw add-one (rows_suc m n f)

-- what is read past a row
behind : (n : ℕ) (s : List ℕ) (r c : ℕ) → cell n s (suc r) c ≡ cell n (drop n s) r c
behind n s r c =
    let w = suc-mul r n in
    let e : suc r * n + c ≡ n + (r * n + c) = omega arith in
    rw e (sym (get_or-drop n s (r * n + c) 0))

-- the first row
front : (n : ℕ) (s : List ℕ) → n ≤ length s → table n (cell n s 0) ≡ take n s
front n s h =
    let e : length (take n s) ≡ n = length-take n s ∙ omega arith in
    rw e at (table_is (take n s) (cell n s 0) 0 (λ c l. let k : 0 * n + c ≡ c = omega arith in rw k (sym (get_or-take n s c 0 (omega arith)))))

-- a list is the rows of its cells
pub rows_are : (m n : ℕ) (s : List ℕ) → length s ≡ m * n → rows m n (cell n s) ≡ s
unfolding rows
rows_are zero n s e = sym (nil_from_length s (omega arith))
rows_are (suc m) n s e =
    let w = suc-mul m n in
    let p : table n (cell n s 0) ≡ take n s = front n s (omega arith) in
    let q : rows m n (λ r. cell n s (suc r)) ≡ rows m n (cell n (drop n s)) =
    rows_ext m n (λ r. cell n s (suc r)) (cell n (drop n s)) (λ r c h l. behind n s r c) in
    let l : length (drop n s) ≡ m * n = length-drop n s ∙ omega arith in
    rw (p, q, rows_are m n (drop n s) l) (take-append-drop n s)

-- transposed twice, a list stands as it stood
pub transposed_twice : (m n : ℕ) (s : List ℕ) → length s ≡ m * n → transpose n m (transpose m n s) ≡ s
transposed_twice m n s e =
    rows_ext m n (λ r c. cell m (transpose m n s) c r) (cell n s) (λ r c h l. get_rows n m (λ c r. cell n s r c) c r l h) ∙ rows_are m n s e

-- ---- no value is lost, and none is made

rows_of_none : (m : ℕ) (f : ℕ → ℕ → ℕ) → rows m 0 f ≡ []
unfolding rows
rows_of_none zero f = refl
rows_of_none (suc m) f = rw (table_none (f 0)) (rows_of_none m (λ r. f (suc r)))

-- of four lists, the second before the first
between : (a b c d : List ℕ) → IsPermutation (a ++ c) d → IsPermutation (a ++ (b ++ c)) (b ++ d)
between a b c d h =
    subst (λ (l : List ℕ). IsPermutation l (b ++ d)) (append_assoc a b c)
    (IsPermutation-trans _ _ _ (IsPermutation-append_left c _ _ (IsPermutation-append_comm a b))
    (subst (λ (l : List ℕ). IsPermutation l (b ++ d)) (sym (append_assoc b a c)) (IsPermutation-append_right b _ _ h)))

-- the first column before the others
column_out : (m n : ℕ) (g : ℕ → ℕ → ℕ) → IsPermutation (table m (λ r. g r 0) ++ rows m n (λ r c. g r (suc c))) (rows m (suc n) g)
unfolding rows table
column_out zero n g = rw (table_none (λ r. g r 0)) (IsPermutation-refl [])
column_out (suc m) n g =
    IsPermutation-cons (g 0 0) _ _
    (between (table m (λ r. g (suc r) 0)) (table n (λ c. g 0 (suc c))) (rows m n (λ r c. g (suc r) (suc c))) (rows m (suc n) (λ r. g (suc r)))
    (column_out m n (λ r. g (suc r))))

pub transpose_rearranges : (m n : ℕ) (f : ℕ → ℕ → ℕ) → IsPermutation (rows m n f) (rows n m (λ c r. f r c))
unfolding rows
transpose_rearranges zero n f = rw (rows_of_none n (λ c r. f r c)) (IsPermutation-refl [])
transpose_rearranges (suc m) n f =
    IsPermutation-trans _ _ _ (IsPermutation-append_right (table n (f 0)) _ _ (transpose_rearranges m n (λ r. f (suc r)))) (column_out n m (λ c r. f r c))
