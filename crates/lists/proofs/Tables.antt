-- The laws of `table`, the list of a function's first values. Assumes nothing.
use Prim.Native.Nat.{ℕ, zero, suc, ◌+◌, ◌<◌, min}
use mathlib.Core.Path.{◌≡◌, refl, ap}
use mathlib.Core.Bool.{cond}
use mathlib.Core.List.{List, [], ◌∷◌, ◌++◌}
use native.Mathlib.Numerals.{add-one}
use native.Mathlib.Omega.{arith}
use lib.ListN.{length, get_or, take, set}
use lib.Dec.{eqb, eqb-suc-suc, eqb-zero-suc, eqb-suc-zero}
use Rattle.std.proofs.Math.Nat.{suc-min-suc}
use Rattle.std.specs.List.{All}
use Rattle.std.proofs.lemmas.List.Elements.{All-nil, All-cons}
use Rattle.lists.specs.Table.{table}

module _ {A : Type 0} where
  pub length_table : (n : ℕ) (f : ℕ → A) → length (table n f) ≡ n
  unfolding table
  length_table zero f = refl
  length_table (suc n) f = ap suc (length_table n (λ i. f (suc i)))

  pub get_or_table : (n : ℕ) (f : ℕ → A) (i : ℕ) (d : A) → i < n → get_or (table n f) i d ≡ f i
  unfolding table
  get_or_table zero f i d h = absurd (omega arith)
  get_or_table (suc n) f zero d h = refl
  get_or_table (suc n) f (suc i) d h = get_or_table n (λ j. f (suc j)) i d (omega arith)

  pub table_ext : (n : ℕ) (f g : ℕ → A) → ((i : ℕ) → i < n → f i ≡ g i) → table n f ≡ table n g
  unfolding table
  table_ext zero f g h = refl
  table_ext (suc n) f g h =
      let p = h 0 (omega arith) in
      let q = table_ext n (λ j. f (suc j)) (λ j. g (suc j)) (λ i l. h (suc i) (omega arith)) in
      cc

  -- a list is the table of its elements
  pub table_is : (l : List A) (f : ℕ → A) (d : A) → ((i : ℕ) → i < length l → f i ≡ get_or l i d) → table (length l) f ≡ l
  unfolding table
  table_is [] f d h = refl
  table_is (x ∷ l) f d h =
      let p = h 0 (omega arith) in
      let q = table_is l (λ j. f (suc j)) d (λ i k. h (suc i) (omega arith)) in
      cc

  -- what holds of each value
  pub all_table : (P : A → Type 0) (n : ℕ) (f : ℕ → A) → ((i : ℕ) → i < n → P (f i)) → All P (table n f)
  unfolding table
  all_table P zero f h = All-nil P
  all_table P (suc n) f h = All-cons P (f 0) (table n (λ i. f (suc i))) (h 0 (omega arith)) (all_table P n (λ i. f (suc i)) (λ i l. h (suc i) (omega arith)))

  table_suc : (n : ℕ) (f : ℕ → A) → table (suc n) f ≡ table n f ++ f n ∷ []
  unfolding table
  table_suc zero f = refl
  table_suc (suc n) f = ap (λ (l : List A). f 0 ∷ l) (table_suc n (λ i. f (suc i)))

  pub table_none : (f : ℕ → A) → table 0 f ≡ []
  unfolding table
  table_none f = refl

  -- one value more
  pub table_more : (n : ℕ) (f : ℕ → A) → table (n + 1) f ≡ table n f ++ f n ∷ []
  table_more n f = rw add-one (table_suc n f)

  pub take_of_table : (k n : ℕ) (f : ℕ → A) → take k (table n f) ≡ table (min n k) f
  unfolding table
  take_of_table zero n f = let e : min n 0 ≡ 0 = omega arith in rw e refl
  take_of_table (suc k) zero f = let e : min 0 (suc k) ≡ 0 = omega arith in rw e refl
  take_of_table (suc k) (suc n) f = rw suc-min-suc (ap (λ (l : List A). f 0 ∷ l) (take_of_table k n (λ i. f (suc i))))

  pub set_table : (n : ℕ) (f : ℕ → A) (i : ℕ) (v : A) → set (table n f) i v ≡ table n (λ j. cond (eqb j i) v (f j))
  unfolding table
  set_table zero f i v = refl
  set_table (suc n) f zero v =
      ap (λ (l : List A). v ∷ l) (table_ext n (λ j. f (suc j)) (λ j. cond (eqb (suc j) 0) v (f (suc j))) (λ i h. rw eqb-suc-zero))
  set_table (suc n) f (suc i) v =
      rw (set_table n (λ j. f (suc j)) i v, eqb-zero-suc)
      (ap (λ (l : List A). f 0 ∷ l)
      (table_ext n (λ j. cond (eqb j i) v (f (suc j))) (λ j. cond (eqb (suc j) (suc i)) v (f (suc j))) (λ j h. rw eqb-suc-suc)))
