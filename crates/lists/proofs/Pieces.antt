-- Pieces of a list, and what holds of each of its elements. Assumes nothing.
use Prim.Native.Nat.{ℕ, zero, suc, ◌+◌, ◌*◌, ◌<◌}
use mathlib.Core.Path.{◌≡◌, refl, sym, ap, subst, ◌∙◌}
use mathlib.Core.List.{List, [], ◌∷◌, ◌++◌}
use mathlib.Core.Logic.{⊎_elim}
use native.Mathlib.Omega.{arith}
use lib.ListN.{length, get_or, take, drop, length-append, length-take}
use lib.Seq.{take-add, drop-drop, take-append_seam, drop-append_seam}
use Rattle.std.proofs.Math.Nat.{mul-zero, mul-suc}
use Rattle.std.specs.List.{All, flat_map}
use Rattle.std.proofs.lemmas.Bool.{cases_lt}
use Rattle.std.proofs.lemmas.List.{get_or_past}
use Rattle.std.proofs.lemmas.List.Elements.{All-nil, All-head, All-tail, All-append, All-take, All-drop, All-get_or}
use Rattle.std.proofs.lemmas.List.Concat.{get_or-flat_map}
use Rattle.lists.specs.Table.{table}

-- as many pieces of k as a table has values are the front of a list
pub pieces : (k n : ℕ) (t : List ℕ) {A : Type 0} (piece : A → List ℕ) (f : ℕ → A) → ((i : ℕ) → i < n → piece (f i) ≡ take k (drop (k * i) t))
    → flat_map piece (table n f) ≡ take (k * n) t
unfolding table
pieces k zero t piece f h = rw mul-zero refl
pieces k (suc n) t piece f h =
    let p : piece (f 0) ≡ take k t = rw mul-zero at (h 0 (omega arith)) in
    let q = pieces k n (drop k t) piece (λ i. f (suc i)) (λ i l. h (suc i) (omega arith) ∙ rw (mul-suc, drop-drop (k * i) k t) (ap (λ j. take k (drop j t)) (omega arith))) in
    let e : k * suc n ≡ k + k * n = mul-suc k n ∙ omega arith in
    rw (p, q, e) (sym (take-add k (k * n) t))

module _ {A : Type 0} (k : ℕ) (piece : A → List ℕ) where
  -- each piece is k long
  abbrev pub Long : List A → Type 0
  Long xs = All (λ (x : A). length (piece x) ≡ k) xs

  pub length_pieces : (xs : List A) → Long xs → length (flat_map piece xs) ≡ k * length xs
  length_pieces [] ls = sym (mul-zero k)
  length_pieces (x ∷ xs) ls =
      let p : length (piece x) ≡ k = All-head (λ (y : A). length (piece y) ≡ k) x xs ls in
      let e = length_pieces xs (All-tail (λ (y : A). length (piece y) ≡ k) x xs ls) in
      length-append (piece x) (flat_map piece xs) ∙ omega (arith, mul-suc k (length xs))

  -- place j of piece i
  pub get_or_piece : (xs : List A) (i j : ℕ) (e : A) (d : ℕ) → Long xs → i < length xs → j < k
      → get_or (flat_map piece xs) (k * i + j) d ≡ get_or (piece (get_or xs i e)) j d
  get_or_piece xs i j e d ls h l =
      let t : length (take i xs) ≡ i = omega (arith, length-take i xs) in
      let n : length (flat_map piece (take i xs)) ≡ k * i = length_pieces (take i xs) (All-take (λ (y : A). length (piece y) ≡ k) i xs ls) ∙ ap (λ (m : ℕ). k * m) t in
      let p : length (piece (get_or xs i e)) ≡ k = All-get_or (λ (y : A). length (piece y) ≡ k) xs i e h ls in
      ap (λ (m : ℕ). get_or (flat_map piece xs) (m + j) d) (sym n) ∙ get_or-flat_map piece xs i j e d h (omega arith)

-- ---- what holds of each element

module _ {A : Type 0} (P : A → Type 0) where
  -- it holds of the one at a place, whichever stands for what is past the end
  pub all_get_or : (xs : List A) (i : ℕ) (d : A) → P d → All P xs → P (get_or xs i d)
  all_get_or xs i d p h = ⊎_elim (λ l. All-get_or P xs i d l h) (λ l. rw (get_or_past xs i d l) p) (cases_lt i (length xs))

  pub all_front : (xs ys : List A) → All P (xs ++ ys) → All P xs
  all_front xs ys h = subst (All P) (take-append_seam xs ys) (All-take P (length xs) (xs ++ ys) h)

  pub all_back : (xs ys : List A) → All P (xs ++ ys) → All P ys
  all_back xs ys h = subst (All P) (drop-append_seam xs ys) (All-drop P (length xs) (xs ++ ys) h)

  -- of each of each piece's
  pub all_joined : {X : Type 0} (piece : X → List A) (xs : List X) → All (λ (x : X). All P (piece x)) xs → All P (flat_map piece xs)
  all_joined piece [] h = All-nil P
  all_joined {X} piece (x ∷ xs) h =
      All-append P (piece x) (flat_map piece xs) (All-head (λ (y : X). All P (piece y)) x xs h) (all_joined piece xs (All-tail (λ (y : X). All P (piece y)) x xs h))
