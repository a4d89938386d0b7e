-- Laws of lists that std lacks: of a place in lists that stand behind one another, and of what passes a test. Assumes nothing.
use Prim.Native.Nat.{ℕ, zero, suc, ◌-◌, ◌≤◌, ◌<◌}
use mathlib.Core.Path.{◌≡◌, refl, ap, sym, subst, ◌∙◌}
use mathlib.Core.Bool.{Bool, true, false, cond, ◌&&◌}
use mathlib.Core.List.{List, [], ◌∷◌, ◌++◌, map}
use native.Mathlib.Omega.{arith}
use lib.ListN.{length, length-map}
use Rattle.std.specs.Prelude.{filter, flat_map, Contains}
use Rattle.std.specs.List.{slice_get, list_all, AllPairs}
use Rattle.std.proofs.lemmas.Bool.{and_parts}
use Rattle.std.proofs.lemmas.List.{get_or-map}
use Rattle.std.proofs.lemmas.List.Elements.{filter-append, Contains-append_left, Contains-append_right}
use Rattle.std.proofs.lemmas.List.Kept.{AllPairs-cons}
use Rattle.std.proofs.lemmas.List.Sums.{AllPass-from_list_all}

module _ {X : Type 0} where
  -- ---- the element at a place

  pub slice_get-append_left : (xs ys : List X) (p : ℕ) → p < length xs → slice_get (xs ++ ys) p ≡ slice_get xs p
  slice_get-append_left [] ys p h = absurd (omega arith)
  slice_get-append_left (x ∷ xs) ys zero h = refl
  slice_get-append_left (x ∷ xs) ys (suc p) h = slice_get-append_left xs ys p (omega arith)

  pub slice_get-append_right : (xs ys : List X) (p : ℕ) → length xs ≤ p → slice_get (xs ++ ys) p ≡ slice_get ys (p - length xs)
  slice_get-append_right [] ys p h = let e : p ≡ p - 0 = omega arith in ap (slice_get ys) e
  slice_get-append_right (x ∷ xs) ys zero h = absurd (omega arith)
  slice_get-append_right (x ∷ xs) ys (suc p) h =
      let e : suc p - suc (length xs) ≡ p - length xs = omega arith in
      slice_get-append_right xs ys p (omega arith) ∙ ap (slice_get ys) (sym e)

  -- ---- what passes a test

  pub filter_none : (xs : List X) → filter (λ x. false) xs ≡ []
  filter_none [] = refl
  filter_none (x ∷ xs) = filter_none xs

  pub contains_filter : (f : X → Bool) (xs : List X) (x : X) → f x ≡ true → Contains xs x → Contains (filter f xs) x
  contains_filter f [] x h (k, l, e) = absurd (omega arith)
  contains_filter f (y ∷ xs) x h (zero, l, e) = let q = subst (λ z. f z ≡ true) (sym e) h in rw q (0, omega arith, e)
  contains_filter f (y ∷ xs) x h (suc k, l, e) = kept (f y) (contains_filter f xs x h (k, omega arith, e))
    where
      kept : (b : Bool) → Contains (filter f xs) x → Contains (cond b (y ∷ filter f xs) (filter f xs)) x
      kept true c = Contains-append_right (y ∷ []) (filter f xs) x c
      kept false c = c

  -- a test of each element with each behind it
  abbrev pub pairs_pass : (X → X → Bool) → List X → Bool
  pairs_pass f [] = true
  pairs_pass f (x ∷ xs) = list_all (f x) xs && pairs_pass f xs

  pub AllPairs-from_pairs_pass : (f : X → X → Bool) (xs : List X) → pairs_pass f xs ≡ true → AllPairs (λ x y. f x y ≡ true) xs
  AllPairs-from_pairs_pass f [] e = λ i j d h l. absurd (omega arith)
  AllPairs-from_pairs_pass f (x ∷ xs) e =
      let q = and_parts (list_all (f x) xs) (pairs_pass f xs) e in
      AllPairs-cons (λ x y. f x y ≡ true) x xs (AllPass-from_list_all (f x) xs q.0) (AllPairs-from_pairs_pass f xs q.1)

module _ {X Y : Type 0} where
  pub filter-map : (f : Y → Bool) (v : X → Y) (xs : List X) → filter f (map v xs) ≡ map v (filter (λ x. f (v x)) xs)
  filter-map f v [] = refl
  filter-map f v (x ∷ xs) = rw (filter-map f v xs) (go (f (v x)))
    where
      go : (b : Bool) → cond b (v x ∷ map v (filter (λ y. f (v y)) xs)) (map v (filter (λ y. f (v y)) xs)) ≡ map v (cond b (x ∷ filter (λ y. f (v y)) xs) (filter (λ y. f (v y)) xs))
      go true = refl
      go false = refl

  pub filter-flat_map : (f : Y → Bool) (g : X → List Y) (xs : List X) → filter f (flat_map g xs) ≡ flat_map (λ x. filter f (g x)) xs
  filter-flat_map f g [] = refl
  filter-flat_map f g (x ∷ xs) = filter-append f (g x) (flat_map g xs) ∙ ap (λ (ys : List Y). filter f (g x) ++ ys) (filter-flat_map f g xs)

  pub contains_map : (v : X → Y) (xs : List X) (x : X) → Contains xs x → Contains (map v xs) (v x)
  contains_map v xs x (k, l, e) = (k, omega (arith, l, length-map xs v), get_or-map v xs k x (v x) l ∙ ap v e)

  pub contains_flat_map : (f : X → List Y) (xs : List X) (x : X) (y : Y) → Contains xs x → Contains (f x) y → Contains (flat_map f xs) y
  contains_flat_map f [] x y (k, l, e) c = absurd (omega arith)
  contains_flat_map f (z ∷ xs) x y (zero, l, e) c = Contains-append_left (f z) (flat_map f xs) y (subst (λ w. Contains (f w) y) (sym e) c)
  contains_flat_map f (z ∷ xs) x y (suc k, l, e) c = Contains-append_right (f z) (flat_map f xs) y (contains_flat_map f xs x y (k, omega arith, e) c)
