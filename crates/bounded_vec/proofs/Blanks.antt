-- How blanks stay behind the items.
use Rattle.std.proofs.Common.{◌≡◌, ℕ, ◌+◌, ◌-◌, ◌<◌, ◌≤◌, List, ◌++◌, length, take, drop, set, replicate, sym, ap, ◌∙◌, zero-add, arith, rules}
use Rattle.std.proofs.lemmas.Bool.{cases_eq}
use Rattle.std.proofs.lemmas.List.{same_lists, places, length-set, get_or-set_same, get_or-replicate, drop-set-lt, drop-drop, drop-replicate, take_at, append_assoc, length-take-le}
use Rattle.std.specs.List.{copy_within}
use Rattle.bounded_vec.specs.Places.{Holds}

module _ {A : Type 0} where
  -- an item is put in the first place that has none
  pub put_next : (n k : ℕ) (blank x : A) (xs : List A) → Holds n k blank xs → k < n → Holds n (k + 1) blank (set xs k x)
  put_next n k blank x xs h lt = record {
    fits = omega (arith, lt);
    long = length-set xs k x ∙ h.long;
    blanks =
        drop-set-lt (k + 1) xs k x (omega arith) ∙ sym (drop-drop 1 k xs) ∙ ap (drop 1) h.blanks ∙ drop-replicate 1 (n - k) blank
        ∙ ap (λ m. replicate m blank) (omega arith);
  }

  -- a turn of the loop that puts blanks from s on
  pub blank_more : (s p : ℕ) (blank : A) (xs ys : List A) → s ≤ p → p < length xs
      → ys ≡ take s xs ++ replicate (p - s) blank ++ drop p xs
      → set ys p blank ≡ take s xs ++ replicate (p + 1 - s) blank ++ drop (p + 1) xs
  blank_more s p blank xs ys le lt e =
      rw e (same_lists _ _ (search (rules, places)) (λ k d h. grind (arith, places, get_or-set_same, cases_eq k p)))

  -- blanks are put in the places from k on that have items
  pub blanks_from : (n k c : ℕ) (blank : A) (xs ys : List A) → Holds n c blank xs → k ≤ c
      → ys ≡ take k xs ++ replicate (c - k) blank ++ drop c xs → Holds n k blank ys
  blanks_from n k c blank xs ys h le e =
      let fits = h.fits in
      let long = h.long in
      let blanks = h.blanks in
      record {
        fits = omega (arith, fits, le);
        long = rw e (search (rules, places));
        blanks = rw (e, blanks) (same_lists _ _ (search (rules, places)) (λ i d h. grind (arith, places, get_or-replicate)));
      }

  -- what stands before them stays
  pub take_kept : (k m : ℕ) (blank : A) (xs ws ys : List A) → k ≤ length xs
      → ys ≡ take k xs ++ replicate m blank ++ ws → take k ys ≡ take k xs
  take_kept k m blank xs ws ys le e =
      rw (e, append_assoc) (take_at (take k xs) (replicate m blank ++ ws) k (length-take-le k xs le))

  -- ---- the items behind the first r are moved to the front, where ms are the places then, and blanks are put behind them

  moved_is : (r c : ℕ) (xs : List A) → copy_within xs r c 0 ≡ take (c - r) (drop r xs) ++ drop (c - r) xs
  moved_is r c xs = ap (λ m. take (c - r) (drop r xs) ++ drop m xs) (zero-add (c - r))

  moved_holds : (n r c : ℕ) (blank : A) (xs : List A) → Holds n c blank xs → r ≤ c → Holds n c blank (copy_within xs r c 0)
  moved_holds n r c blank xs h le =
      let fits = h.fits in
      let long = h.long in
      record {
        fits = fits;
        long = rw (moved_is r c xs) (search (rules, places));
        blanks = rw (moved_is r c xs, ← h.blanks) (same_lists _ _ (search (rules, places)) (λ i d k. grind (arith, places)));
      }

  pub removed_holds : (n r c : ℕ) (blank : A) (xs ms ys : List A) → Holds n c blank xs → r ≤ c → ms ≡ copy_within xs r c 0
      → ys ≡ take (c - r) ms ++ replicate (c - (c - r)) blank ++ drop c ms → Holds n (c - r) blank ys
  removed_holds n r c blank xs ms ys h le moved e =
      blanks_from n (c - r) c blank ms ys (rw moved (moved_holds n r c blank xs h le)) (omega arith) e

  pub removed_items : (r c m : ℕ) (blank : A) (xs ms ws ys : List A) → r ≤ c → c ≤ length xs → ms ≡ copy_within xs r c 0
      → ys ≡ take (c - r) ms ++ replicate m blank ++ ws → take (c - r) ys ≡ drop r (take c xs)
  removed_items r c m blank xs ms ws ys le fits moved e =
      let long : c - r ≤ length ms = rw (moved, moved_is r c xs) (search (rules, places)) in
      take_kept (c - r) m blank ms ws ys long e
      ∙ rw (moved, moved_is r c xs) (same_lists _ _ (search (rules, places)) (λ i d k. grind (arith, places)))
