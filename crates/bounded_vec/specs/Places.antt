-- The places of a vector: its items, and blanks behind them.
use Rattle.std.specs.Prelude.{ℕ, ◌≡◌, ◌-◌, ◌≤◌, List, ◌++◌, length, take, drop, replicate}
use Rattle.std.proofs.Common.{◌∙◌, ap, sym, arith, take-append-drop, length-take-le}

module _ {A : Type 0} where
  -- n places, of which the first k have items
  pub record Holds (n k : ℕ) (blank : A) (places : List A) : Type 0 where
    pub fits : k ≤ n
    pub long : length places ≡ n
    pub blanks : drop k places ≡ replicate (n - k) blank

  -- the n places of a vector of these items
  abbrev pub places_of : ℕ → A → List A → List A
  places_of n blank items = items ++ replicate (n - length items) blank

  -- a vector is nothing but its items
  pub places_back : (n k : ℕ) (blank : A) (places : List A) → Holds n k blank places → places_of n blank (take k places) ≡ places
  places_back n k blank places h =
      ap (λ m. take k places ++ replicate (n - m) blank) (length-take-le k places (omega (arith, h.fits, h.long)))
      ∙ ap (λ rest. take k places ++ rest) (sym h.blanks) ∙ take-append-drop k places

  pub count_back : (n k : ℕ) (blank : A) (places : List A) → Holds n k blank places → length (take k places) ≡ k
  count_back n k blank places h = length-take-le k places (omega (arith, h.fits, h.long))
