-- The check of a sheet and of a lookup, by their steps. Assumes nothing.
use Prim.Native.Nat.{ℕ, zero, suc, ◌+◌, ◌*◌, ◌≤◌, ◌<◌}
use mathlib.Core.Path.{◌≡◌, refl, sym, ◌∙◌}
use mathlib.Core.Bool.{Bool, true, false}
use mathlib.Core.List.{List}
use mathlib.Core.Logic.{◌⊎◌, inl, inr, ⊎_elim}
use native.Mathlib.Numerals.{add-one}
use native.Mathlib.Omega.{arith}
use borrow.Author.Tests.{eqb-true, eqb-false, eq-eqb, ne_eqb, lt-ltb, le-ltb}
use lib.Dec.{eqb}
use lib.ListN.{length, get_or}
use Rattle.std.proofs.lemmas.Bool.{cases_lt, cases_eq}
use Rattle.filter_core.proofs.Rows.{then_zero, some_then}
use Rattle.sheets.specs.Edition.{edition_byte, edition_of, edition_refusal}
use Rattle.sheets.specs.Refusal.{first_refusal}
use Rattle.sheets.specs.Sheet.{entries_of, edition_in, Fits, Sized, size_refusal, refusal_at, check_as, check_of, entry_number_refusal, check_entry_of}
use Rattle.filter_core.specs.Refusal.{number}
use Rattle.filter_core.specs.declared.refusal.Refusal.{Refusal}
use Rattle.filter_core.specs.declared.refusal.Refusal.TheVariants as row
use Rattle.sheets.specs.declared.edition.Edition.{Edition}
use Rattle.sheets.specs.declared.edition.Edition.TheVariants.{One, Two}

-- ---- the first refusal of many

pub first_start : (f : ℕ → ℕ) → first_refusal 0 f ≡ 0
unfolding first_refusal
first_start f = refl

pub first_again : (f : ℕ → ℕ) (e : ℕ) → first_refusal e f ≡ 0 → 0 ≡ f e → first_refusal (e + 1) f ≡ 0
unfolding first_refusal
first_again f e p q = rw (add-one e, p) (sym q)

-- every refusal has a number of its own, which is not 0
pub numbered : (x : Refusal) → number x ≡ 0 → ⊥
numbered row.Head z = omega arith
numbered _ z = omega arith

pub first_found : (f : ℕ → ℕ) (n e : ℕ) {r : ℕ} → first_refusal e f ≡ 0 → e < n → r ≡ f e → (r ≡ 0 → ⊥) → r ≡ first_refusal n f
unfolding first_refusal
first_found f zero e p h q z = absurd (omega arith)
first_found f (suc n) e {r} p h q z = go (λ l. first_found f n e p l q z) (eqb e n) refl
  where
    go : (e < n → r ≡ first_refusal n f) → (t : Bool) → eqb e n ≡ t → r ≡ first_refusal (suc n) f
    go i true t = let w = eqb-true e n t in q ∙ rw (← w, p) refl
    go i false t = let w = i (omega (arith, eqb-false e n t)) in rw (← w) (some_then r (f n) z)

pub first_refused : (f : ℕ → ℕ) (n e : ℕ) (x : Refusal) → first_refusal e f ≡ 0 → e < n → number x ≡ f e → number x ≡ first_refusal n f
first_refused f n e x p h q = first_found f n e p h q (numbered x)

pub first_all : (f : ℕ → ℕ) (n : ℕ) → ((e : ℕ) → e < n → f e ≡ 0) → first_refusal n f ≡ 0
unfolding first_refusal
first_all f zero h = refl
first_all f (suc n) h = rw (first_all f n (λ e l. h e (omega arith)), h n (omega arith)) refl

pub first_each : (f : ℕ → ℕ) (n e : ℕ) → first_refusal n f ≡ 0 → e < n → f e ≡ 0
unfolding first_refusal
first_each f zero e p h = absurd (omega arith)
first_each f (suc n) e p h = go (then_zero (first_refusal n f) (f n) p) (λ z l. first_each f n e z l) (eqb e n) refl
  where
    go : (first_refusal n f ≡ 0) × (f n ≡ 0) → (first_refusal n f ≡ 0 → e < n → f e ≡ 0) → (t : Bool) → eqb e n ≡ t → f e ≡ 0
    go z i true t = rw (eqb-true e n t) z.1
    go z i false t = i z.0 (omega (arith, eqb-false e n t))

-- ---- sizes

module _ (l n : ℕ) where
  size_short : l < 2 → 2 ≡ size_refusal l n
  size_short a = rw (lt-ltb l) refl

  size_none : 2 ≤ l → n < 1 → 2 ≡ size_refusal l n
  size_none a b = rw (le-ltb l, lt-ltb n) refl

  size_many : 2 ≤ l → 1 ≤ n → 64 < n → 2 ≡ size_refusal l n
  size_many a b c = rw (le-ltb l, le-ltb n, lt-ltb) refl

  size_fits : 2 ≤ l → 1 ≤ n → n ≤ 64 → l ≡ 2 + 13 * n → 0 ≡ size_refusal l n
  size_fits a b c d = rw (le-ltb l, le-ltb n, le-ltb, eq-eqb) refl

  size_other : 2 ≤ l → 1 ≤ n → n ≤ 64 → (l ≡ 2 + 13 * n → ⊥) → 2 ≡ size_refusal l n
  size_other a b c d = rw (le-ltb l, le-ltb n, le-ltb, ne_eqb) refl

-- n entries fit and are accepted, or neither
data Fit (n : ℕ) (s : List ℕ) : Type 0 where
  fit : Fits n s → size_refusal (length s) n ≡ 0 → Fit n s
  unfit : (Fits n s → ⊥) → size_refusal (length s) n ≡ 2 → Fit n s

fit_of : (n : ℕ) (s : List ℕ) → Fit n s
fit_of n s = go (cases_lt l 2) (cases_lt n 1) (cases_lt 64 n) (cases_eq l (2 + 13 * n))
  where
    l : ℕ
    l = length s

    go : (l < 2) ⊎ (2 ≤ l) → (n < 1) ⊎ (1 ≤ n) → (64 < n) ⊎ (n ≤ 64) → (l ≡ 2 + 13 * n) ⊎ (l ≡ 2 + 13 * n → ⊥) → Fit n s
    go (inl a) b c d = unfit (λ z. let h = z.long in omega arith) (sym (size_short l n a))
    go (inr a) (inl b) c d = unfit (λ z. let h = z.some in omega arith) (sym (size_none l n a b))
    go (inr a) (inr b) (inl c) d = unfit (λ z. let h = z.most in omega arith) (sym (size_many l n a b c))
    go (inr a) (inr b) (inr c) (inl d) = fit (record { some = b; most = c; long = d }) (sym (size_fits l n a b c d))
    go (inr a) (inr b) (inr c) (inr d) = unfit (λ z. d z.long) (sym (size_other l n a b c d))

pub too_many : (v : Edition) (n : ℕ) (s : List ℕ) → 64 < n → check_as v n s ≡ 2
too_many v n s h = go (fit_of n s)
  where
    go : Fit n s → check_as v n s ≡ 2
    go (fit z e) = let w = z.most in absurd (omega arith)
    go (unfit z e) = rw e refl

-- ---- editions

-- a second byte names an edition and is accepted, or neither
data Named (b : ℕ) : Type 0 where
  named : (b ≡ 0) ⊎ (b ≡ 2) → edition_refusal b ≡ 0 → Named b
  unnamed : ((b ≡ 0) ⊎ (b ≡ 2) → ⊥) → edition_refusal b ≡ 2 → Named b

named_of : (b : ℕ) → Named b
named_of b = go (cases_eq b 0) (cases_eq b 2)
  where
    go : (b ≡ 0) ⊎ (b ≡ 0 → ⊥) → (b ≡ 2) ⊎ (b ≡ 2 → ⊥) → Named b
    go (inl x) y = named (inl x) (rw x refl)
    go (inr x) (inl y) = named (inr y) (rw y refl)
    go (inr x) (inr y) = unnamed (λ o. ⊎_elim x y o) (rw (ne_eqb b 0 x, ne_eqb b 2 y) refl)

-- an edition's byte names an edition, and that one
pub edition_named : (v : Edition) → (edition_byte v ≡ 0) ⊎ (edition_byte v ≡ 2)
edition_named One = inl refl
edition_named Two = inr refl

pub edition_of_byte : (v : Edition) → edition_of (edition_byte v) ≡ v
edition_of_byte One = refl
edition_of_byte Two = refl

-- the byte of an edition comes back
pub edition_back : {b : ℕ} → (b ≡ 0) ⊎ (b ≡ 2) → edition_byte (edition_of b) ≡ b
edition_back (inl e) = rw e refl
edition_back (inr e) = rw e refl

-- ---- a sheet

-- the number of a sheet's entry e
abbrev pub number_at : List ℕ → ℕ → ℕ
number_at s e = refusal_at (edition_in s) (entries_of s) s e

-- a size is right, and the check goes by the entries; or it is wrong, and the check answers 2
pub data Size (s : List ℕ) : Type 0 where
  right : Sized s → check_of s ≡ first_refusal (entries_of s) (number_at s) → Size s
  wrong : (Sized s → ⊥) → check_of s ≡ 2 → Size s

pub size_of : (s : List ℕ) → Size s
size_of s = go (named_of (get_or s 1 0)) (fit_of (entries_of s) s)
  where
    go : Named (get_or s 1 0) → Fit (entries_of s) s → Size s
    go (unnamed x p) y = wrong (λ z. x z.edition) (rw p refl)
    go (named x p) (unfit y q) = wrong (λ z. y z.fits) (rw (p, q) refl)
    go (named x p) (fit y q) = right (record { edition = x; fits = y }) (rw (p, q) refl)

pub check_size : (s : List ℕ) → check_of s ≡ 0 → Sized s
check_size s h = go (size_of s)
  where
    go : Size s → Sized s
    go (right z e) = z
    go (wrong n e) = let w = sym e ∙ h in absurd (omega arith)

-- ---- a lookup

entry_past : (n e : ℕ) → n ≤ e → 5 ≡ entry_number_refusal n e
entry_past n e h = rw le-ltb refl

within : {n e : ℕ} → (e < n) ⊎ (n ≤ e) → entry_number_refusal n e ≡ 0 → e < n
within (inl h) z = h
within {n} {e} (inr h) z = let w = entry_past n e h ∙ z in absurd (omega arith)

-- what an accepted one tells
pub found : (s : List ℕ) (e : ℕ) → check_entry_of s e ≡ 0 → Fits (entries_of s) s × (e < entries_of s)
found s e h =
    let p = then_zero (check_of s) (entry_number_refusal (entries_of s) e) h in
    ((check_size s p.0).fits, within (cases_lt e (entries_of s)) p.1)
