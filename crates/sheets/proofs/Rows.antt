-- The check's number is that of the refusal table's row, and of no other. Assumes nothing.
use Prim.Native.Nat.{ℕ, zero, suc, ◌+◌, ◌*◌, ◌<◌}
use mathlib.Core.Path.{◌≡◌, refl, sym, ◌∙◌}
use mathlib.Core.Bool.{Bool, true, false}
use mathlib.Core.List.{List}
use mathlib.Core.Logic.{◌⊎◌, inl, inr}
use native.Mathlib.Omega.{arith}
use borrow.Author.Tests.{eqb-true, eqb-false, ne_eqb, ltb-true, ltb-false, lt-ltb, le-ltb}
use lib.Dec.{eqb, ltb}
use lib.ListN.{length, get_or, drop, length-drop}
use lib.Seq.{length-take-le}
use Rattle.filter_core.proofs.Rows.{once, some_then}
use Rattle.sheets.specs.Sheet.{entries_of, entry_in, check_of, entry_number_refusal, check_entry_of, lookup_of}
use Rattle.sheets.specs.Rows.{RowAt, Sheet, SheetRow, is_sheet, wrong_size, wrong_entry, LookupRow, is_found, no_sheet, no_entry, Checked}
use Rattle.sheets.proofs.Checks.{number_at, Size, right, wrong, size_of, first_found, first_all, found}
use Rattle.sheets.proofs.EntryRows.{entry_row}

-- ---- the entries: all of the first n are right, or there is a first that is not

pub record Wrong (f : ℕ → ℕ) (n : ℕ) : Type 0 where
  pub place : ℕ
  pub inside : place < n
  pub before : (i : ℕ) → i < place → f i ≡ 0
  pub some : f place ≡ 0 → ⊥

pub scan : (f : ℕ → ℕ) (n : ℕ) → ((i : ℕ) → i < n → f i ≡ 0) ⊎ Wrong f n
scan f zero = inl (λ i l. absurd (omega arith))
scan f (suc n) = go (scan f n) (eqb (f n) 0) refl
  where
    go : ((i : ℕ) → i < n → f i ≡ 0) ⊎ Wrong f n → (t : Bool) → eqb (f n) 0 ≡ t → ((i : ℕ) → i < suc n → f i ≡ 0) ⊎ Wrong f (suc n)
    go (inr w) t q = let l = w.inside in inr (record { place = w.place; inside = omega arith; before = w.before; some = w.some })
    go (inl b) false q = inr (record { place = n; inside = omega arith; before = b; some = eqb-false (f n) 0 q })
    go (inl b) true q = inl (λ i l. last i (eqb i n) refl l)
      where
        last : (i : ℕ) (t : Bool) → eqb i n ≡ t → i < suc n → f i ≡ 0
        last i true p l = rw (eqb-true i n p) (eqb-true (f n) 0 q)
        last i false p l = b i (omega (arith, eqb-false i n p))

-- ---- a sheet

module _ (s : List ℕ) where
  row_at : (e : ℕ) → RowAt s e (number_at s e)
  row_at e = entry_row (get_or s 1 0) (entry_in s e)

  number_at_is : (e : ℕ) {r : ℕ} → RowAt s e r → number_at s e ≡ r
  number_at_is e p = once (row_at e) p

  sheet_row : SheetRow s (check_of s)
  sheet_row = go (size_of s) (scan (number_at s) (entries_of s))
    where
      go : Size s → ((i : ℕ) → i < entries_of s → number_at s i ≡ 0) ⊎ Wrong (number_at s) (entries_of s) → SheetRow s (check_of s)
      go (wrong n p) w = rw p (wrong_size n)
      go (right z p) (inl b) = rw (p, first_all (number_at s) (entries_of s) b) (is_sheet (record { size = z; entries = λ e l. rw (b e l) at (row_at e) }))
      go (right z p) (inr w) =
          let d = first_found (number_at s) (entries_of s) w.place (first_all (number_at s) w.place w.before) w.inside refl w.some in
          rw (p, ← d) (wrong_entry w.place z w.inside (λ i l. rw (w.before i l) at (row_at i)) (row_at w.place) w.some)

  sheet_only : {r : ℕ} → SheetRow s r → r ≡ check_of s
  sheet_only p = go (size_of s) p
    where
      go : {r : ℕ} → Size s → SheetRow s r → r ≡ check_of s
      go (right z e) (is_sheet h) = rw (e, first_all (number_at s) (entries_of s) (λ i l. number_at_is i (h.entries i l))) refl
      go (right z e) (wrong_size n) = absurd (n z)
      go (right z e) (wrong_entry i y l b p d) =
          rw e (first_found (number_at s) (entries_of s) i (first_all (number_at s) i (λ j k. number_at_is j (b j k))) l (sym (number_at_is i p)) d)
      go (wrong n e) (is_sheet h) = absurd (n h.size)
      go (wrong n e) (wrong_size m) = rw e refl
      go (wrong n e) (wrong_entry i z l b p d) = absurd (n z)

  -- an entry of a sheet is not refused
  pub entry_taken : Sheet s → (e : ℕ) → e < entries_of s → number_at s e ≡ 0
  entry_taken h e l = number_at_is e (h.entries e l)

  is_zero : {r : ℕ} → SheetRow s r → r ≡ 0 → Sheet s
  is_zero (is_sheet h) z = h
  is_zero (wrong_size n) z = absurd (omega arith)
  is_zero (wrong_entry e a l b p d) z = absurd (d z)

  -- the check answers 0 exactly for a sheet
  pub check_sheet : check_of s ≡ 0 → Sheet s
  check_sheet z = is_zero sheet_row z

  pub sheet_check : Sheet s → check_of s ≡ 0
  sheet_check h = sym (sheet_only (is_sheet h))

-- ---- a lookup

module _ (s : List ℕ) (e : ℕ) where
  lookup_row : LookupRow s e (check_entry_of s e)
  lookup_row = go (eqb (check_of s) 0) (ltb e (entries_of s)) refl refl
    where
      go : (a b : Bool) → eqb (check_of s) 0 ≡ a → ltb e (entries_of s) ≡ b → LookupRow s e (check_entry_of s e)
      go false b p q = rw (← some_then (check_of s) (entry_number_refusal (entries_of s) e) (eqb-false (check_of s) 0 p)) (no_sheet (sheet_row s) (eqb-false (check_of s) 0 p))
      go true true p q = let z = eqb-true (check_of s) 0 p in rw (z, q) (is_found (check_sheet s z) (ltb-true e (entries_of s) q))
      go true false p q = let z = eqb-true (check_of s) 0 p in rw (z, q) (no_entry (check_sheet s z) (ltb-false e (entries_of s) q))

  lookup_only : {r : ℕ} → LookupRow s e r → r ≡ check_entry_of s e
  lookup_only (is_found h l) = rw (sheet_check s h, lt-ltb e (entries_of s) l) refl
  lookup_only (no_sheet p d) = let w = sheet_only s p in w ∙ some_then (check_of s) (entry_number_refusal (entries_of s) e) (λ z. d (w ∙ z))
  lookup_only (no_entry h l) = rw (sheet_check s h, le-ltb e (entries_of s) l) refl

  lookup_part : check_entry_of s e ≡ 0 → length (lookup_of s e) ≡ 12
  lookup_part z =
      let f = found s e z in
      let l = f.0.long in
      let i = f.1 in
      let d = length-drop (2 + entries_of s + 12 * e) s in
      rw z (length-take-le 12 (drop (2 + entries_of s + 12 * e) s) (omega arith))

  no_lookup : (check_entry_of s e ≡ 0 → ⊥) → length (lookup_of s e) ≡ 0
  no_lookup z = rw (ne_eqb (check_entry_of s e) 0 z) refl

pub checked : (s : List ℕ) → Checked s
checked s =
    record {
      sheets = record { is = sheet_row s; only = λ r p. sheet_only s p };
      lookups = λ e. record { is = lookup_row s e; only = λ r p. lookup_only s e p };
      parts = λ e. (lookup_part s e, no_lookup s e);
    }
