-- The converter's number is that of its row, and of no other. Assumes nothing.
use Prim.Native.Nat.{ℕ, ◌+◌, ◌*◌, ◌/◌, ◌≤◌, ◌<◌}
use mathlib.Core.Path.{◌≡◌, refl, sym, ◌∙◌}
use mathlib.Core.List.{List, [], ◌∷◌}
use mathlib.Core.Logic.{◌⊎◌, inl, inr, ⊎_elim}
use native.Mathlib.Omega.{arith}
use borrow.Author.Tests.{eqb-true, eqb-false, eq-eqb, ltb-true, ltb-false}
use lib.Dec.{eqb, ltb}
use lib.ListN.{length}
use Rattle.filter_core.specs.Rows.{◌then◌, First, none, here, later}
use Rattle.std.proofs.lemmas.Bool.{cases_lt, cases_eq}
use Rattle.filter_core.proofs.Rows.{once, passed, given, some_then, Step, yes, no, step_if, step_given, step_to, first_then, first_last}
use Rattle.lists.specs.Room.{room_refusal}
use Rattle.sheets.specs.Sheet.{entries_of, kind_at, check_of}
use Rattle.sheets.specs.Rows.{Sheet}
use Rattle.sheets.specs.declared.edition.Edition.{Edition}
use Rattle.sheets.specs.declared.edition.Edition.TheVariants.{One, Two}
use Rattle.sheets.proofs.Checks.{first_all, first_found}
use Rattle.sheets.proofs.Rows.{Wrong, scan, check_sheet, sheet_check, checked}
use Rattle.conversion.specs.Conversion.{series_refusal, series_among, wanted_refusal, convert_refusal}
use Rattle.conversion.specs.Rows.{UsesSeries, ConvertCase, not_in_edition_1, short, ConvertRow, no_sheet, of_sheet, ConvertAnswer}

-- ---- 15

series_step : (k : ℕ) → Step (k / 16 ≡ 4) 15 (series_refusal k)
series_step k = step_if 15 (eqb (k / 16) 4) (eqb-true (k / 16) 4) (eqb-false (k / 16) 4)

module _ (s : List ℕ) where
  uses_step : Step (UsesSeries s) 15 (series_among (entries_of s) s)
  uses_step = go (scan f (entries_of s))
    where
      f : ℕ → ℕ
      f e = series_refusal (kind_at s e)

      none : ((e : ℕ) → e < entries_of s → f e ≡ 0) → UsesSeries s → ⊥
      none h u =
          let z : f u.entry ≡ 15 = rw (eq-eqb (kind_at s u.entry / 16) 4 u.series) refl in
          let w = h u.entry u.inside in
          omega arith

      go : ((e : ℕ) → e < entries_of s → f e ≡ 0) ⊎ Wrong f (entries_of s) → Step (UsesSeries s) 15 (series_among (entries_of s) s)
      go (inl h) = rw (first_all f (entries_of s) h) (no (none h))
      go (inr w) =
          let u = step_given (series_step (kind_at s w.place)) w.some in
          let d = first_found f (entries_of s) w.place (first_all f w.place w.before) w.inside refl w.some in
          rw (← d, u.1) (yes (record { entry = w.place; inside = w.inside; series = u.0 }))

-- ---- a case, by its number

module _ {v : Edition} {s : List ℕ} {m : ℕ} where
  edition_case : {r : ℕ} → r ≡ 15 → ConvertCase v s m r → (v ≡ One) × UsesSeries s
  edition_case e (not_in_edition_1 p u) = (p, u)
  edition_case e (short l) = absurd (omega arith)

  short_case : {r : ℕ} → r ≡ 12 → ConvertCase v s m r → m < 2 + 13 * entries_of s
  short_case e (not_in_edition_1 p u) = absurd (omega arith)
  short_case e (short l) = l

pub two_is_not_one : Two ≡ One → ⊥
two_is_not_one e = cc

-- the edition v has all that s uses
abbrev pub Has : Edition → List ℕ → Type 0
Has v s = v ≡ One → UsesSeries s → ⊥

-- ---- a sheet's numbers

module _ (s : List ℕ) (m : ℕ) (h : Sheet s) where
  room_step : (v : Edition) → Step (ConvertCase v s m 12) 12 (room_refusal (length s) m)
  room_step v =
      let l = h.size.fits.long in
      step_to short (short_case refl)
      (step_if 12 (ltb m (length s)) (λ e. let w = ltb-true m (length s) e in omega arith) (λ e k. let w = ltb-false m (length s) e in omega arith))

  number_up : convert_refusal Two s m ≡ room_refusal (length s) m
  number_up = rw (sheet_check s h) refl

  number_down : convert_refusal One s m ≡ (series_among (entries_of s) s then room_refusal (length s) m)
  number_down = rw (sheet_check s h) refl

  pub up : First (ConvertCase Two s m) (12 ∷ []) (convert_refusal Two s m)
  up = rw number_up (first_last (room_step Two))

  pub down : First (ConvertCase One s m) (15 ∷ 12 ∷ []) (convert_refusal One s m)
  down =
      rw number_down
      (first_then (λ z. omega arith) (step_to (not_in_edition_1 refl) (λ c. (edition_case refl c).1) (uses_step s)) (λ z. first_last (room_step One)))

  pub sheet_numbers : (v : Edition) → First (ConvertCase v s m) (15 ∷ 12 ∷ []) (convert_refusal v s m)
  sheet_numbers One = down
  sheet_numbers Two = later (λ c. two_is_not_one (edition_case refl c).0) up

  -- 15 is asked for first, so it is given exactly where its case holds
  pub told_series : convert_refusal One s m ≡ 15 → UsesSeries s
  told_series e = (edition_case e (given down (λ z. let w = sym e ∙ z in omega arith))).1

  pub tells_series : UsesSeries s → convert_refusal One s m ≡ 15
  tells_series u = once down (here (not_in_edition_1 refl u))

  -- without it, the number is 12 or 0, by the room
  module _ (v : Edition) (d : Has v s) where
    no_series : ConvertCase v s m 15 → ⊥
    no_series c = let p = edition_case refl c in d p.0 p.1

    pub too_short : m < length s → convert_refusal v s m ≡ 12
    too_short l = let w = h.size.fits.long in once (sheet_numbers v) (later no_series (here (short (omega arith))))

    pub accepted : length s ≤ m → convert_refusal v s m ≡ 0
    accepted l =
        let w = h.size.fits.long in
        once (sheet_numbers v) (later no_series (later (λ c. let k = short_case refl c in omega arith) none))

-- ---- the rows

module _ (v : Edition) (s : List ℕ) (m : ℕ) where
  convert_row : ConvertRow v s m (convert_refusal v s m)
  convert_row = go (cases_eq (check_of s) 0)
    where
      go : (check_of s ≡ 0) ⊎ (check_of s ≡ 0 → ⊥) → ConvertRow v s m (convert_refusal v s m)
      go (inl z) = let h = check_sheet s z in of_sheet h (sheet_numbers s m h v)
      go (inr z) = rw (← some_then (check_of s) (wanted_refusal v s then room_refusal (length s) m) z) (no_sheet (checked s).sheets.is z)

  convert_only : {r : ℕ} → ConvertRow v s m r → r ≡ convert_refusal v s m
  convert_only (of_sheet h f) = once f (sheet_numbers s m h v)
  convert_only {r} (no_sheet p d) =
      let w = (checked s).sheets.only r p in
      w ∙ some_then (check_of s) (wanted_refusal v s then room_refusal (length s) m) (λ z. d (w ∙ z))

-- ---- what an accepted call tells: a sheet, of which the edition has all, and room for it

pub record Taken (v : Edition) (s : List ℕ) (m : ℕ) : Type 0 where
  pub sheet : Sheet s
  pub has : Has v s
  pub room : length s ≤ m

module _ (v : Edition) (s : List ℕ) (m : ℕ) where
  row_taken : {r : ℕ} → ConvertRow v s m r → r ≡ 0 → Taken v s m
  row_taken (no_sheet p d) z = absurd (d z)
  row_taken (of_sheet h f) z =
      let x = passed f (λ e. omega arith) in
      let y = passed x.1 (λ e. omega arith) in
      let l = h.size.fits.long in
      record {
        sheet = h;
        has = λ p u. x.0 (not_in_edition_1 p u);
        room = ⊎_elim (λ k. absurd (y.0 (short (omega arith)))) (λ k. k) (cases_lt m (length s));
      }

  pub taken : convert_refusal v s m ≡ 0 → Taken v s m
  taken z = row_taken (convert_row v s m) z

pub convert_by_rows : (v : Edition) (s out : List ℕ) → ConvertAnswer v s out
convert_by_rows v s out =
    record {
      number = record { is = convert_row v s (length out); only = λ r p. convert_only v s (length out) p };
      answer = λ z. (taken v s (length out) z).sheet.size.fits.long;
    }
