-- A sheet with another edition's byte: its entries, and when it is a sheet. Assumes nothing.
use Prim.Native.Nat.{ℕ, ◌+◌, ◌/◌, ◌<◌}
use mathlib.Core.Path.{◌≡◌, refl, sym, ap, ◌∙◌}
use mathlib.Core.List.{List}
use mathlib.Core.Logic.{◌⊎◌, inl, inr, ⊎_elim}
use native.Mathlib.Omega.{arith}
use lib.ListN.{length, get_or, drop, length-set}
use lib.Seq.{get_or-set_same, get_or-set_other, drop-set-lt, set-set, set-get_or}
use Rattle.filter_core.specs.Rows.{none, later}
use Rattle.filter_core.proofs.Rows.{passed}
use Rattle.sheets.specs.Edition.{edition_byte}
use Rattle.sheets.specs.Sheet.{entries_of, edition_in, setting_at, entry_in, Sized}
use Rattle.sheets.specs.Rows.{KindWrong, no_kind, past_kinds, past_approximations, past_edition_1, not_exact, EntryCase, wrong_kind, wrong_words, wrong_frequency, EntryRow, Sheet}
use Rattle.sheets.specs.declared.edition.Edition.{Edition}
use Rattle.sheets.specs.declared.edition.Edition.TheVariants.{One, Two}
use Rattle.sheets.specs.declared.entry.Entry.{Entry}
use Rattle.sheets.proofs.Checks.{edition_named, edition_of_byte, edition_back}
use Rattle.sheets.proofs.Editions.{same_kind, same_setting, same_entry}
use Rattle.library.specs.Library.{stored_in}
use Rattle.conversion.specs.Rows.{UsesSeries}
use Rattle.conversion.specs.Converted.{in_edition}
use Rattle.conversion.proofs.Rows.{two_is_not_one, Has}

-- ---- an entry is judged by its sheet's second byte in approximation 4 alone

module _ {b c : ℕ} where
  kind_moved : {k p : ℕ} → (c ≡ 2) ⊎ (p ≡ 4 → ⊥) → KindWrong c k p → KindWrong b k p
  kind_moved d (no_kind e) = no_kind e
  kind_moved d (past_kinds l) = past_kinds l
  kind_moved d (past_approximations l) = past_approximations l
  kind_moved d (past_edition_1 n l) = ⊎_elim (λ e. absurd (n e)) (λ e. past_approximations (omega (arith, e))) d
  kind_moved d (not_exact x y z l) = not_exact x y z l

  module _ {t : Entry} (d : (c ≡ 2) ⊎ (t.kind / 16 ≡ 4 → ⊥)) where
    case_moved : {r : ℕ} → EntryCase c t r → EntryCase b t r
    case_moved (wrong_kind w) = wrong_kind (kind_moved d w)
    case_moved (wrong_words w) = wrong_words w
    case_moved (wrong_frequency w) = wrong_frequency w

    row_moved : EntryRow b t 0 → EntryRow c t 0
    row_moved r =
        let x = passed r (λ z. omega arith) in
        let y = passed x.1 (λ z. omega arith) in
        let z = passed y.1 (λ z. omega arith) in
        later (λ w. x.0 (case_moved w)) (later (λ w. y.0 (case_moved w)) (later (λ w. z.0 (case_moved w)) none))

-- ---- a sheet of edition 1 uses approximation 4 nowhere

pub one_has_no_series : (s : List ℕ) → Sheet s → edition_in s ≡ One → UsesSeries s → ⊥
one_has_no_series s h o u =
    (passed (h.entries u.entry u.inside) (λ z. omega arith)).0
    (wrong_kind (past_edition_1 (λ e. two_is_not_one (rw e at o)) (omega (arith, u.series))))

-- ---- the sheet in an edition

-- a sheet has a second byte
pub long : (s : List ℕ) → Sheet s → 1 < length s
long s h = let l = h.size.fits.long in omega arith

module _ (v : Edition) (s : List ℕ) where
  abbrev pub new : List ℕ
  new = in_edition v s

  pub length_in : length new ≡ length s
  length_in = length-set s 1 (edition_byte v)

  pub entries_in : entries_of new ≡ entries_of s
  entries_in = get_or-set_other s 1 0 (edition_byte v) 0 (λ e. omega arith)

  pub behind_in : (n : ℕ) → drop (2 + n) new ≡ drop (2 + n) s
  behind_in n = drop-set-lt (2 + n) s 1 (edition_byte v) (omega arith)

  pub setting_is_in : (e : ℕ) → setting_at new e ≡ setting_at s e
  setting_is_in e = rw entries_in (same_setting (entries_of s) new s (behind_in 0) e)

  pub stored_is_in : (e : ℕ) → stored_in new e ≡ stored_in s e
  stored_is_in e =
      let k = same_kind (entries_of s) new s (behind_in 0) e in
      let t = setting_is_in e in
      λ i. record { kind = k i; setting = t i }

  pub entry_is_in : (e : ℕ) → entry_in new e ≡ entry_in s e
  entry_is_in e = rw entries_in (same_entry (entries_of s) new s (behind_in 0) e)

  module _ (l : 1 < length s) where
    pub byte_in : get_or new 1 0 ≡ edition_byte v
    byte_in = get_or-set_same s 1 (edition_byte v) 0 l

    pub edition_is_in : edition_in new ≡ v
    edition_is_in = rw byte_in (edition_of_byte v)

  uses_in : UsesSeries new → UsesSeries s
  uses_in u =
      record {
        entry = u.entry;
        inside = let w = entries_in in let l = u.inside in omega arith;
        series = let w = ap (λ (t : Entry). t.kind / 16) (entry_is_in u.entry) in sym w ∙ u.series;
      }

  -- it is one where the edition has all that the sheet uses
  module _ (h : Sheet s) (d : Has v s) where
    sized_in : Sized new
    sized_in =
        let f = h.size.fits in
        let n = entries_in in
        let l = length_in in
        let a = f.some in
        let b = f.most in
        let c = f.long in
        record {
          edition = rw (byte_in (long s h)) (edition_named v);
          fits = record { some = omega arith; most = omega arith; long = omega arith };
        }

    moves : (w : Edition) → v ≡ w → (e : ℕ) → e < entries_of s → (edition_byte w ≡ 2) ⊎ ((entry_in s e).kind / 16 ≡ 4 → ⊥)
    moves One p e l = inr (λ q. d p (record { entry = e; inside = l; series = q }))
    moves Two p e l = inl refl

    pub sheet_in : Sheet new
    sheet_in =
        record {
          size = sized_in;
          entries =
              λ e l.
              let n = entries_in in
              let m : e < entries_of s = omega arith in
              rw (byte_in (long s h), entry_is_in e) (row_moved (moves v refl e m) (h.entries e m));
        }

-- and with its own edition's byte again it is itself
pub in_back : (v : Edition) (s : List ℕ) → Sized s → in_edition (edition_in s) (in_edition v s) ≡ s
in_back v s z = set-set s 1 (edition_byte v) (edition_byte (edition_in s)) ∙ rw (edition_back z.edition) (set-get_or s 1 0)

pub in_own : (s : List ℕ) → Sized s → in_edition (edition_in s) s ≡ s
in_own s z = rw (edition_back z.edition) (set-get_or s 1 0)

pub no_series_in : (v : Edition) (s : List ℕ) → Sheet s → edition_in s ≡ One → UsesSeries (in_edition v s) → ⊥
no_series_in v s h o u = one_has_no_series s h o (uses_in v s u)
