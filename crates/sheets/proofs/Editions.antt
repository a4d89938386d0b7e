-- The two editions side by side. Assumes nothing.
use Prim.Native.Nat.{ℕ, zero, suc, ◌+◌, ◌-◌, ◌*◌, ◌%◌, ◌/◌, ◌≤◌, ◌<◌}
use mathlib.Core.Path.{◌≡◌, refl, sym, ap, ◌∙◌}
use mathlib.Core.List.{List, ◌∷◌}
use mathlib.Core.Logic.{◌⊎◌, inl, inr}
use native.Mathlib.Omega.{arith}
use borrow.Author.Tests.{ne_eqb}
use lib.ListN.{length, get_or, drop}
use lib.Seq.{drop-drop, get_or-drop}
use Rattle.std.specs.Prelude.{Option, Some, None, slice_get}
use Rattle.std.specs.Option.{option_and_then}
use Rattle.std.proofs.lemmas.Bool.{cases_lt, cases_eq}
use Rattle.filter_core.proofs.Rows.{then_zero}
use Rattle.sheets.specs.Edition.{approximations_in, edition_refusal}
use Rattle.sheets.specs.Kind.{setter_for, setter_in, setter_of, kind_refusal}
use Rattle.sheets.specs.Refusal.{first_refusal, refusal_by, entry_refusal}
use Rattle.sheets.specs.Sheet.{entries_of, kind_at, setting_behind, entry_among, size_refusal, refusal_at, check_of}
use Rattle.sheets.specs.EditionOne.{entries_one, check_one}
use Rattle.sheets.specs.Editions.{Declined, Agreed, Found, Raised, BothEditions}
use Rattle.sheets.specs.declared.edition.Edition.{Edition}
use Rattle.sheets.specs.declared.edition.Edition.TheVariants.{One, Two}
use Rattle.sheets.specs.declared.entry.Entry.{Entry}
use Rattle.sheets.specs.declared.setter.Setter.{Setter}
use Rattle.sheets.proofs.Checks.{first_all, first_each, too_many}

-- ---- the setters of edition 1: those of edition 2 up to approximation 3, and no other

-- by the setter's kind k and its approximation p
abbrev pub named : Edition → ℕ → ℕ → Option Setter
named v k p = option_and_then (setter_for k) (slice_get (approximations_in v) p)

four : (k p : ℕ) → p < 4 → named One k p ≡ named Two k p
four k zero h = refl
four k (suc zero) h = refl
four k (suc (suc zero)) h = refl
four k (suc (suc (suc zero))) h = refl
four k (suc (suc (suc (suc p)))) h = absurd (omega arith)

past_four : (k p : ℕ) → 4 ≤ p → named One k p ≡ None
past_four k p h = let e : p ≡ suc (suc (suc (suc (p - 4)))) = omega arith in rw e refl

-- a byte that an edition takes names the setter that a load goes by
one_setter : (v : Edition) (b : ℕ) → kind_refusal (setter_in v b) ≡ 0 → setter_in v b ≡ setter_of b
one_setter Two b z = refl
one_setter One b z = go (cases_lt (b / 16) 4)
  where
    go : (b / 16 < 4) ⊎ (4 ≤ b / 16) → setter_in One b ≡ setter_of b
    go (inl h) = four (b % 16) (b / 16) h
    go (inr h) = let w : kind_refusal None ≡ 0 = rw (past_four (b % 16) (b / 16) h) at z in absurd (omega arith)

kind_right : (o : Option Setter) (t : Entry) → refusal_by o t ≡ 0 → kind_refusal o ≡ 0
kind_right (Some s) t z = refl
kind_right None t z = z

-- and so does an entry that the check takes
pub entry_setter : (v : Edition) (t : Entry) → entry_refusal v t ≡ 0 → setter_in v t.kind ≡ setter_of t.kind
unfolding entry_refusal
entry_setter v t z = one_setter v t.kind (kind_right (setter_in v t.kind) t z)

-- ---- the reader of edition 1

module _ (s : List ℕ) where
  -- of 256 entries and more it takes none
  one_declines : 1 ≤ get_or s 1 0 → check_one s ≡ 2
  one_declines h = too_many One (entries_one s) s (omega arith)

  declined : 1 ≤ get_or s 1 0 → Declined s
  declined h = let w = one_declines h in record { check = w; entry = λ e. rw w refl; lookup = λ e. rw w refl }

  agreed : (get_or s 1 0 ≡ 2 → ⊥) → Agreed s
  agreed h = go (cases_eq (get_or s 1 0) 0)
    where
      go : (get_or s 1 0 ≡ 0) ⊎ (get_or s 1 0 ≡ 0 → ⊥) → Agreed s
      go (inl z) =
          let n : entries_one s ≡ entries_of s = omega arith in
          record { check = rw (n, z) refl; entry = λ e. rw (n, z) refl; lookup = λ e. rw (n, z) refl }
      go (inr z) =
          let d = declined (omega arith) in
          let w : edition_refusal (get_or s 1 0) ≡ 2 = rw (ne_eqb (get_or s 1 0) 0 z, ne_eqb (get_or s 1 0) 2 h) refl in
          record { check = d.check ∙ rw w refl; entry = λ e. d.entry e ∙ rw w refl; lookup = λ e. d.lookup e ∙ rw w refl }

  found : get_or s 1 0 ≡ 0 → Found s
  found z = let n : entries_one s ≡ entries_of s = omega arith in record { number = n; entry = λ e. rw n refl }

-- ---- edition 2's byte in a sheet of edition 1

-- an entry is read off n and what stands behind the two bytes
module _ (n : ℕ) (s t : List ℕ) (h : drop 2 s ≡ drop 2 t) (e : ℕ) where
  pub same_kind : kind_at s e ≡ kind_at t e
  same_kind = sym (get_or-drop 2 s e 0) ∙ ap (λ (x : List ℕ). get_or x e 0) h ∙ get_or-drop 2 t e 0

  pub same_setting : setting_behind n s e ≡ setting_behind n t e
  same_setting =
      let p : 2 + n + 12 * e ≡ 2 + (n + 12 * e) = omega arith in
      rw (p, ← drop-drop (n + 12 * e) 2 s, ← drop-drop (n + 12 * e) 2 t, h) refl

  pub same_entry : entry_among n s e ≡ entry_among n t e
  same_entry = rw (same_kind, same_setting) refl

taken_in_two : (t : Entry) → entry_refusal One t ≡ 0 → entry_refusal Two t ≡ 0
unfolding entry_refusal
taken_in_two t z = rw (← entry_setter One t z) z

module _ (n : ℕ) (r : List ℕ) where
  abbrev old : List ℕ
  old = n ∷ 0 ∷ r

  abbrev new : List ℕ
  new = n ∷ 2 ∷ r

  raised : check_of old ≡ 0 → Raised n r
  raised h =
      let z = then_zero (size_refusal (length old) n) (first_refusal n (refusal_at One n old)) h in
      let f : first_refusal n (refusal_at Two n new) ≡ 0 =
      first_all (refusal_at Two n new) n
      (λ e l. rw (same_entry n new old refl e) (taken_in_two (entry_among n old e) (first_each (refusal_at One n old) n e z.1 l))) in
      record { check = rw (z.0, f) refl; entry = λ e. same_entry n new old refl e }

pub both_editions : BothEditions
both_editions =
    record {
      declined = λ s h. declined s (omega arith);
      agreed = λ s h. agreed s h;
      found = λ s h. found s h;
      raised = λ n r h. raised n r h;
      one_setter = λ b z. one_setter One b z;
    }
