-- What the parts of a save come to. Assumes nothing.
use Prim.Native.Nat.{ℕ, ◌-◌, ◌<◌, ◌≤◌}
use mathlib.Core.Path.{◌≡◌, refl, ap, ◌∙◌}
use mathlib.Core.List.{List, []}
use mathlib.Core.Logic.{⊎_elim}
use native.Mathlib.Nat.{zero-min}
use native.Mathlib.Omega.{arith}
use borrow.Author.Tests.{eq-eqb, ne_eqb, le-ltb}
use lib.ListN.{length, take, drop, take-append-drop, drop_of_length-le}
use lib.Seq.{take-append_seam}
use Rattle.std.proofs.lemmas.Bool.{cases_lt}
use Rattle.lists.specs.Over.{over}
use Rattle.lists.proofs.Over.{over_none, drop_room, over_written, over_kept}
use Rattle.sheets.specs.Rows.{Sheet}
use Rattle.library.specs.Library.{library_of, written_of}
use Rattle.library.specs.declared.Library.{Library}
use Rattle.library.proofs.RoundTrip.{rewritten}
use Rattle.saves.proofs.Zeros.{length_zero_bytes}
use Rattle.saves.specs.Save.{zero_bytes, left_of, begin_refusal, begun_with, begin_of, take_refusal, take_length, take_of, taken_of}
use Rattle.saves.specs.Parts.{part_of, Part, TakeLeaves, Parts}
use Rattle.saves.specs.declared.Save.{Save}

-- ---- begin

-- what is left of the library of a sheet, written into zeros, is the sheet
pub left_begun : (s : List ℕ) → Sheet s → left_of (begun_with (library_of s)) ≡ s
left_begun s h =
    let l = h.size.fits.long in
    let m = h.size.fits.most in
    let w = rewritten s h (zero_bytes 834) (omega (arith, length_zero_bytes 834)) in
    ap (λ (k : ℕ). take k (written_of (library_of s) (zero_bytes 834))) w.answer ∙ rw w.bytes (take-append_seam s (drop (length s) (zero_bytes 834)))

module _ (v : Save) (l : Library) where
  pub begin_accepted : begin_refusal (length (left_of v)) l ≡ 0 → begin_of v l ≡ begun_with l
  begin_accepted z = rw (eq-eqb (begin_refusal (length (left_of v)) l) 0 z) refl

  pub begin_refused : (begin_refusal (length (left_of v)) l ≡ 0 → ⊥) → begin_of v l ≡ v
  begin_refused z = rw (ne_eqb (begin_refusal (length (left_of v)) l) 0 z) refl

-- ---- take

module _ (v : Save) (out : List ℕ) where
  -- less by what has room
  pub left_taken : left_of (take_of v out) ≡ drop (length out) (left_of v)
  left_taken = drop_room (left_of v) out

  full : (left_of (take_of v out) ≡ [] → ⊥) → take_length v out ≡ length out
  full z =
      ⊎_elim (λ (h : length out < length (left_of v)). omega arith)
      (λ (h : length (left_of v) ≤ length out). absurd (z (left_taken ∙ drop_of_length-le (left_of v) {i = length out} h)))
      (cases_lt (length out) (length (left_of v)))

  -- as much as has room
  part_is : part_of v out ≡ take (length out) (left_of v)
  part_is = over_written (left_of v) out

  kept : drop (take_length v out) (taken_of v out) ≡ drop (take_length v out) out
  kept = over_kept (left_of v) out

  part : Part v out
  part =
      record {
        joined = rw (part_is, left_taken) (take-append-drop (length out) (left_of v));
        full = full;
        kept = kept;
      }

  -- 17 is answered where nothing is left
  pub none_left : (take_refusal v ≡ 0 → ⊥) → left_of v ≡ []
  none_left z =
      ⊎_elim (λ (h : length (left_of v) < 1). drop_of_length-le (left_of v) {i = 0} (omega arith))
      (λ (h : 1 ≤ length (left_of v)). absurd (z (rw (le-ltb (length (left_of v)) 1 h) refl)))
      (cases_lt (length (left_of v)) 1)

  pub take_refused : (take_refusal v ≡ 0 → ⊥) → TakeLeaves v out
  take_refused z = let e = none_left z in record { length = rw (e, zero-min (length out - 0)) refl; save = rw e (rw (zero-min (length out - 0)) refl); output = rw e (over_none 0 out) }

-- so the code need not write
pub nothing_taken : (v : Save) (out : List ℕ) → length (left_of v) < 1 → over 0 (left_of v) out ≡ out
nothing_taken v out h = let e : left_of v ≡ [] = drop_of_length-le (left_of v) {i = 0} (omega arith) in rw e (over_none 0 out)

pub parts : Parts
parts =
    record {
      none = refl;
      begun = λ v s h z. ap left_of (begin_accepted v (library_of s) z) ∙ left_begun s h;
      begin_refused = begin_refused;
      part = part;
      take_refused = take_refused;
    }
