-- The calls that go by the heads and the library alone: beside another save and another rota they do the same. Assumes nothing.
use mathlib.Core.Path.{◌≡◌, refl, ap, sym, ◌∙◌}
use mathlib.Core.Bool.{Bool, true, false, cond}
use Prim.Native.Nat.{ℕ}
use mathlib.Core.List.{List}
use borrow.Author.Tests.{clash}
use lib.Dec.{eqb, ltb, leb}
use Rattle.sheets.specs.Sheet.{check_of}
use Rattle.library.specs.Library.{count}
use Rattle.saves.specs.declared.Save.{Save}
use Rattle.rota.specs.Call as rota
use Rattle.rota.specs.History.{Event}
use Rattle.rota.specs.declared.Rota.{Rota}
use Rattle.saved_heads.specs.Saved.{restore_refusal}
use Rattle.frame.specs.Call.{Call, opening, writing, loading, at, beginning, taking, at_rota, saving_heads, restoring_heads}
use Rattle.frame.specs.Calls.{with_save, with_rota, Done, perform}
use Rattle.frame.specs.History.{Histories, call_number, grown, advance}
use Rattle.frame.specs.Saves.{is_begin_or_take}
use Rattle.frame.specs.Feeding.{is_tell_or_turn}
use Rattle.frame.proofs.Picture.{cond_out}
use Rattle.frame.specs.declared.Frame.{Frame}

abbrev pub is_of_neither : Call → Bool
is_of_neither (opening s) = true
is_of_neither (writing out) = true
is_of_neither (loading h e) = true
is_of_neither (at h a) = true
is_of_neither beginning = false
is_of_neither (taking out) = false
is_of_neither (at_rota c) = false
is_of_neither (saving_heads out) = true
is_of_neither (restoring_heads b) = true

-- a call is of the save, of the rota, or of neither
pub data Sort : Call → Type 0 where
  begins : Sort beginning
  takes : (out : List ℕ) → Sort (taking out)
  feeds : (c : rota.Call) → Sort (at_rota c)
  neither : {c : Call} → is_of_neither c ≡ true → is_begin_or_take c ≡ false → is_tell_or_turn c ≡ false → Sort c

pub sort_of : (c : Call) → Sort c
sort_of (opening s) = neither refl refl refl
sort_of (writing out) = neither refl refl refl
sort_of (loading h e) = neither refl refl refl
sort_of (at h a) = neither refl refl refl
sort_of beginning = begins
sort_of (taking out) = takes out
sort_of (at_rota c) = feeds c
sort_of (saving_heads out) = neither refl refl refl
sort_of (restoring_heads b) = neither refl refl refl

-- ---- of frames

abbrev with_both : Frame → Save → Rota → Frame
with_both f v r = record f { save = v; rota = r }

abbrev done_with : Save → Rota → Done → Done
done_with v r d = record { reply = d.reply; frame = with_both d.frame v r }

either : (v : Save) (r : Rota) (b : Bool) (d d' e e' : Done) → d' ≡ done_with v r d → e' ≡ done_with v r e → cond b d' e' ≡ done_with v r (cond b d e)
either v r true d d' e e' p q = p
either v r false d d' e e' p q = q

module _ (f : Frame) where
  apart : (v : Save) (r : Rota) (c : Call) → is_of_neither c ≡ true → perform (with_both f v r) c ≡ done_with v r (perform f c)
  unfolding perform
  apart v r (opening s) q = either v r (eqb (check_of s) 0) _ _ _ _ refl refl
  apart v r (writing out) q = refl
  apart v r (loading h e) q = either v r (ltb 11 h) _ _ _ _ refl (either v r (leb (count f.library) e) _ _ _ _ refl refl)
  apart v r (at h a) q = either v r (ltb 11 h) _ _ _ _ refl refl
  apart v r beginning q = absurd (clash q)
  apart v r (taking out) q = absurd (clash q)
  apart v r (at_rota c) q = absurd (clash q)
  apart v r (saving_heads out) q = refl
  apart v r (restoring_heads b) q = either v r (eqb (restore_refusal b) 0) _ _ _ _ refl refl

  -- so they leave both
  left_alone : (c : Call) → is_of_neither c ≡ true → perform f c ≡ done_with f.save f.rota (perform f c)
  left_alone c q = apart f.save f.rota c q

  pub beside_save : (v : Save) (c : Call) → is_of_neither c ≡ true → perform (with_save f v) c ≡ record { reply = (perform f c).reply; frame = with_save (perform f c).frame v }
  beside_save v c q =
      apart v f.rota c q ∙ ap (λ (r : Rota). done_with v r (perform f c)) (sym (ap (λ (d : Done). d.frame.rota) (left_alone c q)))

  pub beside_rota : (r : Rota) (c : Call) → is_of_neither c ≡ true → perform (with_rota f r) c ≡ record { reply = (perform f c).reply; frame = with_rota (perform f c).frame r }
  beside_rota r c q =
      apart f.save r c q ∙ ap (λ (v : Save). done_with v r (perform f c)) (sym (ap (λ (d : Done). d.frame.save) (left_alone c q)))

-- ---- of their histories

abbrev both_in : Histories → List ℕ → List Event → Histories
both_in H l es = record H { left = l; rota = es }

module _ (H : Histories) where
  apart_in : (l : List ℕ) (es : List Event) (c : Call) → is_of_neither c ≡ true → advance (both_in H l es) c ≡ both_in (advance H c) l es
  unfolding advance call_number
  apart_in l es (opening s) q = cond_out (λ G. both_in G l es) (eqb (call_number H (opening s)) 0) (grown H (opening s)) H
  apart_in l es (writing out) q = cond_out (λ G. both_in G l es) (eqb (call_number H (writing out)) 0) (grown H (writing out)) H
  apart_in l es (loading h e) q = cond_out (λ G. both_in G l es) (eqb (call_number H (loading h e)) 0) (grown H (loading h e)) H
  apart_in l es (at h a) q = cond_out (λ G. both_in G l es) (eqb (call_number H (at h a)) 0) (grown H (at h a)) H
  apart_in l es beginning q = absurd (clash q)
  apart_in l es (taking out) q = absurd (clash q)
  apart_in l es (at_rota c) q = absurd (clash q)
  apart_in l es (saving_heads out) q = cond_out (λ G. both_in G l es) (eqb (call_number H (saving_heads out)) 0) (grown H (saving_heads out)) H
  apart_in l es (restoring_heads b) q = cond_out (λ G. both_in G l es) (eqb (call_number H (restoring_heads b)) 0) (grown H (restoring_heads b)) H

  alone_in : (c : Call) → is_of_neither c ≡ true → advance H c ≡ both_in (advance H c) H.left H.rota
  alone_in c q = apart_in H.left H.rota c q

  pub beside_left : (l : List ℕ) (c : Call) → is_of_neither c ≡ true → advance (record H { left = l }) c ≡ record (advance H c) { left = l }
  beside_left l c q = apart_in l H.rota c q ∙ ap (λ (es : List Event). both_in (advance H c) l es) (sym (ap (λ (G : Histories). G.rota) (alone_in c q)))

  pub beside_events : (es : List Event) (c : Call) → is_of_neither c ≡ true → advance (record H { rota = es }) c ≡ record (advance H c) { rota = es }
  beside_events es c q = apart_in H.left es c q ∙ ap (λ (l : List ℕ). both_in (advance H c) l es) (sym (ap (λ (G : Histories). G.left) (alone_in c q)))
