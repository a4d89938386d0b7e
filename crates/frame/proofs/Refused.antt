-- A refused call leaves the frame and its outputs. Assumes nothing.
use Prim.Native.Nat.{ℕ}
use mathlib.Core.Path.{◌≡◌, refl, ap, ◌∙◌}
use mathlib.Core.Bool.{Bool, true, false, cond}
use mathlib.Core.List.{List}
use borrow.Author.Tests.{eqb-true}
use lib.Dec.{eqb, leb, ltb}
use lib.Seq.{set-get_or}
use Rattle.filter_core.specs.Refusal.{unless_refused}
use Rattle.sheets.specs.Sheet.{check_of}
use Rattle.library.specs.Library.{count as entry_count, write_number}
use Rattle.heads.specs.Act.{Act, run, run_two, rest, mark, back, drop, count, head_number, refused_act}
use Rattle.heads.specs.Head.{empty_head, turn}
use Rattle.heads.proofs.Refused as head
use Rattle.saves.proofs.Parts.{begin_refused, take_refused}
use Rattle.rota.specs.Call as rota
use Rattle.rota.proofs.Fairness.{fair}
use Rattle.saved_heads.specs.Saved.{save_number, restore_refusal}
use Rattle.frame.specs.Call.{Call, opening, writing, loading, at, beginning, taking, at_rota, saving_heads, restoring_heads, wrote, number_in, refused}
use Rattle.frame.specs.Calls.{head_at, Done, refuse, settled, rota_done, perform}
use Rattle.frame.specs.Refused.{RefusedLeaves}
use Rattle.frame.specs.declared.Frame.{Frame}

abbrev Leaves : Frame → Call → Done → Type 0
Leaves f c d = (number_in d.reply ≡ 0 → ⊥) → d ≡ refuse f c (number_in d.reply)

module _ (f : Frame) (c : Call) where
  refusing : (n : ℕ) → number_in (refused n c) ≡ n → Leaves f c (refuse f c n)
  refusing n e z = rw e refl

  accepting : (d : Done) → number_in d.reply ≡ 0 → Leaves f c d
  accepting d e z = absurd (z e)

  either : (b : Bool) (d u : Done) → Leaves f c d → Leaves f c u → Leaves f c (cond b d u)
  either true d u p q = p
  either false d u p q = q

-- a call that answers how much it has written, and by one number whether it has
leaves_wrote : (f : Frame) (c : Call) (n l : ℕ) (out ys : List ℕ) → ((k : ℕ) → refused k c ≡ wrote k 0 out)
    → Leaves f c (record { reply = wrote n (unless_refused n 0 l) (unless_refused n out ys); frame = f })
leaves_wrote f c n l out ys e = go (eqb n 0) refl
  where
    go : (b : Bool) → eqb n 0 ≡ b → Leaves f c (record { reply = wrote n (unless_refused n 0 l) (unless_refused n out ys); frame = f })
    go true q z = absurd (z (eqb-true n 0 q))
    go false q z = rw (q, e n) refl

leaves_begin : (f : Frame) → Leaves f beginning (perform f beginning)
unfolding perform
leaves_begin f z = rw (begin_refused f.save f.library z) refl

leaves_take : (f : Frame) (out : List ℕ) → Leaves f (taking out) (perform f (taking out))
unfolding perform
leaves_take f out z = let t = take_refused f.save out z in rw (t.save, t.output, t.length) refl

leaves_rota : (f : Frame) (c : rota.Call) → Leaves f (at_rota c) (perform f (at_rota c))
unfolding perform
leaves_rota f c z = ap (rota_done f) (fair.refused f.rota c z)

refused_number : (a : Act) → head_number (refused_act 1 a) ≡ 1
refused_number (run form us ys) = refl
refused_number (run_two form us ys zs) = refl
refused_number rest = refl
refused_number mark = refl
refused_number (back m) = refl
refused_number (drop m) = refl
refused_number count = refl

-- a head that a refused call leaves is put back where it stood
put_back : (f : Frame) (h : ℕ) (a : Act) → Leaves f (at h a) (settled f h (turn (head_at f h) a))
put_back f h a z = ap (settled f h) (head.refused_leaves (head_at f h) a z) ∙ rw (set-get_or f.heads h empty_head) refl

pub refused_leaves : RefusedLeaves
unfolding perform
refused_leaves f (opening s) = either f (opening s) (eqb (check_of s) 0) _ _ (accepting f (opening s) _ refl) (refusing f (opening s) (check_of s) refl)
refused_leaves f (writing out) = leaves_wrote f (writing out) (write_number f.library out) _ out _ (λ k. refl)
refused_leaves f (loading h e) =
    either f (loading h e) (ltb 11 h) _ _ (refusing f (loading h e) 1 refl)
    (either f (loading h e) (leb (entry_count f.library) e) _ _ (refusing f (loading h e) 5 refl) (accepting f (loading h e) _ refl))
refused_leaves f (at h a) = either f (at h a) (ltb 11 h) _ _ (refusing f (at h a) 1 (refused_number a)) (put_back f h a)
refused_leaves f beginning = leaves_begin f
refused_leaves f (taking out) = leaves_take f out
refused_leaves f (at_rota c) = leaves_rota f c
refused_leaves f (saving_heads out) = leaves_wrote f (saving_heads out) (save_number f.heads out) _ out _ (λ k. refl)
refused_leaves f (restoring_heads b) =
    either f (restoring_heads b) (eqb (restore_refusal b) 0) _ _ (accepting f (restoring_heads b) _ refl) (refusing f (restoring_heads b) (restore_refusal b) refl)
