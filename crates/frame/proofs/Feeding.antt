-- The rota over every list of the frame's calls. Assumes nothing.
use mathlib.Core.Path.{◌≡◌, refl, sym, ap, ◌∙◌}
use mathlib.Core.Bool.{Bool, true, false, cond}
use mathlib.Core.List.{List, [], ◌∷◌}
use borrow.Author.Tests.{clash, eqb-false}
use lib.Dec.{eqb, ltb, leb}
use Rattle.sheets.specs.Sheet.{check_of}
use Rattle.library.specs.Library.{count}
use Rattle.rota.specs.Call as rota
use Rattle.rota.specs.Call.{turn, of_turn}
use Rattle.rota.specs.History.{Event, call_number as rota_number, advance as rota_advance, advance_all as rota_history}
use Rattle.rota.specs.Rota as rota_step
use Rattle.rota.specs.Fair.{replies_from as rota_replies_from, rota_from, grant_in, FairTo}
use Rattle.rota.specs.declared.Grant.{Grant}
use Rattle.std.specs.Prelude.{Option, None}
use Rattle.rota.specs.declared.Rota.{Rota}
use Rattle.rota.proofs.Follows.{rota_follows}
use Rattle.rota.proofs.Sound.{sound_none, sound_all}
use Rattle.rota.proofs.Fairness.{fair, fair_to}
use Rattle.saved_heads.specs.Saved.{restore_refusal}
use Rattle.frame.specs.Call.{Call, opening, writing, loading, at, beginning, taking, at_rota, saving_heads, restoring_heads, Reply, of_rota}
use Rattle.frame.specs.Calls.{fresh_frame, with_rota, Done, perform}
use Rattle.frame.specs.History.{Histories, no_histories, call_number, grown, advance, advance_all}
use Rattle.frame.specs.Demand.{replies_from, frame_after}
use Rattle.frame.specs.Feeding.{is_tell_or_turn, rota_call, rota_calls, rota_reply, rota_replies, Feeding}
use Rattle.frame.proofs.Picture.{cond_out}
use Rattle.frame.proofs.Upholds.{after_calls}
use Rattle.frame.proofs.Apart.{Sort, begins, takes, feeds, neither, sort_of, beside_rota, beside_events}
use Rattle.frame.proofs.Without.{Part, kept, frame_step, frame_without, replies_without, histories_without}
use Rattle.frame.specs.declared.Frame.{Frame}

-- ---- beside another rota, the other calls do the same

aside_by : (f : Frame) (r : Rota) {c : Call} → Sort c → is_tell_or_turn c ≡ false → perform (with_rota f r) c ≡ record { reply = (perform f c).reply; frame = with_rota (perform f c).frame r }
unfolding perform
aside_by f r begins q = refl
aside_by f r (takes out) q = refl
aside_by f r (feeds c) q = absurd (clash (sym q))
aside_by f r (neither {c} s n m) q = beside_rota f r c s

aside : (f : Frame) (r : Rota) (c : Call) → is_tell_or_turn c ≡ false → perform (with_rota f r) c ≡ record { reply = (perform f c).reply; frame = with_rota (perform f c).frame r }
aside f r c = aside_by f r (sort_of c)

-- a telling and a turn change the rota alone
alone : (f : Frame) {c : Call} → Sort c → is_tell_or_turn c ≡ true → (perform f c).frame ≡ with_rota f (perform f c).frame.rota
unfolding perform
alone f begins q = absurd (clash q)
alone f (takes out) q = absurd (clash q)
alone f (feeds c) q = refl
alone f (neither s n m) q = absurd (clash (sym m ∙ q))

the_rota : Part is_tell_or_turn frame_step with_rota (λ f. f.rota)
the_rota =
    record {
      got = λ f r. refl;
      again = λ f r q. refl;
      as_is = λ f. refl;
      others = λ f r c q. ap (λ (d : Done). d.frame) (aside f r c q);
      those = λ f c. alone f (sort_of c);
    }

-- ---- the same of the histories

abbrev with_events : Histories → List Event → Histories
with_events H l = record H { rota = l }

module _ (H : Histories) where
  aside_in : (l : List Event) {c : Call} → Sort c → is_tell_or_turn c ≡ false → advance (with_events H l) c ≡ with_events (advance H c) l
  unfolding advance call_number
  aside_in l begins q = cond_out (λ G. with_events G l) (eqb (call_number H beginning) 0) (grown H beginning) H
  aside_in l (takes out) q = cond_out (λ G. with_events G l) (eqb (call_number H (taking out)) 0) (grown H (taking out)) H
  aside_in l (feeds c) q = absurd (clash (sym q))
  aside_in l (neither {c} s n m) q = beside_events H l c s

  -- a call of the rota adds to the rota's history what the rota says
  own_call : (c : rota.Call) → advance H (at_rota c) ≡ with_events H (rota_advance H.rota c)
  unfolding advance call_number
  own_call c = go (eqb (rota_number H.rota c) 0) refl
    where
      go : (b : Bool) → eqb (rota_number H.rota c) 0 ≡ b → cond b (with_events H (rota_advance H.rota c)) H ≡ with_events H (rota_advance H.rota c)
      go true q = refl
      go false q = ap (with_events H) (sym (rota_follows.refused H.rota c (eqb-false _ _ q)).1)

  alone_in : {c : Call} → Sort c → is_tell_or_turn c ≡ true → advance H c ≡ with_events H (advance H c).rota
  alone_in begins q = absurd (clash q)
  alone_in (takes out) q = absurd (clash q)
  alone_in (feeds c) q = rw (own_call c) refl
  alone_in (neither s n m) q = absurd (clash (sym m ∙ q))

events_in : Part is_tell_or_turn advance with_events (λ H. H.rota)
events_in =
    record {
      got = λ H l. refl;
      again = λ H l m. refl;
      as_is = λ H. refl;
      others = λ H l c. aside_in H l (sort_of c);
      those = λ H c. alone_in H (sort_of c);
    }

-- ---- the rota's own calls

-- a call is the rota's, or is none of its calls and replies nothing of it
data Kind (f : Frame) : Call → Type 0 where
  own : (c : rota.Call) → Kind f (at_rota c)
  other : {c : Call} → is_tell_or_turn c ≡ false → rota_call c ≡ [] → rota_reply (perform f c).reply ≡ [] → Kind f c

either : (b : Bool) (d e : Done) → rota_reply d.reply ≡ [] → rota_reply e.reply ≡ [] → rota_reply (cond b d e).reply ≡ []
either true d e p q = p
either false d e p q = q

kind_of : (f : Frame) (c : Call) → Kind f c
unfolding perform
kind_of f (opening s) = other refl refl (either (eqb (check_of s) 0) _ _ refl refl)
kind_of f (writing out) = other refl refl refl
kind_of f (loading h e) = other refl refl (either (ltb 11 h) _ _ refl (either (leb (count f.library) e) _ _ refl refl))
kind_of f (at h a) = other refl refl (either (ltb 11 h) _ _ refl refl)
kind_of f beginning = other refl refl refl
kind_of f (taking out) = other refl refl refl
kind_of f (at_rota c) = own c
kind_of f (saving_heads out) = other refl refl refl
kind_of f (restoring_heads b) = other refl refl (either (eqb (restore_refusal b) 0) _ _ refl refl)

module _ (f : Frame) (cs : List Call) where
  rota_first : (c : Call) → Kind f c → (frame_after (perform f c).frame cs).rota ≡ rota_from (perform f c).frame.rota (rota_calls cs)
      → (frame_after f (c ∷ cs)).rota ≡ rota_from f.rota (rota_calls (c ∷ cs))
  unfolding frame_after rota_from perform
  rota_first _ (own c) e = e
  rota_first c (other q n m) e = rw n (rw (kept the_rota f c q) at e)

  answers_first : (c : Call) → Kind f c
      → rota_replies (replies_from (perform f c).frame cs) ≡ rota_replies_from (perform f c).frame.rota (rota_calls cs)
      → rota_replies (replies_from f (c ∷ cs)) ≡ rota_replies_from f.rota (rota_calls (c ∷ cs))
  unfolding replies_from rota_replies_from perform
  answers_first _ (own c) e = ap (λ (rs : List rota.Reply). (rota_step.perform f.rota c).reply ∷ rs) e
  answers_first c (other q n m) e = rw (n, m) (rw (kept the_rota f c q) at e)

own_rota : (f : Frame) (cs : List Call) → (frame_after f cs).rota ≡ rota_from f.rota (rota_calls cs)
unfolding frame_after rota_from
own_rota f [] = refl
own_rota f (c ∷ cs) = rota_first f cs c (kind_of f c) (own_rota (perform f c).frame cs)

own_answers : (f : Frame) (cs : List Call) → rota_replies (replies_from f cs) ≡ rota_replies_from f.rota (rota_calls cs)
unfolding replies_from rota_replies_from
own_answers f [] = refl
own_answers f (c ∷ cs) = answers_first f cs c (kind_of f c) (own_answers (perform f c).frame cs)

own_first : (f : Frame) (H : Histories) (c : Call) (cs : List Call) → Kind f c
    → (advance_all (advance H c) cs).rota ≡ rota_history (advance H c).rota (rota_calls cs)
    → (advance_all H (c ∷ cs)).rota ≡ rota_history H.rota (rota_calls (c ∷ cs))
unfolding advance_all rota_history
own_first f H _ cs (own c) e = e ∙ ap (λ (G : Histories). rota_history G.rota (rota_calls cs)) (own_call H c)
own_first f H c cs (other q n m) e = rw n (e ∙ ap (λ (G : Histories). rota_history G.rota (rota_calls cs)) (aside_in H H.rota (sort_of c) q))

own_history : (H : Histories) (cs : List Call) → (advance_all H cs).rota ≡ rota_history H.rota (rota_calls cs)
unfolding advance_all rota_history
own_history H [] = refl
own_history H (c ∷ cs) = own_first fresh_frame H c cs (kind_of fresh_frame c) (own_history (advance H c) cs)

fair_after : (cs : List Call) → FairTo (frame_after fresh_frame cs).rota (advance_all no_histories cs).rota
fair_after cs = rw (after_calls cs, own_history no_histories cs) (fair_to (rota_history [] (rota_calls cs)) (sound_all [] (rota_calls cs) sound_none))

-- what a reply of the rota's grants
abbrev granted_in : Reply → Option Grant
granted_in (of_rota r) = grant_in r
granted_in _ = None

idle : (f : Frame) → (perform f (at_rota turn)).reply ≡ of_rota (of_turn None) → (perform f (at_rota turn)).frame ≡ f
unfolding perform
idle f e = ap (with_rota f) (fair.idle f.rota (ap granted_in e))

pub feeding : Feeding
feeding =
    record {
      replies = replies_without the_rota (λ f r c q. ap (λ (d : Done). d.reply) (aside f r c q));
      heads = λ f cs. ap (λ (g : Frame). g.heads) (frame_without the_rota f cs);
      library = λ f cs. ap (λ (g : Frame). g.library) (frame_without the_rota f cs);
      save = λ f cs. ap (λ (g : Frame). g.save) (frame_without the_rota f cs);
      histories = λ H cs. ap (λ (G : Histories). G.heads) (histories_without events_in H cs);
      sheet = λ H cs. ap (λ (G : Histories). G.sheet) (histories_without events_in H cs);
      left = λ H cs. ap (λ (G : Histories). G.left) (histories_without events_in H cs);
      alone = λ f c. alone f (sort_of c);
      others = kept the_rota;
      rota = own_rota;
      answers = own_answers;
      own = own_history;
      idle = idle;
      fair = fair_after;
      soon = λ cs ds h w n. rw (own_answers (frame_after fresh_frame cs) ds) ((fair_after cs).soon h (rota_calls ds) w n);
      once = λ cs ds h g i j w d. rw (own_answers (frame_after fresh_frame cs) ds) ((fair_after cs).once h g i j (rota_calls ds) w d);
    }
