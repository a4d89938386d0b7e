-- A call on the head of a history gives the head of the history that it leads to. Assumes nothing.
use Prim.Native.Nat.{ℕ, ◌+◌, ◌<◌}
use mathlib.Core.Path.{◌≡◌, refl, ap, sym, ◌∙◌}
use mathlib.Core.Bool.{Bool, true, false, cond}
use mathlib.Core.List.{List, [], ◌∷◌, map}
use borrow.Author.Tests.{leb-false}
use lib.ListN.{length, get_or, take}
use lib.Dec.{eqb, leb, ltb}
use Rattle.std.proofs.Math.ListN.{get_or-map}
use Rattle.std.proofs.lemmas.List.{take-map, length-map, map-append}
use Rattle.filter_core.specs.Buffer.{within}
use Rattle.filter_core.specs.Refusal.{unless_refused}
use Rattle.sheets.specs.declared.entry.Entry.{Entry}
use Rattle.any_filter.specs.Cases.{type_of}
use Rattle.any_filter.specs.declared.FilterType.{FilterType}
use Rattle.any_filter.specs.declared.Filter.{Filter}
use Rattle.runs.specs.Form.{run_refusal, run_two_refusal}
use Rattle.heads.specs.Act.{Act, run, run_two, rest, mark, back, drop, count, HeadReply, answered, marked}
use Rattle.heads.specs.Snapshot.{loaded_with, Sewn, left, on_filter, run_number, run_by, run_sewn, run_two_by, run_two_sewn, rest_by, rest_sewn}
use Rattle.heads.specs.Head.{head_with, empty_head, holding, Turned, refuse_turn, accept_turn, put, last_mark, next_mark, marked_head, mark_by, back_head, drop_head, at_mark, turn}
use Rattle.heads.specs.History.{Event, load_event, HeadHistory, no_history, last_type, count_of, unless_bare, no_mark, act_number, adding, grown_by, advance_by, snapshot_from, snapshot_of, accepted_act, act_reply}
use Rattle.heads.specs.Follows.{head_for, Fits, bare, held, SoundHead, HeadFollows}
use Rattle.heads.proofs.Counts.{count_is}
use Rattle.heads.proofs.Sound.{snapshot_snoc, sound_none, sound_loaded, sound_advance}
use Rattle.std.specs.Prelude.{Option, None, Some}
use Rattle.heads.specs.declared.Head.{Head}

-- ---- each call at the head of a history

-- a refusal's number, or a turn where it is 0
abbrev unless : Head → Act → ℕ → Turned → Turned
unless x a n t = unless_refused n (refuse_turn x a n) t

-- a call that asks for the filter: n is its number by the filter's type, t what it does by the filter, u what it comes to
on_filter_is : (x : Head) (a : Act) (l : List Event) (σ : Option Filter) (n : FilterType → ℕ) (t : Filter → Sewn) (u : Sewn) → Fits l σ
    → ((f : Filter) → σ ≡ Some f → t f ≡ unless_refused (n (type_of f)) (left x.now a (n (type_of f))) u)
    → put x (on_filter σ (left x.now a 6) t) ≡ unless x a (unless_bare l (n (last_type l))) (put x u)
on_filter_is x a [] None n t u bare h = refl
on_filter_is x a (i ∷ l) (Some f) n t u (held e) h = rw (← e, h f refl) (go (eqb (n (type_of f)) 0))
  where
    go : (b : Bool) → put x (cond b u (left x.now a (n (type_of f)))) ≡ cond b (put x u) (refuse_turn x a (n (type_of f)))
    go true = refl
    go false = refl
on_filter_is x a [] (Some f) n t u g h = elim g [ ]
on_filter_is x a (i ∷ l) None n t u g h = elim g [ ]

-- a test that gives a number, and then a turn by that number
by_number : (x : Head) (a : Act) (b : Bool) (n : ℕ) (t : Turned) → eqb n 0 ≡ false → cond b (refuse_turn x a n) t ≡ unless x a (cond b n 0) t
by_number x a true n t e = rw e
by_number x a false n t e = refl

-- a mark asks whether there is a filter, and then whether there is room
on_mark : (x : Head) (l : List Event) (σ : Option Filter) → Fits l σ
    → mark_by x σ ≡ unless x mark (unless_bare l (cond (ltb last_mark (next_mark x)) 8 0)) (accept_turn (marked 0 (next_mark x)) (marked_head x))
on_mark x [] None bare = refl
on_mark x (i ∷ l) (Some f) (held e) = by_number x mark (ltb last_mark (next_mark x)) _ _ refl
on_mark x [] (Some f) g = elim g [ ]
on_mark x (i ∷ l) None g = elim g [ ]

-- the test of back and drop
there : (x : HeadHistory) (a : Act) (m : ℕ) {y z : Head} → (m < length x.checkpoints → y ≡ z)
    → at_mark (head_for x) a m (accept_turn (answered 0) y) ≡ unless (head_for x) a (no_mark x m) (accept_turn (answered 0) z)
there x a m {y} {z} same = rw length-map (go (leb (length x.checkpoints) m) refl)
  where
    go : (b : Bool) → leb (length x.checkpoints) m ≡ b
        → cond b (refuse_turn (head_for x) a 7) (accept_turn (answered 0) y) ≡ unless (head_for x) a (cond b 7 0) (accept_turn (answered 0) z)
    go true q = refl
    go false q = ap (accept_turn (answered 0)) (same (leb-false (length x.checkpoints) m q))

module _ (x : HeadHistory) (S : SoundHead x) where
  back_pictured : (m : ℕ) → m < length x.checkpoints → back_head (head_for x) m ≡ head_for (grown_by x (back m))
  unfolding snapshot_from
  back_pictured m h =
      ap (λ s. head_with s (take (m + 1) (map snapshot_of x.checkpoints))) (get_or-map snapshot_of x.checkpoints m [])
      ∙ ap (head_with (snapshot_of (get_or x.checkpoints m []))) (take-map snapshot_of (m + 1) x.checkpoints)

  drop_pictured : (m : ℕ) → drop_head (head_for x) m ≡ head_for (grown_by x (drop m))
  drop_pictured m = rw (take-map snapshot_of m x.checkpoints) refl

  -- the turn that the history says, and what a head then holds

  abbrev said : Act → Turned
  said a = accept_turn (accepted_act x a) (head_for (grown_by x a))

  abbrev sewn_by : Act → Sewn
  sewn_by a = record { reply = accepted_act x a; now = snapshot_of (grown_by x a).history }

  asks : (a : Act) (n : FilterType → ℕ) (t : Filter → Sewn)
      → ((f : Filter) → (snapshot_of x.history).filter ≡ Some f → t f ≡ unless_refused (n (type_of f)) (left (snapshot_of x.history) a (n (type_of f))) (sewn_by a))
      → put (head_for x) (on_filter (snapshot_of x.history).filter (left (snapshot_of x.history) a 6) t)
      ≡ unless (head_for x) a (unless_bare x.history (n (last_type x.history))) (put (head_for x) (sewn_by a))
  asks a n t h = on_filter_is (head_for x) a x.history (snapshot_of x.history).filter n t (sewn_by a) S.good.fits h

  act_turn : (a : Act) → turn (head_for x) a ≡ unless (head_for x) a (act_number x a) (said a)
  unfolding turn run_sewn run_two_sewn rest_sewn
  act_turn (run form us ys) =
      asks (run form us ys) (λ k. run_number (run_refusal k form) (count_of x.history) (length (within us ys)))
      (run_by (snapshot_of x.history) form us ys) (λ f e. rw (snapshot_snoc, e, count_is) refl)
  act_turn (run_two form us ys zs) =
      asks (run_two form us ys zs) (λ k. run_number (run_two_refusal k form) (count_of x.history) (length (within (within us ys) zs)))
      (run_two_by (snapshot_of x.history) form us ys zs) (λ f e. rw (snapshot_snoc, e, count_is) refl)
  act_turn rest = asks rest (λ k. 0) (rest_by (snapshot_of x.history)) (λ f e. rw (snapshot_snoc, e) refl)
  act_turn mark =
      let next : next_mark (head_for x) ≡ length x.checkpoints = length-map x.checkpoints snapshot_of in
      let left : marked_head (head_for x) ≡ head_for (grown_by x mark) =
      ap (head_with (snapshot_of x.history)) (sym (map-append snapshot_of x.checkpoints (x.history ∷ []))) in
      rw (left, next) at (on_mark (head_for x) x.history (snapshot_of x.history).filter S.good.fits)
  act_turn (back m) = there x (back m) m (back_pictured m)
  act_turn (drop m) = there x (drop m) m (λ h. drop_pictured m)
  act_turn count = rw count_is refl

-- a turn by a number, told apart into its reply and its head
apart : (x : HeadHistory) (a : Act) (n : ℕ) (r : HeadReply) (g : HeadHistory)
    → unless (head_for x) a n (accept_turn r (head_for g)) ≡ record { reply = cond (eqb n 0) r (refuse_turn (head_for x) a n).reply; head = head_for (cond (eqb n 0) g x) }
apart x a n r g = go (eqb n 0)
  where
    go : (b : Bool) → cond b (accept_turn r (head_for g)) (refuse_turn (head_for x) a n) ≡ record { reply = cond b r (refuse_turn (head_for x) a n).reply; head = head_for (cond b g x) }
    go true = refl
    go false = refl

follows_act : (x : HeadHistory) (a : Act) → SoundHead x → turn (head_for x) a ≡ record { reply = act_reply x a; head = head_for (advance_by x a) }
unfolding act_reply advance_by
follows_act x a S = act_turn x S a ∙ apart x a (act_number x a) (accepted_act x a) (grown_by x a)

follows_load : (x : HeadHistory) (e : Entry) → holding (head_for x) (loaded_with e) ≡ head_for (adding x (load_event e))
follows_load x e = rw snapshot_snoc refl

fresh_head : empty_head ≡ head_for no_history
unfolding snapshot_from
fresh_head = refl

pub head_follows : HeadFollows
head_follows =
    record {
      fresh = fresh_head;
      fresh_sound = sound_none;
      load = λ x e S. follows_load x e;
      load_sound = sound_loaded;
      act = follows_act;
      act_sound = sound_advance;
    }
