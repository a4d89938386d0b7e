-- Calls of a kind that change one part of a state alone, which no other call changes or goes by: whatever stands beside that part is that of
-- the list without them. Assumes nothing.
use mathlib.Core.Path.{◌≡◌, refl, sym, ap, subst, ◌∙◌}
use mathlib.Core.Bool.{Bool, true, false}
use mathlib.Core.List.{List, [], ◌∷◌}
use Rattle.frame.specs.Call.{Call, Reply}
use Rattle.frame.specs.Calls.{perform}
use Rattle.frame.specs.History.{Histories, advance, advance_all}
use Rattle.frame.specs.Demand.{replies_from, frame_after}
use Rattle.frame.specs.Without.{without, other_replies}
use Rattle.frame.specs.declared.Frame.{Frame}

-- for any states and any step: `part` is the part, and `put` gives a state another one
pub record Part {S V : Type 0} (kind : Call → Bool) (step : S → Call → S) (put : S → V → S) (part : S → V) : Type 0 where
  pub got : (s : S) (v : V) → part (put s v) ≡ v
  pub again : (s : S) (v w : V) → put (put s v) w ≡ put s w
  pub as_is : (s : S) → put s (part s) ≡ s
  pub others : (s : S) (v : V) (c : Call) → kind c ≡ false → step (put s v) c ≡ put (step s c) v
  pub those : (s : S) (c : Call) → kind c ≡ true → step s c ≡ put s (part (step s c))

module _ {S V : Type 0} {kind : Call → Bool} {step : S → Call → S} {put : S → V → S} {part : S → V} (P : Part kind step put part) where
  -- a call of the kind leaves what stands beside the part, whichever part stands there
  pub leaves : (s : S) (v : V) (c : Call) → kind c ≡ true → step (put s v) c ≡ put s (part (step (put s v) c))
  leaves s v c q = P.those (put s v) c q ∙ P.again s v (part (step (put s v) c))

  -- and no other call moves it
  pub kept : (s : S) (c : Call) → kind c ≡ false → part (step s c) ≡ part s
  kept s c q = ap (λ (t : S). part (step t c)) (sym (P.as_is s)) ∙ ap part (P.others s (part s) c q) ∙ P.got (step s c) (part s)

  module _
      (steps : S → List Call → S)
      (nil : (s : S) → steps s [] ≡ s)
      (cons : (s : S) (c : Call) (cs : List Call) → steps s (c ∷ cs) ≡ steps (step s c) cs)
    where
      abbrev Beside : S → S → Type 0
      Beside s t = t ≡ put s (part t)

      beside_first : (s : S) (v : V) (c : Call) (cs : List Call)
          → Beside (steps s (without kind cs)) (steps (put s (part (step (put s v) c))) cs)
          → Beside (steps (step s c) (without kind cs)) (steps (put (step s c) v) cs)
          → Beside (steps s (without kind (c ∷ cs))) (steps (put s v) (c ∷ cs))
      beside_first s v c cs r t = go (kind c) refl
        where
          go : (b : Bool) → kind c ≡ b → Beside (steps s (without kind (c ∷ cs))) (steps (put s v) (c ∷ cs))
          go true q = rw (q, cons (put s v) c cs, leaves s v c q) r
          go false q = rw (q, cons (put s v) c cs, cons s c (without kind cs), P.others s v c q) t

      beside : (s : S) (v : V) (cs : List Call) → Beside (steps s (without kind cs)) (steps (put s v) cs)
      beside s v [] = rw (nil (put s v), nil s, P.got s v) refl
      beside s v (c ∷ cs) = beside_first s v c cs (beside s (part (step (put s v) c)) cs) (beside (step s c) v cs)

      pub state_without : (s : S) (cs : List Call) → steps s cs ≡ put (steps s (without kind cs)) (part (steps s cs))
      state_without s cs = subst (λ (t : S). Beside (steps s (without kind cs)) (steps t cs)) (P.as_is s) (beside s (part s) cs)

-- for histories
pub histories_without :
    {V : Type 0}
    {kind : Call → Bool}
    {put : Histories → V → Histories}
    {part : Histories → V}
    → Part kind advance put part
    → (H : Histories) (cs : List Call)
    → advance_all H cs ≡ put (advance_all H (without kind cs)) (part (advance_all H cs))
unfolding advance_all
histories_without P = state_without P advance_all (λ H. refl) (λ H c cs. refl)

-- for frames, with what the other calls reply

abbrev pub frame_step : Frame → Call → Frame
frame_step f c = (perform f c).frame

module _ {V : Type 0} {kind : Call → Bool} {put : Frame → V → Frame} {part : Frame → V} (P : Part kind frame_step put part) where
  pub frame_without : (f : Frame) (cs : List Call) → frame_after f cs ≡ put (frame_after f (without kind cs)) (part (frame_after f cs))
  unfolding frame_after
  frame_without = state_without P frame_after (λ f. refl) (λ f c cs. refl)

  module _ (same : (f : Frame) (v : V) (c : Call) → kind c ≡ false → (perform (put f v) c).reply ≡ (perform f c).reply) where
    replies_first : (f : Frame) (v : V) (c : Call) (cs : List Call)
        → other_replies kind (put f (part (perform (put f v) c).frame)) cs ≡ replies_from f (without kind cs)
        → other_replies kind (put (perform f c).frame v) cs ≡ replies_from (perform f c).frame (without kind cs)
        → other_replies kind (put f v) (c ∷ cs) ≡ replies_from f (without kind (c ∷ cs))
    unfolding other_replies replies_from
    replies_first f v c cs r t = go (kind c) refl
      where
        go : (b : Bool) → kind c ≡ b → other_replies kind (put f v) (c ∷ cs) ≡ replies_from f (without kind (c ∷ cs))
        go true q = rw (q, leaves P f v c q) r
        go false q = rw (q, same f v c q, P.others f v c q) (ap (λ (rs : List Reply). (perform f c).reply ∷ rs) t)

    replies_beside : (f : Frame) (v : V) (cs : List Call) → other_replies kind (put f v) cs ≡ replies_from f (without kind cs)
    unfolding other_replies replies_from
    replies_beside f v [] = refl
    replies_beside f v (c ∷ cs) = replies_first f v c cs (replies_beside f (part (perform (put f v) c).frame) cs) (replies_beside (perform f c).frame v cs)

    pub replies_without : (f : Frame) (cs : List Call) → other_replies kind f cs ≡ replies_from f (without kind cs)
    replies_without f cs = subst (λ (g : Frame). other_replies kind g cs ≡ replies_from f (without kind cs)) (P.as_is f) (replies_beside f (part f) cs)
