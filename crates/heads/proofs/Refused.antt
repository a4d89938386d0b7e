-- A refused call leaves the head and its outputs. Assumes nothing.
use Prim.Native.Nat.{ℕ}
use mathlib.Core.Path.{◌≡◌, refl}
use mathlib.Core.Bool.{Bool, true, false, cond}
use lib.Dec.{leb, ltb, eqb}
use lib.ListN.{length}
use Rattle.filter_core.specs.Buffer.{within}
use Rattle.heads.specs.Act.{Act, run, run_two, rest, mark, back, drop, count, HeadReply, head_number, refused_act}
use Rattle.heads.specs.Snapshot.{run_number, Sewn, left, on_filter, run_by, run_sewn, run_two_by, run_two_sewn, rest_by, rest_sewn}
use Rattle.heads.specs.Head.{Turned, refuse_turn, accept_turn, put, last_mark, next_mark, marked_head, mark_by, back_head, drop_head, turn}
use Rattle.any_filter.specs.Cases.{type_of}
use Rattle.any_filter.specs.declared.Filter.{Filter}
use Rattle.runs.specs.Form.{run_refusal, run_two_refusal}
use Rattle.std.specs.Prelude.{Option, None, Some}
use Rattle.heads.specs.declared.Head.{Head}

module _ (x : Head) (a : Act) where
  -- a turn that is accepted with the number 0, or refused
  abbrev Leaves : Turned → Type 0
  Leaves t = (head_number t.reply ≡ 0 → ⊥) → t ≡ refuse_turn x a (head_number t.reply)

  refusing : (n : ℕ) → head_number (refused_act n a) ≡ n → Leaves (refuse_turn x a n)
  refusing n e z = rw e refl

  accepting : (r : HeadReply) (y : Head) → head_number r ≡ 0 → Leaves (accept_turn r y)
  accepting r y e z = absurd (z e)

  either : (b : Bool) (t u : Turned) → Leaves t → Leaves u → Leaves (cond b t u)
  either true t u p q = p
  either false t u p q = q

  -- what a head holds is left where a call that asks for it is refused
  sews : (b : Bool) (t : Sewn) (n : ℕ) → head_number t.reply ≡ 0 → head_number (refused_act n a) ≡ n → Leaves (put x (cond b t (left x.now a n)))
  sews true t n e q z = absurd (z e)
  sews false t n e q z = rw q refl

  on_filter_is : (σ : Option Filter) (t : Filter → Sewn) → head_number (refused_act 6 a) ≡ 6 → ((f : Filter) → Leaves (put x (t f))) → Leaves (put x (on_filter σ (left x.now a 6) t))
  on_filter_is None t e p z = rw e refl
  on_filter_is (Some f) t e p z = p f z

marks : (x : Head) (σ : Option Filter) → Leaves x mark (mark_by x σ)
marks x None = refusing x mark 6 refl
marks x (Some f) = either x mark (ltb last_mark (next_mark x)) _ _ (refusing x mark 8 refl) (accepting x mark _ (marked_head x) refl)

-- a call whose number is not 0 leaves the head and its outputs
pub refused_leaves : (x : Head) (a : Act) → (head_number (turn x a).reply ≡ 0 → ⊥) → turn x a ≡ refuse_turn x a (head_number (turn x a).reply)
unfolding turn run_sewn run_two_sewn rest_sewn
refused_leaves x (run form us ys) =
    let n : Filter → ℕ = λ f. run_number (run_refusal (type_of f) form) x.now.count (length (within us ys)) in
    on_filter_is x (run form us ys) x.now.filter (run_by x.now form us ys) refl (λ f. sews x (run form us ys) (eqb (n f) 0) _ (n f) refl refl)
refused_leaves x (run_two form us ys zs) =
    let n : Filter → ℕ = λ f. run_number (run_two_refusal (type_of f) form) x.now.count (length (within (within us ys) zs)) in
    on_filter_is x (run_two form us ys zs) x.now.filter (run_two_by x.now form us ys zs) refl (λ f. sews x (run_two form us ys zs) (eqb (n f) 0) _ (n f) refl refl)
refused_leaves x rest = on_filter_is x rest x.now.filter (rest_by x.now) refl (λ f z. absurd (z refl))
refused_leaves x mark = marks x x.now.filter
refused_leaves x (back m) =
    either x (back m) (leb (next_mark x) m) _ _ (refusing x (back m) 7 refl) (accepting x (back m) _ (back_head x m) refl)
refused_leaves x (drop m) =
    either x (drop m) (leb (next_mark x) m) _ _ (refusing x (drop m) 7 refl) (accepting x (drop m) _ (drop_head x m) refl)
refused_leaves x count = accepting x count _ x refl
