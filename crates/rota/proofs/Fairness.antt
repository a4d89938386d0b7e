-- What 02 b promises, gathered from the history that the calls make. Assumes nothing.
use Prim.Native.Nat.{ℕ, ◌<◌, ◌≤◌}
use mathlib.Core.Path.{◌≡◌, refl, ap, sym}
use mathlib.Core.List.{List, [], ◌∷◌}
use native.Mathlib.Omega.{arith}
use borrow.Author.Tests.{ne_eqb}
use Rattle.std.specs.Prelude.{Option, None, Some, IfSome}
use Rattle.std.proofs.lemmas.Option.{none-some}
use Rattle.rota.specs.Ring.{places, first_after}
use Rattle.rota.specs.Call.{Call, tell, turn, Reply, number_in, refused}
use Rattle.rota.specs.Rota.{waits_in, tell_refusal, tell_done, turn_done, perform}
use Rattle.rota.specs.History.{Event, Waits, last_served, reply_to, advance, advance_all, replies_to}
use Rattle.rota.specs.Follows.{rota_for}
use Rattle.rota.specs.Fair.{replies_from, rota_from, history_from, grant_in, Due, FairTo, Fair}
use Rattle.rota.specs.declared.Grant.{Grant}
use Rattle.rota.specs.declared.Rota.{Rota}
use Rattle.rota.proofs.Follows.{rota_follows}
use Rattle.rota.proofs.Sound.{Sound, Turned, idle, grants, turned, sound_none, sound_all}
use Rattle.rota.proofs.Turns.{way, turns_answered, soon, once}

-- ---- of any rota

module _ (r : Rota) where
  refused_telling : (h n m : ℕ) → (m ≡ 0 → ⊥) → tell_done r h n m ≡ record { reply = refused m (tell h n); rota = r }
  refused_telling h n m z = rw (ne_eqb m 0 z) refl

  refused_is : (c : Call) → (number_in (perform r c).reply ≡ 0 → ⊥) → perform r c ≡ record { reply = refused (number_in (perform r c).reply) c; rota = r }
  unfolding perform
  refused_is (tell h n) z = refused_telling h n (tell_refusal h (waits_in r h) n) z
  refused_is turn z = absurd (turn_done_number _ z)
    where
      turn_done_number : (o : Option ℕ) → (number_in (turn_done r o).reply ≡ 0 → ⊥) → ⊥
      turn_done_number None z = z refl
      turn_done_number (Some h) z = z refl

  idle_is : grant_in (perform r turn).reply ≡ None → (perform r turn).rota ≡ r
  unfolding perform
  idle_is = go (first_after r.last (waits_in r))
    where
      go : (o : Option ℕ) → grant_in (turn_done r o).reply ≡ None → (turn_done r o).rota ≡ r
      go None e = refl
      go (Some h) e = absurd (none-some _ (sym e))

-- ---- the calls from the picture of a history

pub record Carried (l : List Event) (cs : List Call) : Type 0 where
  pub replies : replies_from (rota_for l) cs ≡ replies_to l cs
  pub rota : rota_from (rota_for l) cs ≡ rota_for (advance_all l cs)
  pub history : history_from (rota_for l) l cs ≡ advance_all l cs

pub carried : (l : List Event) (cs : List Call) → Carried l cs
unfolding replies_from rota_from history_from replies_to advance_all
carried l [] = record { replies = refl; rota = refl; history = refl }
carried l (c ∷ cs) =
    let r = carried (advance l c) cs in
    record {
      replies = rw (rota_follows.call l c) (ap (λ (rs : List Reply). reply_to l c ∷ rs) r.replies);
      rota = rw (rota_follows.call l c) r.rota;
      history = rw (rota_follows.call l c) r.history;
    }

-- ---- what holds after a history that is sound, said of what its next turn grants

module _ (l : List Event) where
  nothing : {x : Option Grant} → Turned l x → x ≡ None → (h : ℕ) → Waits l h → ⊥
  nothing (idle z) e = z
  nothing (grants d u) e = absurd (none-some _ (sym e))

  nobody_waits : {x : Option Grant} → Turned l x → ((h : ℕ) → Waits l h → ⊥) → x ≡ None
  nobody_waits (idle z) n = refl
  nobody_waits (grants d u) n = absurd (n _ u.waits)

  shares : {x : Option Grant} → Turned l x → IfSome x (λ y. (0 < y.samples) × (y.samples ≤ 256))
  shares (idle z) = tt
  shares (grants {h} d u) = (omega (arith, u.waits), omega arith)

  due : {x : Option Grant} → Turned l x → IfSome x (Due l)
  due (idle z) = tt
  due (grants d u) = u

  pub fair_to : Sound l → FairTo (rota_for l) l
  fair_to S =
      record {
        none = rw (rota_follows.call l turn) (nothing (turned l S));
        none_waits = rw (rota_follows.call l turn) (nobody_waits (turned l S));
        most = S.most;
        all = λ h e w. omega arith;
        only_all = λ h z. omega (arith, S.most h, z);
        soon =
            λ h cs w n.
            let few : places (last_served l) h ≤ 12 = omega arith in
            let i = soon (way h l S w cs) (omega (arith, turns_answered l cs)) in (i.0, omega (arith, few, i.1), i.2);
        shares = rw (rota_follows.call l turn) (shares (turned l S));
        once = λ h g i j cs w d. once g d (way h l S w cs) i j;
        due = rw (rota_follows.call l turn) (due (turned l S));
      }

pub fair : Fair
fair =
    record {
      after = λ cs. let r = carried [] cs in rw (rota_follows.fresh, r.rota, r.history) (fair_to (advance_all [] cs) (sound_all [] cs sound_none));
      replies = λ cs. rw rota_follows.fresh (carried [] cs).replies;
      history = λ cs. rw rota_follows.fresh (carried [] cs).history;
      rota = λ cs. rw rota_follows.fresh (carried [] cs).rota;
      refused = refused_is;
      idle = idle_is;
    }
