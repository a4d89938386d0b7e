-- What holds of all histories that calls make: no head is granted more than it was told, and only the twelve heads occur. Assumes nothing.
use Prim.Native.Nat.{ℕ, zero, suc, ◌<◌, ◌≤◌, ◌%◌}
use mathlib.Core.Path.{◌≡◌, refl, sym, ◌∙◌}
use mathlib.Core.Bool.{Bool, true, false, cond}
use mathlib.Core.List.{List, [], ◌∷◌}
use native.Mathlib.Omega.{arith}
use borrow.Author.Tests.{ltb-true, ltb-false, lt-ltb, eqb-true, clash}
use lib.Dec.{eqb, ltb}
use Rattle.std.specs.Prelude.{Option, None, Some, option_map}
use Rattle.filter_core.specs.Rows.{◌then◌}
use Rattle.filter_core.proofs.Rows.{then_zero}
use Rattle.rota.specs.Call.{Call, tell, turn}
use Rattle.rota.specs.Rota.{head_refusal, waiting_refusal, samples_refusal, tell_refusal, share}
use Rattle.rota.specs.History.{Event, tell_event, grant_event, Account, granted_more, account, Waits, waits, owed, last_served, grant_for, next_grant, told_with, granted_with, advance, advance_all}
use Rattle.rota.specs.Fair.{Due}
use Rattle.rota.specs.declared.Grant.{Grant}
use Rattle.rota.proofs.Ring.{Nearest, nobody, somebody, nearest}

pub record Sound (l : List Event) : Type 0 where
  pub most : (h : ℕ) → (account l h).granted ≤ (account l h).told
  pub within : (h : ℕ) → Waits l h → h < 12
  pub served : last_served l < 12

either : (P : Account → Type 0) (t : Bool) (a b : Account) → (t ≡ true → P a) → P b → P (cond t a b)
either P true a b p q = p refl
either P false a b p q = q

-- an account that is not overdrawn, and of one of the twelve heads where something is owed to it
record Fine (h : ℕ) (a : Account) : Type 0 where
  most : a.granted ≤ a.told
  within : a.granted < a.told → h < 12

module _ (l : List Event) (S : Sound l) where
  fine : (h : ℕ) → Fine h (account l h)
  fine h = record { most = S.most h; within = S.within h }

  sound_with : (e : Event) → ((h : ℕ) → Fine h (account (e ∷ l) h)) → last_served (e ∷ l) < 12 → Sound (e ∷ l)
  sound_with e f s = record { most = λ h. (f h).most; within = λ h. (f h).within; served = s }

  sound_told : (g n : ℕ) → g < 12 → Sound (tell_event g n ∷ l)
  unfolding account last_served
  sound_told g n d =
      sound_with (tell_event g n)
      (λ h. either (Fine h) (eqb h g) _ (account l h) (λ e. record { most = omega arith; within = λ w. omega (arith, eqb-true h g e) }) (fine h))
      S.served

  sound_granted : (g n : ℕ) → g < 12 → n ≤ owed l g → Sound (grant_event (record { head = g; samples = n }) ∷ l)
  unfolding account last_served
  sound_granted g n d m =
      sound_with (grant_event (record { head = g; samples = n }))
      (λ h.
      either (Fine h) (eqb h g) (granted_more (account l h) n) (account l h)
      (λ e. let i = eqb-true h g e in record { most = omega (arith, S.most h, rw (← i) at m); within = λ w. omega (arith, i) })
      (fine h))
      (omega (arith, S.served))

-- ---- the calls

-- a telling that is accepted is one of the twelve heads, and of a head that does not wait
pub accepts : (h : ℕ) (b : Bool) (n : ℕ) → tell_refusal h b n ≡ 0 → (h < 12) × (b ≡ false)
accepts h b n e =
    let a = then_zero (head_refusal h) (waiting_refusal b then samples_refusal n) e in
    let w = then_zero (waiting_refusal b) (samples_refusal n) a.1 in
    (go (ltb 11 h) refl a.0, still b w.0)
  where
    go : (t : Bool) → ltb 11 h ≡ t → ◌≡◌ {A = ℕ} (cond t 1 0) 0 → h < 12
    go true q z = absurd (omega arith)
    go false q z = omega (arith, ltb-false 11 h q)

    still : (t : Bool) → waiting_refusal t ≡ 0 → t ≡ false
    still true z = absurd (omega arith)
    still false z = refl

-- what a turn grants: nothing where no head waits, and else what is due
pub data Turned (l : List Event) : Option Grant → Type 0 where
  idle : ((h : ℕ) → Waits l h → ⊥) → Turned l None
  grants : {h : ℕ} → h < 12 → Due l (grant_for l h) → Turned l (Some (grant_for l h))

module _ (l : List Event) (S : Sound l) where
  by_nearest : (r : Option ℕ) → Nearest (last_served l) (waits l) r → Turned l (option_map (grant_for l) r)
  by_nearest None (nobody z) = idle (λ h w. clash (sym (z h (S.within h w)) ∙ lt-ltb _ _ w))
  by_nearest (Some h) (somebody d t n) =
      grants d (record { waits = ltb-true _ _ t; samples = omega arith; nearest = λ g w. n g (S.within g w) (lt-ltb _ _ w) })

  pub turned : Turned l (next_grant l)
  turned =
      let e : last_served l % 12 ≡ last_served l = omega (arith, S.served) in
      by_nearest _ (rw e at (nearest (last_served l) (waits l)))

  sound_turned : {x : Option Grant} → Turned l x → Sound (granted_with l x)
  sound_turned (idle z) = S
  sound_turned (grants {h} d u) = sound_granted l S h (share (owed l h)) d (omega arith)

  sound_telling : (h n m : ℕ) → tell_refusal h (waits l h) n ≡ m → Sound (told_with l h n m)
  sound_telling h n zero e = sound_told l S h n (accepts h (waits l h) n e).0
  sound_telling h n (suc m) e = S

  pub sound_advance : (c : Call) → Sound (advance l c)
  sound_advance (tell h n) = sound_telling h n _ refl
  sound_advance turn = sound_turned turned

pub sound_none : Sound []
unfolding account last_served
sound_none = record { most = λ h. omega arith; within = λ h w. omega arith; served = omega arith }

pub sound_all : (l : List Event) (cs : List Call) → Sound l → Sound (advance_all l cs)
unfolding advance_all
sound_all l [] S = S
sound_all l (c ∷ cs) S = sound_all (advance l c) cs (sound_advance l S c)
