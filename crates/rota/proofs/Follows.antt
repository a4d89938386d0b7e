-- A rota is the picture of its history. Assumes nothing.
use Prim.Native.Nat.{ℕ, zero, suc, ◌-◌, ◌<◌}
use mathlib.Core.Path.{◌≡◌, refl, ap, ◌∙◌}
use mathlib.Core.Bool.{Bool, true, false, cond}
use mathlib.Core.List.{List, [], ◌∷◌}
use native.Mathlib.Omega.{arith}
use borrow.Author.Tests.{ltb-true, ltb-false, eqb-true, eq-eqb, ne_eqb}
use lib.Dec.{eqb, ltb, eqb-suc-zero}
use Rattle.std.specs.Prelude.{Option, None, Some, IfSome, option_map}
use Rattle.lists.specs.Table.{table}
use Rattle.lists.proofs.Tables.{get_or_table, table_ext, set_table}
use Rattle.rota.specs.Call.{Call, tell, turn, of_tell, of_turn, refused}
use Rattle.rota.specs.Rota.{fresh_rota, left_at, has_some, waits_in, with_left, tell_refusal, tell_done, share, turn_done, perform}
use Rattle.rota.specs.History.{Event, tell_event, grant_event, account, waits, owed, last_served, grant_for, reply_to, call_number, told_with, granted_with, advance}
use Rattle.rota.specs.Follows.{rota_for, RotaFollows}
use Rattle.rota.proofs.Ring.{first_below, first_same}

module _ (l : List Event) where
  -- the picture has left for a head what it is owed
  pub left_is : (h : ℕ) → h < 12 → left_at (rota_for l) h ≡ owed l h
  left_is h d = get_or_table 12 (owed l) h 0 d

  -- which is something where the head waits
  owes : (h : ℕ) → has_some (owed l h) ≡ waits l h
  owes h = go (waits l h) refl
    where
      go : (b : Bool) → waits l h ≡ b → has_some (owed l h) ≡ b
      go true q = let w = ltb-true (account l h).granted (account l h).told q in rw (ne_eqb (owed l h) 0 (λ e. omega arith)) refl
      go false q = let w = ltb-false (account l h).granted (account l h).told q in rw (eq-eqb (owed l h) 0 (omega arith)) refl

  pub waits_is : (h : ℕ) → h < 12 → waits_in (rota_for l) h ≡ waits l h
  waits_is h d = ap has_some (left_is h d) ∙ owes h

  -- ---- a telling

  same_refusal : (h n : ℕ) → tell_refusal h (waits_in (rota_for l) h) n ≡ tell_refusal h (waits l h) n
  same_refusal h n = go (ltb 11 h) refl
    where
      go : (b : Bool) → ltb 11 h ≡ b → tell_refusal h (waits_in (rota_for l) h) n ≡ tell_refusal h (waits l h) n
      go true q = rw q refl
      go false q = rw (waits_is h (omega (arith, ltb-false 11 h q))) refl

  owed_told : (h n j : ℕ) → cond (eqb j h) n (owed l j) ≡ owed (tell_event h n ∷ l) j
  unfolding account
  owed_told h n j = go (eqb j h) refl
    where
      go : (b : Bool) → eqb j h ≡ b → cond b n (owed l j) ≡ owed (tell_event h n ∷ l) j
      go true q = rw q (omega arith)
      go false q = rw q refl

  left_told : (h n : ℕ) → with_left (rota_for l) h n ≡ rota_for (tell_event h n ∷ l)
  unfolding last_served
  left_told h n =
      ap (λ left. record { left = left; last = last_served l })
      (set_table 12 (owed l) h n ∙ table_ext 12 (λ j. cond (eqb j h) n (owed l j)) (owed (tell_event h n ∷ l)) (λ j d. owed_told h n j))

  told_done : (h n m : ℕ) → tell_done (rota_for l) h n m ≡ record { reply = of_tell m; rota = rota_for (told_with l h n m) }
  told_done h n zero = ap (λ r. record { reply = of_tell 0; rota = r }) (left_told h n)
  told_done h n (suc m) = rw eqb-suc-zero refl

  -- ---- a turn

  owed_granted : (h n j : ℕ) → cond (eqb j h) (owed l h - n) (owed l j) ≡ owed (grant_event (record { head = h; samples = n }) ∷ l) j
  unfolding account
  owed_granted h n j = go (eqb j h) refl
    where
      go : (b : Bool) → eqb j h ≡ b → cond b (owed l h - n) (owed l j) ≡ owed (grant_event (record { head = h; samples = n }) ∷ l) j
      go true q = rw (q, ← eqb-true j h q) (omega arith)
      go false q = rw q refl

  granted_done : (r : Option ℕ) → IfSome r (λ h. h < 12)
      → turn_done (rota_for l) r ≡ record { reply = of_turn (option_map (grant_for l) r); rota = rota_for (granted_with l (option_map (grant_for l) r)) }
  unfolding last_served
  granted_done None d = refl
  granted_done (Some h) d =
      rw (left_is h d)
      (ap (λ left. record { reply = of_turn (Some (grant_for l h)); rota = record (rota_for (grant_event (grant_for l h) ∷ l)) { left = left } })
      (set_table 12 (owed l) h (owed l h - share (owed l h))
      ∙ table_ext 12 (λ j. cond (eqb j h) (owed l h - share (owed l h)) (owed l j)) (owed (grant_event (grant_for l h) ∷ l)) (λ j d. owed_granted h (share (owed l h)) j)))

fresh_is : fresh_rota ≡ rota_for []
unfolding table account last_served
fresh_is = refl

call_is : (l : List Event) (c : Call) → perform (rota_for l) c ≡ record { reply = reply_to l c; rota = rota_for (advance l c) }
unfolding perform
call_is l (tell h n) = rw (same_refusal l h n) (told_done l h n (tell_refusal h (waits l h) n))
call_is l turn = ap (turn_done (rota_for l)) (first_same _ _ _ (waits_is l)) ∙ granted_done l _ (first_below _ _)

told_nothing : (l : List Event) (h n m : ℕ) → (m ≡ 0 → ⊥) → told_with l h n m ≡ l
told_nothing l h n zero z = absurd (z refl)
told_nothing l h n (suc m) z = refl

refused_is : (l : List Event) (c : Call) → (call_number l c ≡ 0 → ⊥) → (reply_to l c ≡ refused (call_number l c) c) × (advance l c ≡ l)
refused_is l (tell h n) z = (refl, told_nothing l h n _ z)
refused_is l turn z = absurd (z refl)

pub rota_follows : RotaFollows
rota_follows = record { fresh = fresh_is; call = call_is; refused = refused_is }
