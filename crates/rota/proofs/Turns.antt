-- While a head waits, each turn names it or comes nearer to it in the ring: the number of places to go falls. Assumes nothing.
use Prim.Native.Nat.{ℕ, zero, suc, ◌<◌, ◌≤◌}
use mathlib.Core.Path.{◌≡◌, refl, ap, sym, ◌∙◌}
use mathlib.Core.Bool.{Bool, true, false}
use mathlib.Core.Logic.{◌⊎◌, inl, inr, ⊎_elim}
use mathlib.Core.List.{List, [], ◌∷◌}
use native.Mathlib.Omega.{arith}
use borrow.Author.Tests.{eqb-true, eqb-false, ne_eqb, lt-ltb, clash}
use lib.Dec.{eqb}
use lib.ListN.{length}
use Rattle.std.specs.Prelude.{Option, None, Some}
use Rattle.std.proofs.lemmas.Option.{none-some}
use Rattle.rota.specs.Ring.{places}
use Rattle.rota.specs.Call.{Call, tell, turn}
use Rattle.rota.specs.Rota.{tell_refusal, share}
use Rattle.rota.specs.History.{Event, grant_event, account, Waits, waits, owed, last_served, grant_for, told_with, granted_with, advance}
use Rattle.rota.specs.Follows.{rota_for}
use Rattle.rota.specs.Fair.{replies_from, turns_in, grants_in, grants_from, Names, NamedWithin}
use Rattle.rota.specs.declared.Grant.{Grant}
use Rattle.rota.proofs.Follows.{rota_follows}
use Rattle.rota.proofs.Sound.{Sound, accepts, Turned, idle, grants, turned, sound_advance}

-- The grants of some turns, of which the head last served is p, while h waits: each names another head, from which there are fewer places to
-- h, until one names h. What they name after that is left open.
pub data Way (h : ℕ) : ℕ → List (Option Grant) → Type 0 where
  ended : {p : ℕ} → Way h p []
  named : {p : ℕ} {gs : List (Option Grant)} (n : ℕ) → Way h p (Some (record { head = h; samples = n }) ∷ gs)
  passed : {p : ℕ} {gs : List (Option Grant)} (x n : ℕ) → places x h < places p h → Way h x gs → Way h p (Some (record { head = x; samples = n }) ∷ gs)

-- from a head x that stands before h there are fewer places to h
falls : (p x h : ℕ) → p < 12 → x < 12 → h < 12 → places p x ≤ places p h → (x ≡ h → ⊥) → places x h < places p h
falls p x h lp lx lh le d = omega arith

-- ---- one call

module _ (l : List Event) (h : ℕ) (w : Waits l h) where
  -- a telling leaves a head that waits, and whom the next turn comes from
  tell_waits : (g n m : ℕ) → tell_refusal g (waits l g) n ≡ m → Waits (told_with l g n m) h
  unfolding account
  tell_waits g n zero e =
      let d : h ≡ g → ⊥ = λ i. clash (sym (accepts g (waits l g) n e).1 ∙ sym (ap (waits l) i) ∙ lt-ltb _ _ w) in
      rw (ne_eqb h g d) w
  tell_waits g n (suc m) e = w

  tell_last : (g n m : ℕ) → last_served (told_with l g n m) ≡ last_served l
  unfolding last_served
  tell_last g n zero = refl
  tell_last g n (suc m) = refl

  grant_waits : (x : Grant) → (h ≡ x.head → ⊥) → Waits (grant_event x ∷ l) h
  unfolding account
  grant_waits x d = rw (ne_eqb h x.head d) w

-- ---- a list of calls

module _ (h : ℕ) where
  way_turn : (l : List Event) → Sound l → Waits l h → (x : Option Grant) → Turned l x → (gs : List (Option Grant))
      → (Waits (granted_with l x) h → Way h (last_served (granted_with l x)) gs)
      → Way h (last_served l) (x ∷ gs)
  unfolding last_served
  way_turn l S w None (idle z) gs on = absurd (z h w)
  way_turn l S w (Some x) (grants {h = g} d u) gs on = go (eqb h g) refl
    where
      go : (b : Bool) → eqb h g ≡ b → Way h (last_served l) (Some (grant_for l g) ∷ gs)
      go true q = rw (eqb-true h g q) (named (share (owed l g)))
      go false q =
          let e : h ≡ g → ⊥ = eqb-false h g q in
          passed g (share (owed l g)) (falls (last_served l) g h S.served d (S.within h w) (u.nearest h w) (λ i. e (sym i)))
          (on (grant_waits l h w (grant_for l g) e))

  pub way : (l : List Event) → Sound l → Waits l h → (ds : List Call) → Way h (last_served l) (grants_from (rota_for l) ds)
  unfolding grants_in replies_from
  way l S w [] = ended
  way l S w (tell g n ∷ ds) =
      rw (rota_follows.call l (tell g n), ← tell_last l h w g n (tell_refusal g (waits l g) n))
      (way (advance l (tell g n)) (sound_advance l S (tell g n)) (tell_waits l h w g n (tell_refusal g (waits l g) n) refl) ds)
  way l S w (turn ∷ ds) =
      rw (rota_follows.call l turn)
      (way_turn l S w _ (turned l S) _ (λ v. way (advance l turn) (sound_advance l S turn) v ds))

pub turns_answered : (l : List Event) (ds : List Call) → length (grants_from (rota_for l) ds) ≡ turns_in ds
unfolding grants_in replies_from turns_in
turns_answered l [] = refl
turns_answered l (tell h n ∷ ds) = rw (rota_follows.call l (tell h n)) (turns_answered (advance l (tell h n)) ds)
turns_answered l (turn ∷ ds) = rw (rota_follows.call l turn) (ap suc (turns_answered (advance l turn) ds))

-- ---- what a way comes to

named_later : (g : Option Grant) (gs : List (Option Grant)) (j k h : ℕ) → j < k → NamedWithin gs j h → NamedWithin (g ∷ gs) k h
named_later g gs j k h l w = (suc w.0, omega (arith, w.1), w.2)

-- as many turns as there are places to go name h
pub soon : {h p : ℕ} {gs : List (Option Grant)} → Way h p gs → places p h ≤ length gs → NamedWithin gs (places p h) h
soon ended l = absurd (omega arith)
soon (named n) l = (0, omega arith, (n, refl))
soon {h} {p} (passed {gs = gs} x n f w) l = named_later (Some (record { head = x; samples = n })) gs (places x h) (places p h) h f (soon w (omega arith))

-- the head in a grant
abbrev head_or : Option Grant → ℕ
head_or None = 0
head_or (Some x) = x.head

module _ {h : ℕ} (g : ℕ) (other : g ≡ h → ⊥) where
  -- another head that is named before h stands nearer to h than p
  nearer : {p : ℕ} {gs : List (Option Grant)} → Way h p gs → (j : ℕ) → Names gs j g → NamedWithin gs j h ⊎ (places g h < places p h)
  nearer ended j v = absurd (none-some _ v.1)
  nearer (named n) zero v = absurd (other (sym (ap head_or v.1)))
  nearer (named n) (suc j) v = inl (0, omega arith, (n, refl))
  nearer (passed x n f w) zero v = inr (rw (← ap head_or v.1) f)
  nearer (passed {gs = gs} x n f w) (suc j) v =
      ⊎_elim (λ b. inl (named_later _ gs j (suc j) h (omega arith) b)) (λ b. inr (omega arith)) (nearer w j v)

  -- so it is not named again before h
  pub once : {p : ℕ} {gs : List (Option Grant)} → Way h p gs → (i j : ℕ) → i < j → Names gs i g → Names gs j g → NamedWithin gs j h
  once ended i j l u v = absurd (none-some _ v.1)
  once (named n) i j l u v = (0, omega arith, (n, refl))
  once (passed x n f w) i zero l u v = absurd (omega arith)
  once (passed {gs = gs} x n f w) zero (suc j) l u v =
      ⊎_elim (λ b. named_later _ gs j (suc j) h (omega arith) b) (λ b. absurd (omega (arith, rw (← ap head_or u.1) at b))) (nearer w j v)
  once (passed {gs = gs} x n f w) (suc i) (suc j) l u v = named_later _ gs j (suc j) h (omega arith) (once w i j (omega arith) u v)
