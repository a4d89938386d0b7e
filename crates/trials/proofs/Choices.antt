-- How a place among lists is walked down to its list, call by call. Assumes nothing.
use Prim.Native.Nat.{ℕ, ◌+◌, ◌-◌, ◌≤◌, ◌<◌}
use mathlib.Core.Path.{◌≡◌, refl, ap, sym, subst, ◌∙◌}
use mathlib.Core.Bool.{Bool, true, false, cond}
use mathlib.Core.List.{List, [], ◌∷◌, ◌++◌, map}
use native.Mathlib.Omega.{arith}
use lib.ListN.{length, get_or, drop, length-append, length-map}
use Rattle.std.specs.Prelude.{Option, None, Some, option_map, ltb}
use Rattle.std.proofs.lemmas.List.{append_assoc, append-nil, drop_more, drop_all, get_or_append_left, get_or-append_right, get_or-map}
use Rattle.std.proofs.lemmas.Bool.{lt-ltb, le-ltb, ltb-true, ltb-false}
use Rattle.std.proofs.lemmas.Option.{none-some, same_Some}
use Rattle.trials.proofs.Counts.{behind, none_behind, routines_more}
use Rattle.trials.specs.Calls.{calls}
use Rattle.trials.specs.Counting.{after, empty, begun, routines_from, step_among}
use Rattle.trials.specs.declared.TrialCall.{TrialCall}
use Rattle.trials.specs.declared.State.{State}
use Rattle.trials.specs.declared.Step.{Step}

abbrev step_of : TrialCall → State → ℕ → Step
step_of c t p = record { call = c; next = t; place = p }

-- as the loop of `next_step` goes: r is what it comes to from the i-th call on
module _ (s : State) (n p : ℕ) (d : TrialCall) {i : ℕ} {o : Option State} {m : ℕ} {r : Option Step} (w : step_among s n (drop i calls) p ≡ r) (h : i < 5) (e : o ≡ after s (get_or calls i d)) (f : m ≡ length (routines_from o n)) where
  more : r ≡ cond (ltb p m) (option_map (λ t. step_of (get_or calls i d) t p) o) (step_among s n (drop (i + 1) calls) (p - m))
  unfolding step_among
  more = sym w ∙ rw (drop_more calls i d h, f, e) refl

  pub step_here : {t : State} → p < m → o ≡ Some t → Some (step_of (get_or calls i d) t p) ≡ r
  step_here l g = rw (more, lt-ltb p m l, g) refl

  pub step_refused : p < m → o ≡ None → None ≡ r
  step_refused l g = rw (more, lt-ltb p m l, g) refl

  pub step_later : m ≤ p → step_among s n (drop (i + 1) calls) (p - m) ≡ r
  step_later l = rw (more, le-ltb p m l) refl

pub step_none : (s : State) (n i p : ℕ) (r : Option Step) → step_among s n (drop i calls) p ≡ r → 5 ≤ i → None ≡ r
unfolding step_among
step_none s n i p r w h = rw (drop_all i calls h) at w

-- ---- to which list a step leads

-- what a step from the place p leads to, where the first call is one of cs and n more follow
record Leads (s : State) (n : ℕ) (cs : List TrialCall) (p : ℕ) (r : Step) : Type 0 where
  found : step_among s n cs p ≡ Some r
  inside : r.place < length (routines_from (Some r.next) n)
  list : get_or (begun (behind s n) cs) p [] ≡ r.call ∷ get_or (routines_from (Some r.next) n) r.place []

module _ (s : State) (n : ℕ) where
  long : (c : TrialCall) → length (map (λ l. c ∷ l) (behind s n c)) ≡ length (behind s n c)
  long c = length-map (behind s n c) (λ l. c ∷ l)

  leads_here :
      (c : TrialCall) (cs : List TrialCall) (p : ℕ) (t : State)
      → p < length (behind s n c)
      → after s c ≡ Some t
      → Leads s n (c ∷ cs) p (step_of c t p)
  unfolding step_among
  leads_here c cs p t h e =
      record {
        found = rw (lt-ltb p (length (behind s n c)) h, e) refl;
        inside = rw e at h;
        list =
            get_or_append_left (map (λ l. c ∷ l) (behind s n c)) (begun (behind s n) cs) [] p (omega (arith, long c))
            ∙ (get_or-map (λ l. c ∷ l) (behind s n c) p [] [] h ∙ ap (λ (o : Option State). c ∷ get_or (routines_from o n) p []) e);
      }

  leads_later :
      (c : TrialCall) (cs : List TrialCall) (p : ℕ) (r : Step)
      → length (behind s n c) ≤ p
      → Leads s n cs (p - length (behind s n c)) r
      → Leads s n (c ∷ cs) p r
  unfolding step_among
  leads_later c cs p r h q =
      record {
        found = rw (le-ltb p (length (behind s n c)) h) q.found;
        inside = q.inside;
        list = get_or-append_right (map (λ l. c ∷ l) (behind s n c)) (begun (behind s n) cs) (length (behind s n c)) p [] (long c) h ∙ q.list;
      }

  leads : (cs : List TrialCall) (p : ℕ) → p < length (begun (behind s n) cs) → (r : Step) × Leads s n cs p r
  leads [] p h = absurd (omega arith)
  leads (c ∷ cs) p h = go (ltb p (length (behind s n c))) refl (after s c) refl (leads cs (p - length (behind s n c)))
    where
      go : (b : Bool) → ltb p (length (behind s n c)) ≡ b → (o : Option State) → after s c ≡ o
          → (p - length (behind s n c) < length (begun (behind s n) cs) → (r : Step) × Leads s n cs (p - length (behind s n c)) r)
          → (r : Step) × Leads s n (c ∷ cs) p r
      go true l None e next = absurd (omega (arith, ltb-true p (length (behind s n c)) l, none_behind (after s c) n e))
      go true l (Some t) e next = (step_of c t p, leads_here c cs p t (ltb-true p (length (behind s n c)) l) e)
      go false l o e next =
          let past = ltb-false p (length (behind s n c)) l in
          let k = next (omega (arith, long c, length-append (map (λ l. c ∷ l) (behind s n c)) (begun (behind s n) cs))) in
          (k.0, leads_later c cs p k.0 past k.1)

-- ---- as `list_at` walks

-- cs is walked, and k calls are left, at the place p among the lists that go on from s
pub record Walked (n place : ℕ) (cs : List TrialCall) (s : State) (k p : ℕ) : Type 0 where
  pub rest : cs ++ get_or (routines_from (Some s) k) p [] ≡ get_or (routines_from (Some empty) n) place []
  pub inside : p < length (routines_from (Some s) k)
  pub long : length cs + k ≡ n

pub walked_none : (n place : ℕ) → place < length (routines_from (Some empty) n) → Walked n place [] empty n place
walked_none n place h = record { rest = refl; inside = h; long = omega arith }

module _ {n place : ℕ} {cs : List TrialCall} {s : State} {k p : ℕ} (w : Walked n place cs s k p) where
  pub walked_all : k ≤ 0 → cs ≡ get_or (routines_from (Some empty) n) place []
  unfolding routines_from
  walked_all z =
      let e : k ≡ 0 = omega arith in
      let q : p ≡ 0 = omega (arith, rw e at w.inside) in
      sym (append-nil cs) ∙ rw (e, q) at w.rest

  led : 0 < k → (r : Step) × Leads s (k - 1) calls p r
  led h = leads s (k - 1) calls p (rw (routines_more s k h) at w.inside)

  walked_by : 0 < k → (r : Step) → Leads s (k - 1) calls p r → Walked n place (cs ++ r.call ∷ []) r.next (k - 1) r.place
  walked_by h r q =
      record {
        rest =
            rw
            (append_assoc cs (r.call ∷ []) (get_or (routines_from (Some r.next) (k - 1)) r.place []), ← q.list, ← routines_more s k h)
            w.rest;
        inside = q.inside;
        long = omega (arith, w.long, length-append cs (r.call ∷ []));
      }

  pub walked_more : (r : Step) (ds : List TrialCall) → 0 < k → Some r ≡ step_among s (k - 1) calls p → ds ≡ cs ++ r.call ∷ [] → Walked n place ds r.next (k - 1) r.place
  walked_more r ds h e f =
      let q = led h in
      let same : r ≡ q.0 = same_Some r q.0 (e ∙ q.1.found) in
      rw f (subst (λ (x : Step). Walked n place (cs ++ x.call ∷ []) x.next (k - 1) x.place) (sym same) (walked_by h q.0 q.1))

  pub walked_not_none : 0 < k → None ≡ step_among s (k - 1) calls p → ⊥
  walked_not_none h e = none-some _ (e ∙ (led h).1.found)
