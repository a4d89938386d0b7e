-- The count of a history, event by event. Assumes nothing.
use Prim.Native.Nat.{ℕ, ◌+◌, ◌≤◌}
use mathlib.Core.Path.{◌≡◌, refl, ap, sym, ◌∙◌}
use mathlib.Core.Bool.{Bool, true, false, cond}
use mathlib.Core.List.{List, [], ◌∷◌, ◌++◌}
use native.Mathlib.Omega.{arith}
use borrow.Author.Tests.{ltb-false, eqb-true, eqb-false}
use lib.Dec.{ltb, eqb}
use Rattle.heads.specs.Snapshot.{greatest_count, count_refusal, run_number}
use Rattle.heads.specs.History.{Event, load_event, run_event, rest_event, restored_event, since_with, since_from, samples_in, count_of, count_with, snapshot_with, snapshot_from}
use Rattle.heads.specs.Counts.{CountsAreSums}
use Rattle.heads.specs.declared.Snapshot.{Snapshot}

-- ---- 18

-- a run that the count does not refuse fits
room : (k n : ℕ) → count_refusal k n ≡ 0 → k + n ≤ greatest_count
room k n e = go (ltb greatest_count (k + n)) refl e
  where
    go : (b : Bool) → ltb greatest_count (k + n) ≡ b → cond {A = ℕ} b 18 0 ≡ 0 → k + n ≤ greatest_count
    go true q e = absurd (omega arith)
    go false q e = ltb-false greatest_count (k + n) q

-- a run that is accepted has its form, and fits. This goes by no order of the two, as `then-zero` would, so that the rows alone refuse a wrong
-- one
pub run_zero : (o k n : ℕ) → run_number o k n ≡ 0 → (o ≡ 0) × (k + n ≤ greatest_count)
run_zero o k n h = go (eqb o 0) refl (eqb (count_refusal k n) 0) refl
  where
    go : (a : Bool) → eqb o 0 ≡ a → (b : Bool) → eqb (count_refusal k n) 0 ≡ b → (o ≡ 0) × (k + n ≤ greatest_count)
    go true p true q = (eqb-true o 0 p, room k n (eqb-true _ _ q))
    go true p false q = absurd (eqb-false (count_refusal k n) 0 q (simp (p, q) at h))
    go false p true q = absurd (eqb-false o 0 p (simp (p, q) at h))
    go false p false q = let a = eqb-false o 0 p in let b = eqb-false (count_refusal k n) 0 q in let z = simp (p, q) at h in absurd (search)

-- ---- counts of histories

samples_append : (l m : List Event) → samples_in (l ++ m) ≡ samples_in l + samples_in m
unfolding samples_in
samples_append [] m = omega arith
samples_append (load_event e ∷ l) m = samples_append l m
samples_append (run_event form us ∷ l) m = let h = samples_append l m in omega arith
samples_append (rest_event ∷ l) m = samples_append l m
samples_append (restored_event f n ∷ l) m = let h = samples_append l m in omega arith

-- the samples since the last load, one event later
counted : (l : List Event) (i : Event) → samples_in (since_with l i) ≡ count_with (samples_in l) i
unfolding samples_in
counted l (load_event e) = refl
counted l (run_event form us) = let h = samples_append l (run_event form us ∷ []) in omega arith
counted l rest_event = let h = samples_append l (rest_event ∷ []) in omega arith
counted l (restored_event f n) = omega arith

since_snoc : (m l : List Event) (i : Event) → since_from m (l ++ i ∷ []) ≡ since_with (since_from m l) i
unfolding since_from
since_snoc m [] i = refl
since_snoc m (j ∷ l) i = since_snoc (since_with m j) l i

pub count_snoc : (l : List Event) (i : Event) → count_of (l ++ i ∷ []) ≡ count_with (count_of l) i
count_snoc l i = rw since_snoc (counted (since_from [] l) i)

counts : (s : Snapshot) (m l : List Event) → s.count ≡ samples_in m → (snapshot_from s l).count ≡ samples_in (since_from m l)
unfolding snapshot_from since_from
counts s m [] e = e
counts s m (i ∷ l) e = counts (snapshot_with s i) (since_with m i) l (ap (λ (n : ℕ). count_with n i) e ∙ sym (counted m i))

pub count_is : CountsAreSums
unfolding samples_in
count_is l = counts _ [] l refl
