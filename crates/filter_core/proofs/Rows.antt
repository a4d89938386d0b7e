-- The first number whose case holds: there is one at most, and a check that goes by the cases in turn finds it. Assumes nothing.
use Prim.Native.Nat.{ℕ}
use mathlib.Core.Path.{◌≡◌, refl}
use mathlib.Core.Bool.{Bool, true, false, cond}
use mathlib.Core.List.{List, [], ◌∷◌}
use borrow.Author.Tests.{eqb-true, eqb-false, ne_eqb}
use lib.Dec.{eqb}
use lib.Ieee.{Float, lt}
use native.Mathlib.Omega.{arith}
use Rattle.filter_core.specs.Refusal.{exact_lowest, frequency_refusal}
use Rattle.filter_core.specs.Rows.{◌then◌, First, none, here, later, Exactly, StepCase, no_step, FrequencyCase, below_lowest, RefusalsByRows}
use Rattle.filter_core.specs.declared.FrequencyApproximation.{FrequencyApproximation}
use Rattle.filter_core.specs.declared.FrequencyApproximation.TheVariants.{Exact, Accurate, Fast, Dirty, Series}

-- ---- the first refusal of two

-- no refusal of two is none of each
pub then_zero : (a b : ℕ) → (a then b) ≡ 0 → (a ≡ 0) × (b ≡ 0)
then_zero a b h = go (eqb a 0) refl h
  where
    go : (t : Bool) → eqb a 0 ≡ t → cond (eqb a 0) b a ≡ 0 → (a ≡ 0) × (b ≡ 0)
    go true q h = (eqb-true a 0 q, rw q at h)
    go false q h = absurd (eqb-false a 0 q (rw q at h))

pub some_then : (a b : ℕ) → (a ≡ 0 → ⊥) → a ≡ (a then b)
some_then a b h = rw (ne_eqb a 0 h) refl

-- ---- the first number of a list

module _ {case : ℕ → Type 0} where
  -- a case is decided once
  pub once : {ns : List ℕ} {r q : ℕ} → First case ns r → First case ns q → r ≡ q
  once none none = refl
  once (here p) (here q) = refl
  once (here p) (later q g) = absurd (q p)
  once (later p f) (here q) = absurd (p q)
  once (later p f) (later q g) = once f g

  pub exactly : {ns : List ℕ} {n : ℕ} → First case ns n → Exactly case ns n
  exactly f = record { is = f; only = λ r g. once g f }

  -- the case of a number that is passed does not hold
  pub passed : {n : ℕ} {ns : List ℕ} {r : ℕ} → First case (n ∷ ns) r → (r ≡ n → ⊥) → (case n → ⊥) × First case ns r
  passed (here p) z = absurd (z refl)
  passed (later p f) z = (p, f)

  -- the case of a number that is given holds
  pub given : {ns : List ℕ} {r : ℕ} → First case ns r → (r ≡ 0 → ⊥) → case r
  given none z = absurd (z refl)
  given (here p) z = p
  given (later q f) z = given f z

  -- a number by a test, and else what comes after it
  pub by_test : {ns : List ℕ} {n r : ℕ} (b : Bool) → (b ≡ true → case n) → (b ≡ false → case n → ⊥) → (b ≡ false → First case ns r)
      → First case (n ∷ ns) (cond b n r)
  by_test true p q f = here (p refl)
  by_test false p q f = later (q refl) (f refl)

-- ---- a check: what a step answers, and its steps in turn

-- x is n where P holds, and 0 where it does not
pub data Step (P : Type 0) (n : ℕ) : ℕ → Type 0 where
  yes : P → Step P n n
  no : (P → ⊥) → Step P n 0

-- by a test
pub step_if : {P : Type 0} (n : ℕ) (b : Bool) → (b ≡ true → P) → (b ≡ false → P → ⊥) → Step P n (cond b n 0)
step_if n true p q = yes (p refl)
step_if n false p q = no (q refl)

-- a step that refuses has its case
pub step_given : {P : Type 0} {n x : ℕ} → Step P n x → (x ≡ 0 → ⊥) → P × (x ≡ n)
step_given (yes p) z = (p, refl)
step_given (no q) z = absurd (z refl)

-- for another statement of its case
pub step_to : {P Q : Type 0} {n x : ℕ} → (P → Q) → (Q → P) → Step P n x → Step Q n x
step_to f g (yes p) = yes (f p)
step_to f g (no q) = no (λ p. q (g p))

-- the steps after one are asked only where its case does not hold
pub first_then : {case : ℕ → Type 0} {n x : ℕ} {ns : List ℕ} {y : ℕ} → (n ≡ 0 → ⊥) → Step (case n) n x → ((case n → ⊥) → First case ns y)
    → First case (n ∷ ns) (x then y)
first_then {n = n} d (yes p) f = rw (ne_eqb n 0 d) (here p)
first_then d (no q) f = later q (f q)

pub first_last : {case : ℕ → Type 0} {n x : ℕ} → Step (case n) n x → First case (n ∷ []) x
first_last (yes p) = here p
first_last (no q) = later q none

-- ---- the rows of the filter calls

step_there : {d : ℕ} → (d ≡ 0 → ⊥) → StepCase d 10 → ⊥
step_there z (no_step e) = z e

not_below : {f : Float} → lt f exact_lowest ≡ false → FrequencyCase f Exact 11 → ⊥
not_below {f} e (below_lowest p) = let z : ◌≡◌ {A = ℕ} 0 1 = cc in omega arith

-- where Exact is asked
pub exact_step : (f : Float) → Step (FrequencyCase f Exact 11) 11 (frequency_refusal f Exact)
exact_step f = step_if 11 (lt f exact_lowest) below_lowest not_below

by_frequency : (f : Float) (a : FrequencyApproximation) → First (FrequencyCase f a) (11 ∷ []) (frequency_refusal f a)
by_frequency f Exact = first_last (exact_step f)
by_frequency f Accurate = later {n = 11} (elim [ ]) none
by_frequency f Fast = later {n = 11} (elim [ ]) none
by_frequency f Dirty = later {n = 11} (elim [ ]) none
by_frequency f Series = later {n = 11} (elim [ ]) none

pub refusals_by_rows : RefusalsByRows
refusals_by_rows =
    record {
      step = λ d. exactly (first_last (step_if 10 (eqb d 0) (λ e. no_step (eqb-true d 0 e)) (λ e. step_there (eqb-false d 0 e))));
      frequency = λ f a. exactly (by_frequency f a);
    }
