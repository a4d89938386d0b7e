-- The refusal table of document 01: a call answers the first of its numbers whose case holds, and no other.
use Rattle.std.specs.Prelude.{ℕ, ◌≡◌, true, cond, List, [], ◌∷◌, eqb, Float}
use Rattle.std.specs.Float.Ieee.{lt}
use Rattle.filter_core.specs.Refusal.{step_refusal, exact_lowest, frequency_refusal}
use Rattle.filter_core.specs.declared.FrequencyApproximation.{FrequencyApproximation}
use Rattle.filter_core.specs.declared.FrequencyApproximation.TheVariants.{Exact}

-- the first refusal of two; 0 is none
infixr 20 ◌then◌
abbrev pub ◌then◌ : ℕ → ℕ → ℕ
◌then◌ a b = cond (eqb a 0) b a

-- the first number of a list whose case holds; 0 where none does
pub data First (case : ℕ → Type 0) : List ℕ → ℕ → Type 0 where
  none : First case [] 0
  here : {n : ℕ} {ns : List ℕ} → case n → First case (n ∷ ns) n
  later : {n r : ℕ} {ns : List ℕ} → (case n → ⊥) → First case ns r → First case (n ∷ ns) r

-- the number has its row, and no other has one
pub record Only (row : ℕ → Type 0) (number : ℕ) : Type 0 where
  pub is : row number
  pub only : (r : ℕ) → row r → r ≡ number

-- the number is the first of the list `order` whose case holds, and no other is
abbrev pub Exactly : (ℕ → Type 0) → List ℕ → ℕ → Type 0
Exactly case order number = Only (First case order) number

-- ---- the rows of the filter calls

-- 10: a stride or a decimation of 0
pub data StepCase (d : ℕ) : ℕ → Type 0 where
  no_step : d ≡ 0 → StepCase d 10

-- 11, by 02 c: a frequency below -0.497 in Exact
pub data FrequencyCase (f : Float) : FrequencyApproximation → ℕ → Type 0 where
  below_lowest : lt f exact_lowest ≡ true → FrequencyCase f Exact 11

pub record RefusalsByRows : Type 0 where
  pub step : (d : ℕ) → Exactly (StepCase d) (10 ∷ []) (step_refusal d)
  pub frequency : (f : Float) (a : FrequencyApproximation) → Exactly (FrequencyCase f a) (11 ∷ []) (frequency_refusal f a)
