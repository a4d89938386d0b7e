-- The two calls' numbers, by their rows. Assumes nothing.
use Prim.Native.Nat.{ℕ, ◌*◌, ◌/◌, ◌%◌, ◌≤◌, ◌<◌}
use mathlib.Core.Path.{◌≡◌, refl}
use mathlib.Core.Bool.{Bool, true, false, cond}
use mathlib.Core.List.{List, [], ◌∷◌, ◌++◌}
use mathlib.Core.Logic.{⊎_elim}
use native.Mathlib.Omega.{arith}
use borrow.Author.Tests.{eqb-true, eqb-false, ltb-true, ltb-false}
use lib.Dec.{eqb, ltb}
use lib.ListN.{length, drop}
use Rattle.std.proofs.lemmas.Bool.{cases_lt, cases_eq}
use Rattle.filter_core.specs.Rows.{First, none, later}
use Rattle.filter_core.proofs.Rows.{once, passed, exactly, Step, yes, no, step_if, step_to, first_then, first_last}
use Rattle.lists.specs.Room.{room_refusal}
use Rattle.planes.specs.Planes.{arrange_refusal, arrange_number, arranged}
use Rattle.planes.specs.Rows.{ArrangeCase, partial, short, ArrangeByRows}

module _ (m places : ℕ) where
  partial_case : {r : ℕ} → r ≡ 19 → ArrangeCase m places r → (n : ℕ) → m ≡ 4 * n → ⊥
  partial_case e (partial h) = h
  partial_case e (short l) = absurd (omega arith)

  short_case : {r : ℕ} → r ≡ 12 → ArrangeCase m places r → places < m
  short_case e (partial h) = absurd (omega arith)
  short_case e (short l) = l

  partial_step : (t : Bool) → eqb (m % 4) 0 ≡ t → Step (ArrangeCase m places 19) 19 (cond t 0 19)
  partial_step true e = no (λ c. let w = eqb-true (m % 4) 0 e in partial_case refl c (m / 4) (omega arith))
  partial_step false e = yes (partial (λ n h. eqb-false (m % 4) 0 e (omega arith)))

  short_step : Step (ArrangeCase m places 12) 12 (room_refusal m places)
  short_step = step_to short (short_case refl) (step_if 12 (ltb places m) (ltb-true places m) (λ q h. omega (arith, ltb-false places m q)))

  pub number_row : First (ArrangeCase m places) (19 ∷ 12 ∷ []) (arrange_refusal m places)
  number_row = first_then (λ e. omega arith) (partial_step (eqb (m % 4) 0) refl) (λ w. first_last short_step)

  -- an accepted call has whole samples, and room for them
  pub record Taken : Type 0 where
    pub whole : m ≡ 4 * (m / 4)
    pub room : m ≤ places

  pub taken : arrange_refusal m places ≡ 0 → Taken
  taken z = go number_row z
    where
      go : {r : ℕ} → First (ArrangeCase m places) (19 ∷ 12 ∷ []) r → r ≡ 0 → Taken
      go f e =
          let p = passed f (λ w. omega arith) in
          let q = passed p.1 (λ w. omega arith) in
          record {
            whole = ⊎_elim (λ k. k) (λ k. absurd (p.0 (partial (λ n h. k (omega arith))))) (cases_eq m (4 * (m / 4)));
            room = ⊎_elim (λ k. absurd (q.0 (short k))) (λ k. k) (cases_lt places m);
          }

  pub accepted : m % 4 ≡ 0 → m ≤ places → arrange_refusal m places ≡ 0
  accepted w l = once number_row (later (λ c. partial_case refl c (m / 4) (omega arith)) (later (λ c. omega (arith, short_case refl c)) none))

-- the output after an accepted call
pub arranged_is : (f : ℕ → List ℕ → List ℕ) (s out : List ℕ) → arrange_number s out ≡ 0
    → arranged f s out ≡ f (length s / 4) s ++ drop (length s) out
arranged_is f s out z = rw z refl

pub arrange_by_rows : ArrangeByRows
arrange_by_rows =
    record {
      number = λ s out. exactly (number_row (length s) (length out));
      answer = λ s out z. (taken (length s) (length out) z).whole;
    }
