-- The numbers of the calls at a head, by their rows. Assumes nothing.
use Prim.Native.Nat.{ℕ, ◌+◌, ◌≤◌, ◌<◌}
use mathlib.Core.Path.{◌≡◌, refl}
use mathlib.Core.Bool.{true}
use mathlib.Core.List.{List, [], ◌∷◌}
use native.Mathlib.Omega.{arith}
use borrow.Author.Tests.{ltb-true, ltb-false, leb-true, leb-false}
use lib.Dec.{ltb, leb}
use lib.ListN.{length}
use lib.Ieee.{Float}
use Rattle.filter_core.specs.Buffer.{within}
use Rattle.filter_core.specs.Rows.{First, none, here, later}
use Rattle.filter_core.proofs.Rows.{exactly, by_test, Step, step_if, step_to, first_last}
use Rattle.any_filter.specs.declared.FilterType.{FilterType}
use Rattle.runs.specs.Rows as rows
use Rattle.runs.specs.declared.form.RunForm.{RunForm}
use Rattle.runs.proofs.Rows.{by_rows}
use Rattle.heads.specs.Act.{Act, run, run_two, rest, mark, back, drop, count}
use Rattle.heads.specs.Snapshot.{greatest_count, count_refusal, run_number}
use Rattle.heads.specs.History.{Event, HeadHistory, last_type, count_of, unless_bare, act_number}
use Rattle.heads.specs.Follows.{SoundHead}
use Rattle.heads.specs.Rows.{ActCase, bare_run, bare_two, bare_rest, bare_mark, no_back, no_drop, full, no_form, no_form_two, no_step, no_step_two, over_run, over_two, numbers_of, HeadByRows}

module _ {case : ℕ → Type 0} {ns : List ℕ} {r : ℕ} where
  by_history : (l : List Event) → (l ≡ [] → case 6) → ((l ≡ [] → ⊥) → case 6 → ⊥) → First case ns r → First case (6 ∷ ns) (unless_bare l r)
  by_history [] p q f = here (p refl)
  by_history (i ∷ l) p q f = later (q (λ e. let z : ◌≡◌ {A = ℕ} 0 1 = cc in absurd (omega arith))) f

-- the count, with the samples of a run
over_step : (k n : ℕ) → Step (4294967295 < k + n) 18 (count_refusal k n)
over_step k n = step_if 18 (ltb greatest_count (k + n)) (ltb-true greatest_count (k + n)) (λ q l. omega (arith, ltb-false greatest_count (k + n) q))

module _ {x : HeadHistory} where
  -- ---- the cases that do not hold

  back_there : {m : ℕ} → m < length x.checkpoints → ActCase x (back m) 7 → ⊥
  back_there l (no_back m) = omega arith

  drop_there : {m : ℕ} → m < length x.checkpoints → ActCase x (drop m) 7 → ⊥
  drop_there l (no_drop m) = omega arith

  room : length x.checkpoints ≤ 3 → ActCase x mark 8 → ⊥
  room l (full m) = omega arith

  held_run : {form : RunForm} {us ys : List Float} → (x.history ≡ [] → ⊥) → ActCase x (run form us ys) 6 → ⊥
  held_run p (bare_run e) = p e

  held_two : {form : RunForm} {us ys zs : List Float} → (x.history ≡ [] → ⊥) → ActCase x (run_two form us ys zs) 6 → ⊥
  held_two p (bare_two e) = p e

  held_rest : (x.history ≡ [] → ⊥) → ActCase x rest 6 → ⊥
  held_rest p (bare_rest e) = p e

  held_mark : (x.history ≡ [] → ⊥) → ActCase x mark 6 → ⊥
  held_mark p (bare_mark e) = p e

  -- ---- a run's own cases, and those of the form and the step

  module _ {form : RunForm} {us ys : List Float} where
    run_case : (n : ℕ) → rows.RunCase rows.Has (last_type x.history) form n → ActCase x (run form us ys) n
    run_case n (rows.no_form m) = no_form m
    run_case n (rows.no_step z) = no_step z

    run_form : ActCase x (run form us ys) 9 → rows.RunCase rows.Has (last_type x.history) form 9
    run_form (no_form m) = rows.no_form m

    run_step : ActCase x (run form us ys) 10 → rows.RunCase rows.Has (last_type x.history) form 10
    run_step (no_step z) = rows.no_step z

    run_over : ActCase x (run form us ys) 18 → 4294967295 < count_of x.history + length (within us ys)
    run_over (over_run l) = l

  module _ {form : RunForm} {us ys zs : List Float} where
    two_case : (n : ℕ) → rows.RunCase rows.HasTwo (last_type x.history) form n → ActCase x (run_two form us ys zs) n
    two_case n (rows.no_form m) = no_form_two m
    two_case n (rows.no_step z) = no_step_two z

    two_form : ActCase x (run_two form us ys zs) 9 → rows.RunCase rows.HasTwo (last_type x.history) form 9
    two_form (no_form_two m) = rows.no_form m

    two_step : ActCase x (run_two form us ys zs) 10 → rows.RunCase rows.HasTwo (last_type x.history) form 10
    two_step (no_step_two z) = rows.no_step z

    two_over : ActCase x (run_two form us ys zs) 18 → 4294967295 < count_of x.history + length (within (within us ys) zs)
    two_over (over_two l) = l

-- the form and the step, then the count: once for both runs, where `case` has the cases of the call
module _ {has : FilterType → RunForm → Type 0} {t : FilterType} {form : RunForm} {case : ℕ → Type 0} (k m : ℕ)
    (to : (n : ℕ) → rows.RunCase has t form n → case n)
    (of-form : case 9 → rows.RunCase has t form 9)
    (of-step : case 10 → rows.RunCase has t form 10)
    (over : 4294967295 < k + m → case 18)
    (is-over : case 18 → 4294967295 < k + m) where
  by_run : {n : ℕ} → First (rows.RunCase has t form) (9 ∷ 10 ∷ []) n → First case (9 ∷ 10 ∷ 18 ∷ []) (run_number n k m)
  by_run (here (rows.no_form p)) = here (to 9 (rows.no_form p))
  by_run (later p (here (rows.no_step z))) = later (λ q. p (of-form q)) (here (to 10 (rows.no_step z)))
  by_run (later p (later q none)) = later (λ r. p (of-form r)) (later (λ r. q (of-step r)) (first_last (step_to over is-over (over_step k m))))

-- ---- each call at a head

module _ (x : HeadHistory) (S : SoundHead x) where
  four : ltb 3 (length x.checkpoints) ≡ true → length x.checkpoints ≡ 4
  four q = omega (arith, S.four, ltb-true 3 (length x.checkpoints) q)

  by_act : (a : Act) → First (ActCase x a) (numbers_of a) (act_number x a)
  by_act (run form us ys) =
      by_history x.history bare_run held_run
      (by_run (count_of x.history) (length (within us ys)) run_case run_form run_step over_run run_over (by_rows.one (last_type x.history) form).is)
  by_act (run_two form us ys zs) =
      by_history x.history bare_two held_two
      (by_run (count_of x.history) (length (within (within us ys) zs)) two_case two_form two_step over_two two_over
      (by_rows.two (last_type x.history) form).is)
  by_act rest = by_history x.history bare_rest held_rest none
  by_act mark =
      by_history x.history bare_mark held_mark (by_test (ltb 3 (length x.checkpoints)) (λ q. full (four q)) (λ q. room (ltb-false _ _ q)) (λ q. none))
  by_act (back m) = by_test (leb (length x.checkpoints) m) (λ q. no_back (leb-true _ _ q)) (λ q. back_there (leb-false _ _ q)) (λ q. none)
  by_act (drop m) = by_test (leb (length x.checkpoints) m) (λ q. no_drop (leb-true _ _ q)) (λ q. drop_there (leb-false _ _ q)) (λ q. none)
  by_act count = none

pub head_by_rows : HeadByRows
head_by_rows x a S = exactly (by_act x S a)
