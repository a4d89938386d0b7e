-- The numbers of a rota's calls, by their rows. Assumes nothing.
use Prim.Native.Nat.{ℕ, ◌≤◌}
use mathlib.Core.Path.{◌≡◌}
use mathlib.Core.List.{List}
use native.Mathlib.Omega.{arith}
use borrow.Author.Tests.{ltb-true, ltb-false, eqb-true, eqb-false}
use lib.Dec.{eqb, ltb}
use Rattle.filter_core.specs.Rows.{none, Exactly}
use Rattle.filter_core.proofs.Rows.{exactly, step_if, first_then, first_last}
use Rattle.rota.specs.Call.{Call, tell, turn}
use Rattle.rota.specs.History.{Event, account, Waits, waits, call_number}
use Rattle.rota.specs.Rows.{RotaCase, no_head, waiting, no_samples, numbers_of, RotaByRows}

module _ {l : List Event} {h n : ℕ} where
  head_case : RotaCase l (tell h n) 1 → 12 ≤ h
  head_case (no_head m) = m

  waiting_case : RotaCase l (tell h n) 13 → Waits l h
  waiting_case (waiting w) = w

  samples_case : RotaCase l (tell h n) 14 → n ≡ 0
  samples_case (no_samples z) = z

pub rota_row : (l : List Event) (c : Call) → Exactly (RotaCase l c) (numbers_of c) (call_number l c)
rota_row l (tell h n) =
    exactly
    (first_then (λ e. omega arith) (step_if 1 (ltb 11 h) (λ q. no_head (ltb-true 11 h q)) (λ q p. omega (arith, ltb-false 11 h q, head_case p)))
    (λ d.
    first_then (λ e. omega arith)
    (step_if 13 (waits l h) (λ q. waiting (ltb-true _ _ q)) (λ q p. omega (arith, ltb-false (account l h).granted (account l h).told q, waiting_case p)))
    (λ w. first_last (step_if 14 (eqb n 0) (λ q. no_samples (eqb-true n 0 q)) (λ q p. eqb-false n 0 q (samples_case p))))))
rota_row l turn = exactly none

pub rota_by_rows : RotaByRows
unfolding RotaByRows
rota_by_rows = rota_row
