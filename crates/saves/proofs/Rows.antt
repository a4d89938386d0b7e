-- The numbers of begin and take, by their rows. Assumes nothing.
use Prim.Native.Nat.{ℕ, ◌≤◌, ◌<◌}
use mathlib.Core.Path.{◌≡◌, refl}
use mathlib.Core.List.{[], ◌∷◌}
use mathlib.Core.Logic.{◌⊎◌, inl, inr}
use native.Mathlib.Omega.{arith}
use borrow.Author.Tests.{ltb-true, ltb-false}
use lib.Dec.{ltb}
use lib.ListN.{length}
use Rattle.filter_core.specs.Rows.{First}
use Rattle.std.proofs.lemmas.Bool.{cases_lt}
use Rattle.filter_core.proofs.Rows.{Step, yes, no, exactly, step_if, step_to, first_then, first_last}
use Rattle.library.specs.Library.{write_refusal, write_number}
use Rattle.library.specs.Rows.{Held, nothing, of_sheet}
use Rattle.library.specs.declared.Library.{Library}
use Rattle.library.proofs.Rows.{write_none, write_fits}
use Rattle.library.proofs.RoundTrip.{count_in}
use Rattle.saves.proofs.Zeros.{length_zero_bytes}
use Rattle.saves.specs.Save.{zero_bytes, left_of, unfinished_refusal, finished_refusal, begin_refusal}
use Rattle.saves.specs.Rows.{BeginCase, unfinished, no_entries, TakeCase, finished, SavesByRows}

module _ {k n : ℕ} where
  pub unfinished_case : {r : ℕ} → r ≡ 16 → BeginCase k n r → 0 < k
  unfinished_case e (unfinished l) = l
  unfinished_case e (no_entries z) = absurd (omega arith)

  no_entries_case : {r : ℕ} → r ≡ 2 → BeginCase k n r → n ≡ 0
  no_entries_case e (unfinished l) = absurd (omega arith)
  no_entries_case e (no_entries z) = z

pub finished_case : {k r : ℕ} → r ≡ 17 → TakeCase k r → k ≡ 0
finished_case p (finished e) = e

-- a write with room for every sheet refuses where there is no library, and nowhere else
no_library : (l : Library) (n : ℕ) → Held l n → Step (n ≡ 0) 2 (write_number l (zero_bytes 834))
no_library l n h = go l n h (cases_lt n 1)
  where
    some : (n : ℕ) → n ≤ 64 → (n < 1) ⊎ (1 ≤ n) → Step (n ≡ 0) 2 (write_refusal n (length (zero_bytes 834)))
    some n m (inl a) = rw (← write_none n (length (zero_bytes 834)) a) (yes (omega arith))
    some n m (inr a) =
        let w = length_zero_bytes 834 in
        rw (← write_fits n (length (zero_bytes 834)) a m (omega arith)) (no (λ e. omega arith))

    go : (l : Library) (n : ℕ) → Held l n → (n < 1) ⊎ (1 ≤ n) → Step (n ≡ 0) 2 (write_number l (zero_bytes 834))
    go l n nothing b = some 0 (omega arith) b
    go l n (of_sheet {s} h) b = rw (count_in s) (some n h.size.fits.most b)

module _ (k : ℕ) where
  pub unfinished_step : Step (0 < k) 16 (unfinished_refusal k)
  unfinished_step = step_if 16 (ltb 0 k) (ltb-true 0 k) (λ q h. omega (arith, ltb-false 0 k q))

  pub finished_step : Step (k ≡ 0) 17 (finished_refusal k)
  finished_step = step_if 17 (ltb k 1) (λ q. omega (arith, ltb-true k 1 q)) (λ q h. omega (arith, ltb-false k 1 q))

  pub begin_row : (l : Library) (n : ℕ) → Held l n → First (BeginCase k n) (16 ∷ 2 ∷ []) (begin_refusal k l)
  begin_row l n h =
      first_then (λ e. omega arith) (step_to unfinished (unfinished_case refl) unfinished_step)
      (λ w. first_last (step_to no_entries (no_entries_case refl) (no_library l n h)))

  pub take_row : First (TakeCase k) (17 ∷ []) (finished_refusal k)
  take_row = first_last (step_to finished (finished_case refl) finished_step)

pub saves_by_rows : SavesByRows
saves_by_rows =
    record {
      begins = λ v l n h. exactly (begin_row (length (left_of v)) l n h);
      takes = λ v. exactly (take_row (length (left_of v)));
    }
