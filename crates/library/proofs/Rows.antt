-- A write's number is that of the refusal table's row, and of no other. Assumes nothing.
use Prim.Native.Nat.{ℕ, ◌+◌, ◌*◌, ◌≤◌, ◌<◌}
use mathlib.Core.Path.{◌≡◌, refl}
use mathlib.Core.List.{List, [], ◌∷◌}
use mathlib.Core.Logic.{◌⊎◌, inl, inr}
use native.Mathlib.Omega.{arith}
use borrow.Author.Tests.{lt-ltb, le-ltb}
use lib.ListN.{length}
use Rattle.filter_core.specs.Rows.{First, none, here, later}
use Rattle.std.proofs.lemmas.Bool.{cases_lt}
use Rattle.filter_core.proofs.Rows.{exactly}
use Rattle.library.specs.Library.{count, stored_in, write_refusal}
use Rattle.library.specs.Rows.{nothing, of_sheet, WriteCase, no_entries, short, WriteRow, WriteByRows}
use Rattle.library.specs.declared.Library.{Library}
use Rattle.lists.proofs.Tables.{length_table}

module _ {n m : ℕ} where
  size_case : {r : ℕ} → r ≡ 2 → WriteCase n m r → n ≡ 0
  size_case e (no_entries z) = z
  size_case e (short l) = absurd (omega arith)

  short_case : {r : ℕ} → r ≡ 12 → WriteCase n m r → m < 2 + 13 * n
  short_case e (no_entries z) = absurd (omega arith)
  short_case e (short l) = l

  has_entries : 1 ≤ n → WriteCase n m 2 → ⊥
  has_entries h c = omega (arith, size_case refl c)

  has_room : 2 + 13 * n ≤ m → WriteCase n m 12 → ⊥
  has_room h c = omega (arith, short_case refl c)

module _ (n m : ℕ) where
  pub write_none : n < 1 → 2 ≡ write_refusal n m
  write_none a = rw (lt-ltb n) refl

  pub write_short : 1 ≤ n → n ≤ 64 → m < 2 + 13 * n → 12 ≡ write_refusal n m
  write_short a b c = rw (le-ltb n, le-ltb 64, lt-ltb m) refl

  pub write_fits : 1 ≤ n → n ≤ 64 → 2 + 13 * n ≤ m → 0 ≡ write_refusal n m
  write_fits a b c = rw (le-ltb n, le-ltb 64, le-ltb m) refl

module _ (n m : ℕ) (h : n ≤ 64) where
  write_first : First (WriteCase n m) (2 ∷ 12 ∷ []) (write_refusal n m)
  write_first = go (cases_lt n 1) (cases_lt m (2 + 13 * n))
    where
      go : (n < 1) ⊎ (1 ≤ n) → (m < 2 + 13 * n) ⊎ (2 + 13 * n ≤ m) → First (WriteCase n m) (2 ∷ 12 ∷ []) (write_refusal n m)
      go (inl a) w = rw (← write_none n m a) (here (no_entries (omega arith)))
      go (inr a) (inl b) = rw (← write_short n m a h b) (later (has_entries a) (here (short b)))
      go (inr a) (inr b) = rw (← write_fits n m a h b) (later (has_entries a) (later (has_room b) none))

write_row : (l : Library) (n : ℕ) (out : List ℕ) → count l ≡ n → n ≤ 64 → WriteRow l n out
write_row l n out e h = record { number = rw e (exactly (write_first n (length out) h)); answer = rw e refl }

pub write_by_rows : WriteByRows
write_by_rows l n nothing out = write_row l 0 out refl (omega arith)
write_by_rows l n (of_sheet {s} h) out = write_row l n out (length_table n (stored_in s)) h.size.fits.most
