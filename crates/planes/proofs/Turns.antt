-- Each arrangement undoes the other, and neither loses a byte. Assumes nothing.
use Prim.Native.Nat.{ℕ, ◌*◌}
use mathlib.Core.Path.{◌≡◌, subst}
use mathlib.Core.List.{List}
use native.Mathlib.Omega.{arith}
use lib.ListN.{length}
use Rattle.std.specs.Prelude.{IsPermutation}
use Rattle.planes.specs.Grid.{cell, transpose}
use Rattle.planes.specs.RoundTrip.{IndexLaw, Rearranges}
use Rattle.planes.proofs.Grid.{get_rows, rows_are, transpose_rearranges}

pub index_law : IndexLaw
index_law =
    record {
      planes = λ n s i p h l. let e : 4 * i ≡ i * 4 = omega arith in rw e (get_rows 4 n _ p i l h);
      samples = λ n s i p h l. let e : 4 * i ≡ i * 4 = omega arith in rw e (get_rows n 4 _ i p h l);
    }

-- the transpose of a list is a rearrangement of it
turned : (m n : ℕ) (s : List ℕ) → length s ≡ m * n → IsPermutation s (transpose m n s)
turned m n s e = subst (λ (l : List ℕ). IsPermutation l (transpose m n s)) (rows_are m n s e) (transpose_rearranges m n (cell n s))

pub rearranges : Rearranges
rearranges = record { planes = λ n s e. turned n 4 s (omega arith); samples = λ n s e. turned 4 n s e }
