-- The entries of a sheet as a table. Assumes nothing.
use Prim.Native.Nat.{ℕ, ◌≤◌, ◌<◌}
use mathlib.Core.Path.{◌≡◌}
use mathlib.Core.List.{List}
use native.Mathlib.Omega.{arith}
use lib.ListN.{length}
use Rattle.lists.specs.Table.{table}
use Rattle.lists.proofs.Tables.{length_table}

-- there is room for one more of as many as 64
pub table_room : {A : Type 0} {n e : ℕ} (f : ℕ → A) {l : List A} → l ≡ table e f → e < n → n ≤ 64 → length l < 64
table_room {n = n} {e = e} f q h k = rw (q, length_table e f) (omega arith)
