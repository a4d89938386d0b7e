-- Arrays of zeros. Assumes nothing.
use Prim.Native.Nat.{ℕ}
use mathlib.Core.Path.{◌≡◌}
use lib.ListN.{length, length-replicate}
use Rattle.saves.specs.Save.{zero_bytes}

pub length_zero_bytes : (m : ℕ) → length (zero_bytes m) ≡ m
unfolding zero_bytes
length_zero_bytes m = length-replicate m 0
