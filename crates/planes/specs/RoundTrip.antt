-- Where each byte stands, that each arrangement undoes the other, and what neither loses (02 j): on any bytes, for every number of samples.
use Rattle.std.specs.Prelude.{ℕ, ◌+◌, ◌*◌, ◌%◌, ◌≡◌, ◌≤◌, ◌<◌, List, ◌++◌, length, get_or, take, drop, IsPermutation}
use Rattle.planes.specs.Planes.{planes_of, samples_of, arrange_number, arranged}

-- Byte p of sample i stands at 4 * i + p among the samples, and at p * n + i in the planes.
pub record IndexLaw : Type 0 where
  pub planes : (n : ℕ) (s : List ℕ) (i p : ℕ) → i < n → p < 4 → get_or (planes_of n s) (p * n + i) 0 ≡ get_or s (4 * i + p) 0
  pub samples : (n : ℕ) (s : List ℕ) (i p : ℕ) → i < n → p < 4 → get_or (samples_of n s) (4 * i + p) 0 ≡ get_or s (p * n + i) 0

-- no byte is lost, and none is made
pub record Rearranges : Type 0 where
  pub planes : (n : ℕ) (s : List ℕ) → length s ≡ 4 * n → IsPermutation s (planes_of n s)
  pub samples : (n : ℕ) (s : List ℕ) → length s ≡ 4 * n → IsPermutation s (samples_of n s)

-- ---- of calls, each with an output of its own

-- what the call with the arrangement f wrote of s, the call with g makes into s again
pub record Undone (f g : ℕ → List ℕ → List ℕ) (s out back : List ℕ) : Type 0 where
  pub accepted : arrange_number s out ≡ 0
  pub back_accepted : arrange_number (take (length s) (arranged f s out)) back ≡ 0
  pub bytes : arranged g (take (length s) (arranged f s out)) back ≡ s ++ drop (length s) back

abbrev pub Undoes : (ℕ → List ℕ → List ℕ) → (ℕ → List ℕ → List ℕ) → Type 0
Undoes f g = (s out back : List ℕ) → length s % 4 ≡ 0 → length s ≤ length out → length s ≤ length back → Undone f g s out back

-- each undoes the other, in either order
pub record RoundTrip : Type 0 where
  pub planes_and_back : Undoes planes_of samples_of
  pub samples_and_back : Undoes samples_of planes_of
