-- The refusal table for the two calls (02 j), row by row.
use Rattle.std.specs.Prelude.{ℕ, ◌*◌, ◌/◌, ◌<◌, ◌≡◌, List, [], ◌∷◌, length, drop}
use Rattle.filter_core.specs.Rows.{Exactly}
use Rattle.planes.specs.Planes.{planes_of, samples_of, arrange_number, arranged}

-- the numbers of an input of m bytes, for an output of `places`
pub data ArrangeCase (m places : ℕ) : ℕ → Type 0 where
  partial : ((n : ℕ) → m ≡ 4 * n → ⊥) → ArrangeCase m places 19
  short : places < m → ArrangeCase m places 12

-- 19 first, then 12; an accepted call answers 4 n
pub record ArrangeByRows : Type 0 where
  pub number : (s out : List ℕ) → Exactly (ArrangeCase (length s) (length out)) (19 ∷ 12 ∷ []) (arrange_number s out)
  pub answer : (s out : List ℕ) → arrange_number s out ≡ 0 → length s ≡ 4 * (length s / 4)

-- ---- what a call leaves of its output

pub record Kept (f : ℕ → List ℕ → List ℕ) (s out : List ℕ) : Type 0 where
  pub places : length (arranged f s out) ≡ length out
  pub behind : drop (length s) (arranged f s out) ≡ drop (length s) out
  pub refused : (arrange_number s out ≡ 0 → ⊥) → arranged f s out ≡ out

pub record KeepsTheRest : Type 0 where
  pub planes : (s out : List ℕ) → Kept planes_of s out
  pub samples : (s out : List ℕ) → Kept samples_of s out
