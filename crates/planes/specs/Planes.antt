-- Samples in planes (02 j): n samples of four bytes, low byte first, as four planes of n bytes, and back. Elsewhere this is called a byte
-- shuffle, or byte stream split.
use Rattle.std.specs.Prelude.{ℕ, ◌/◌, ◌%◌, cond, List, ◌++◌, eqb, length, drop}
use Rattle.filter_core.specs.Refusal.{unless_refused}
use Rattle.filter_core.specs.Rows.{◌then◌}
use Rattle.lists.specs.Room.{room_refusal}
use Rattle.planes.specs.Grid.{transpose}

-- A sample is a row of its four bytes, and a plane the column of the bytes that stand at one place in each: all lowest, all second, all third,
-- all highest, in the order of the samples.
abbrev pub planes_of : ℕ → List ℕ → List ℕ
planes_of n samples = transpose n 4 samples

-- The inverse: a plane is a row of a byte of each sample, and a sample the column of those at its place.
abbrev pub samples_of : ℕ → List ℕ → List ℕ
samples_of n planes = transpose 4 n planes

-- ---- the calls

-- 19 of 02 j: m bytes end within a sample
abbrev pub partial_refusal : ℕ → ℕ
partial_refusal m = cond (eqb (m % 4) 0) 0 19

-- then 12, for an output shorter than those m bytes
abbrev pub arrange_refusal : ℕ → ℕ → ℕ
arrange_refusal m places = partial_refusal m then room_refusal m places

-- the number that a call answers, for its input and the output that it is lent
abbrev pub arrange_number : List ℕ → List ℕ → ℕ
arrange_number s out = arrange_refusal (length s) (length out)

-- The output after a call that arranges n samples as `arrange` does: a refused one leaves it, another keeps the places after the input's bytes.
abbrev pub arranged : (ℕ → List ℕ → List ℕ) → List ℕ → List ℕ → List ℕ
arranged arrange s out = unless_refused (arrange_number s out) out (arrange (length s / 4) s ++ drop (length s) out)
