-- A word of 32 bits among bytes, and which words are NaNs of binary32.
use Rattle.std.specs.Prelude.{ℕ, ◌+◌, ◌*◌, ◌<◌, Bool, false, cond, List, eqb, get_or}
use Rattle.std.specs.Float.{binary32}
use Rattle.std.specs.Float.Ieee.{of_bits, is_nan}

-- four bytes, low byte first
abbrev pub word_of : ℕ → ℕ → ℕ → ℕ → ℕ
word_of a b c d = a + 256 * b + 65536 * c + 16777216 * d

-- the word whose low byte stands at the place i; bytes past the end count as 0
abbrev pub word_from : List ℕ → ℕ → ℕ
word_from s i = word_of (get_or s i 0) (get_or s (i + 1) 0) (get_or s (i + 2) 0) (get_or s (i + 3) 0)

-- each is a byte, as in all that is lent
abbrev pub Bytes : List ℕ → Type 0
Bytes s = (i : ℕ) → get_or s i 0 < 256

-- the one NaN that is written
abbrev pub written_nan : ℕ
written_nan = 0x7fc0_0000

-- a NaN, but not that one
abbrev pub other_nan : ℕ → Bool
other_nan w = cond (eqb w written_nan) false (is_nan (of_bits binary32 w))
