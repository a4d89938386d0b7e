-- The refusal of a number that names no mode, or no approximation.
use Rattle.std.specs.Prelude.{ℕ, cond, leb}

-- the number is above the last. 100 is not in document 01's table: there a mode is one of four
abbrev pub unknown_refusal : ℕ → ℕ → ℕ
unknown_refusal last n = cond (leb n last) 0 100
