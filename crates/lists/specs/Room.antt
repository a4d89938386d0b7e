-- An output that is too short for what is to be written to it.
use Rattle.std.specs.Prelude.{ℕ, cond, ltb}

-- `short` of the refusal table, for l bytes and an output of m places
abbrev pub room_refusal : ℕ → ℕ → ℕ
room_refusal l m = cond (ltb m l) 12 0
