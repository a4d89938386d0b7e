-- The calls of a rota (02 b), and what a caller sees of each.
use Rattle.std.specs.Prelude.{ℕ, Option, None}
use Rattle.rota.specs.declared.Grant.{Grant}

pub data Call : Type 0 where
  -- a head and the samples that it is told to wait for
  tell : ℕ → ℕ → Call
  turn : Call

-- the number of a telling, which is 0 where it is accepted; what a turn grants, if it grants something
pub data Reply : Type 0 where
  of_tell : ℕ → Reply
  of_turn : Option Grant → Reply

abbrev pub number_in : Reply → ℕ
number_in (of_tell n) = n
number_in (of_turn g) = 0

-- a refused telling answers its number; a turn is never refused
abbrev pub refused : ℕ → Call → Reply
refused n (tell h k) = of_tell n
refused n turn = of_turn None
