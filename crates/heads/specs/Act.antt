-- What is asked of a head, with its buffers as they stood when lent, and what a caller sees of it.
use Rattle.std.specs.Prelude.{ℕ, List, Float}
use Rattle.runs.specs.declared.form.RunForm.{RunForm}

-- a run has its input and its outputs
pub data Act : Type 0 where
  run : RunForm → List Float → List Float → Act
  run_two : RunForm → List Float → List Float → List Float → Act
  rest : Act
  mark : Act
  back : ℕ → Act
  drop : ℕ → Act
  -- 02 i
  count : Act

-- The number, which is 0 where the call is accepted; the mark's number or the count, if it answers one; and each lent output as it stands then.
pub data HeadReply : Type 0 where
  answered : ℕ → HeadReply
  marked : ℕ → ℕ → HeadReply
  ran : ℕ → List Float → HeadReply
  ran_two : ℕ → List Float → List Float → HeadReply
  counted : ℕ → ℕ → HeadReply

abbrev pub head_number : HeadReply → ℕ
head_number (answered n) = n
head_number (marked n m) = n
head_number (ran n ys) = n
head_number (ran_two n ys zs) = n
head_number (counted n k) = n

-- a refused call answers its number alone, and leaves the outputs as lent
abbrev pub refused_act : ℕ → Act → HeadReply
refused_act n (run form us ys) = ran n ys
refused_act n (run_two form us ys zs) = ran_two n ys zs
refused_act n rest = answered n
refused_act n mark = marked n 0
refused_act n (back m) = answered n
refused_act n (drop m) = answered n
refused_act n count = counted n 0
