-- The calls of a frame, with their sheets and buffers as they stood when lent, and what a caller sees of each.
use Rattle.std.specs.Prelude.{ℕ, List}
use Rattle.heads.specs.Act.{Act, HeadReply, head_number, refused_act}
use Rattle.rota.specs.Call as rota

pub data Call : Type 0 where
  opening : List ℕ → Call
  writing : List ℕ → Call
  -- a head and an entry
  loading : ℕ → ℕ → Call
  at : ℕ → Act → Call
  -- of a save (02 h); a take with its output
  beginning : Call
  taking : List ℕ → Call
  -- of the rota (02 b)
  at_rota : rota.Call → Call
  -- of a saved frame (02 k): a save of the heads with its output, and a restore with the bytes. `Saving` and the crate `saves` are of the
  -- library's save (02 h)
  saving_heads : List ℕ → Call
  restoring_heads : List ℕ → Call

-- The number, which is 0 where the call is accepted; the count of the bytes, if it writes some, with the lent output as it stands then; or
-- what a head or the rota replies.
pub data Reply : Type 0 where
  plain : ℕ → Reply
  wrote : ℕ → ℕ → List ℕ → Reply
  acted : HeadReply → Reply
  of_rota : rota.Reply → Reply

abbrev pub number_in : Reply → ℕ
number_in (plain n) = n
number_in (wrote n k out) = n
number_in (acted r) = head_number r
number_in (of_rota r) = rota.number_in r

-- a refused call answers its number alone, and leaves the outputs as lent
abbrev pub refused : ℕ → Call → Reply
refused n (opening s) = plain n
refused n (writing out) = wrote n 0 out
refused n (loading h e) = plain n
refused n (at h a) = acted (refused_act n a)
refused n beginning = plain n
refused n (taking out) = wrote n 0 out
refused n (at_rota c) = of_rota (rota.refused n c)
refused n (saving_heads out) = wrote n 0 out
refused n (restoring_heads b) = plain n
