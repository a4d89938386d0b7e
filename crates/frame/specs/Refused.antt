-- Demand 1, of a call that is not accepted: it answers its number and changes nothing.
use Rattle.std.specs.Prelude.{◌≡◌}
use Rattle.frame.specs.Call.{Call, number_in}
use Rattle.frame.specs.Calls.{refuse, perform}
use Rattle.frame.specs.declared.Frame.{Frame}

-- for every frame and every call: the frame is as it was, and so is every lent output
abbrev pub RefusedLeaves : Type 0
RefusedLeaves = (f : Frame) (c : Call) → (number_in (perform f c).reply ≡ 0 → ⊥) → perform f c ≡ refuse f c (number_in (perform f c).reply)
