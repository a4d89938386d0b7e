-- What document 02, i says of counts over every frame and every list of calls.
use Rattle.std.specs.Prelude.{ℕ, ◌≤◌, ◌≡◌, List, [], get_or}
use Rattle.heads.specs.Act.{count}
use Rattle.heads.specs.History.{count_of}
use Rattle.frame.specs.Call.{Call, at}
use Rattle.frame.specs.Calls.{perform}
use Rattle.frame.specs.History.{no_histories, advance_all}
use Rattle.frame.specs.declared.Frame.{Frame}

pub record Counts : Type 0 where
  -- asking for a count changes nothing
  pub asking : (f : Frame) (h : ℕ) → (perform f (at h count)).frame ≡ f
  -- whatever is called on a fresh frame, no head's count and no mark's is above the greatest number of 32 bits
  pub fit : (cs : List Call) (h : ℕ) → count_of ((advance_all no_histories cs).heads h).history ≤ 4294967295
  pub marks_fit : (cs : List Call) (h m : ℕ) → count_of (get_or ((advance_all no_histories cs).heads h).checkpoints m []) ≤ 4294967295
