use Rattle.std.proofs.Common.{◌-◌, length}
use Rattle.frame_calls.proofs.input.Session.take_lines.Given as goal

abbrev pub decreases-loop-end : goal.decreases-loop-end
decreases-loop-end l = length l.text - l.from
