use Rattle.std.proofs.Common.{◌≡◌, drop}
use Rattle.trials.specs.Calls.{calls}
use Rattle.trials.specs.Counting.{step_among}
use Rattle.trials.proofs.next_step.Given as goal

abbrev pub invariant-loop-call : goal.invariant-loop-call
invariant-loop-call l = step_among l.state l.left (drop l.call-index calls) l.place ≡ step_among l.state l.left calls l.fn.place
