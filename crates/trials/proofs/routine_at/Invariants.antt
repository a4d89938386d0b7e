use Rattle.std.proofs.Common.{◌≡◌}
use Rattle.trials.specs.Routines.{routine_at}
use Rattle.trials.proofs.Places.{among}
use Rattle.trials.proofs.routine_at.Given as goal

abbrev pub invariant-loop-n : goal.invariant-loop-n
invariant-loop-n l = among l.n-index l.place ≡ routine_at l.fn.place
