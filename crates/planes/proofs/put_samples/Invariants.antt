use Rattle.planes.proofs.Loops.{Joined}
use Rattle.planes.proofs.put_samples.Given as goal

abbrev pub invariant-loop-i : goal.invariant-loop-i
invariant-loop-i l = Joined l.n l.planes l.initial.output l.i l.output
