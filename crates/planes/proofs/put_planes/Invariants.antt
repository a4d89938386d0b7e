use Rattle.planes.proofs.Loops.{Spread}
use Rattle.planes.proofs.put_planes.Given as goal

abbrev pub invariant-loop-i : goal.invariant-loop-i
invariant-loop-i l = Spread l.n l.samples l.initial.first l.initial.second l.initial.third l.initial.fourth l.i l.first l.second l.third l.fourth
