use Rattle.trials.proofs.Choices.{Walked}
use Rattle.trials.proofs.list_at.Given as goal

abbrev pub invariant-loop-left : goal.invariant-loop-left
invariant-loop-left l = Walked l.n l.fn.place l.list.items l.state l.left l.place
