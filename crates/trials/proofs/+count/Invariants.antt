use Rattle.std.proofs.Common.{◌≡◌, ◌+◌, ◌-◌, length}
use Rattle.std.specs.Prelude.{Some}
use Rattle.trials.specs.Counting.{routines_from}
use Rattle.trials.proofs.Counts.{left_from}
use Rattle.trials.proofs.+count.Given as goal

abbrev pub decreases-count : goal.decreases-count
decreases-count l = l.n

-- what is counted and what is left to count are all
abbrev pub invariant-loop-call : goal.invariant-loop-call
invariant-loop-call l = (l.total + left_from l.state (l.n - 1) l.call-index ≡ length (routines_from (Some l.state) l.n))
