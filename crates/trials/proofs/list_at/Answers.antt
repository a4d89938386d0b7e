-- No plainer: named by `using`, the law does not prove this, since it is of another state than the goal.
use native.Mathlib.Omega.{arith}
use Rattle.trials.proofs.Choices.{walked_more}
use Rattle.trials.proofs.list_at.Goals as goal

pub loop-left-preserved : goal.loop-left-preserved
loop-left-preserved c =
    walked_more c.loop-left.invariant c.in-Some.step c.push.new.self.items (omega (arith, c.loop-left-test.true)) c.in-Some.ensures c.push.ensures.items
