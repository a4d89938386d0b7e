-- No plainer: named by `using`, the laws do not prove these, since they speak of a state and a place that the goals do not name.
use mathlib.Core.Path.{◌∙◌}
use Rattle.trials.proofs.Choices.{step_here, step_refused, step_later}
use Rattle.trials.proofs.next_step.Goals as goal

pub returns-in_err-next : goal.returns-in_err-next
returns-in_err-next c = c.from_residual.ensures ∙ step_refused _ _ _ _ c.loop-call.invariant c.loop-call-test.true c.after-next.ensures c.count-many.ensures c.if-place-many.true c.in_err-next.was

pub returns-then-place-many : goal.returns-then-place-many
returns-then-place-many c = step_here _ _ _ _ c.loop-call.invariant c.loop-call-test.true c.after-next.ensures c.count-many.ensures c.if-place-many.true c.in_ok-next.was

pub loop-call-preserved : goal.loop-call-preserved
loop-call-preserved c = step_later _ _ _ _ c.loop-call.invariant c.loop-call-test.true c.after-next.ensures c.count-many.ensures c.if-place-many.false
