use Rattle.std.proofs.Common.{rules}
use Rattle.std.proofs.Common.{◌-◌}
use native.Mathlib.Omega.{arith}
use Rattle.std.specs.Prelude.{Some}
use Rattle.trials.proofs.Counts.{none_behind, one_empty, all_left, left_more, few}
use Rattle.trials.specs.declared.TrialCall.TheVariants.{Load}
use Rattle.trials.proofs.+count.Goals as goal

pub returns-in_default : goal.returns-in_default
returns-in_default t c = none_behind c.args.state c.args.n c.in_default.is

pub returns-then-n-eq0 : goal.returns-then-n-eq0
returns-then-n-eq0 t c = one_empty c.args.state c.args.n c.in-Some.state c.in-Some.is c.if-n-eq0.true

pub loop-call-init : goal.loop-call-init
loop-call-init t c = omega (arith, all_left c.in-Some.state c.args.n (omega (arith, c.if-n-eq0.false)))

pub overflow_add-total : goal.overflow_add-total
overflow_add-total t c =
    search (rules, c.loop-call.invariant, few (Some c.in-Some.state) c.args.n c.requires, left_more c.in-Some.state (c.args.n - 1) c.loop-call.call-index Load c.after.result c.loop-call-test.true c.after.ensures)

pub loop-call-preserved : goal.loop-call-preserved
loop-call-preserved t c = omega (arith, c.loop-call.invariant, c.count-total.ensures, left_more c.in-Some.state (c.args.n - 1) c.loop-call.call-index Load c.after.result c.loop-call-test.true c.after.ensures)
