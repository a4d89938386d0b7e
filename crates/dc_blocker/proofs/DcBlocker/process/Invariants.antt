use Rattle.filter_core.specs.Buffer.{each, puts}
use Rattle.filter_core.proofs.Passes.{Going}
use Rattle.dc_blocker.specs.DcBlocker.{dc_next, dc_out}
use Rattle.dc_blocker.proofs.DcBlocker.process.Given as goal

abbrev pub invariant-loop-x : goal.invariant-loop-x
invariant-loop-x l = Going (each dc_next) (puts dc_out) l.fn.in_out l.x-index-end l.fn.self l.fn.in_out l.x-index l.filter l.in_out
