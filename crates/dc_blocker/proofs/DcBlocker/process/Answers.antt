use Rattle.filter_core.proofs.Passes.{passing}
use Rattle.dc_blocker.proofs.DcBlocker.process.Goals as goal

pub loop-x-init : goal.loop-x-init
loop-x-init c = search passing

pub loop-x-preserved : goal.loop-x-preserved
loop-x-preserved c = search passing

pub returns : goal.returns
returns c = search passing
