use Rattle.filter_core.proofs.Passes.{passing}
use Rattle.svf.proofs.Svf.stride_buffer.Goals as goal

pub loop-i-init : goal.loop-i-init
loop-i-init c = search passing

pub loop-i-preserved : goal.loop-i-preserved
loop-i-preserved c = search passing

pub returns : goal.returns
returns c = search passing

pub returns-2 : goal.returns-2
returns-2 c = search passing
