use Rattle.filter_core.proofs.Passes.{passing}
use Rattle.naive_svf.proofs.NaiveSvf.decimate_buffer.Goals as goal

pub loop-i-init : goal.loop-i-init
loop-i-init c = search passing

pub loop-i-preserved-then-waits : goal.loop-i-preserved-then-waits
loop-i-preserved-then-waits c = search passing

pub loop-i-preserved : goal.loop-i-preserved
loop-i-preserved c = search passing

pub returns : goal.returns
returns c = search passing
