use Rattle.filter_core.proofs.Passes.{passing}
use Rattle.filter_core.proofs.form.filter_pair.Goals as goal

pub loop-i-init : goal.loop-i-init
loop-i-init g c = (search passing, search passing)

pub loop-i-preserved : goal.loop-i-preserved
loop-i-preserved g c = search passing

pub returns : goal.returns
returns g c = search passing
