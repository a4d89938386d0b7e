use Rattle.filter_core.proofs.Odd.{is_odd}
use Rattle.one_pole.specs.Tangent.{tan_exact}
use Rattle.one_pole.proofs.tangent_is_odd.Goals as goal

pub returns : goal.returns
returns c = is_odd tan_exact
