use Rattle.filter_core.specs.Arithmetic.{twoᶠ}
use Rattle.filter_core.proofs.Odd.{times_is_odd}
use Rattle.naive_svf.specs.Sine.{sine_exact}
use Rattle.naive_svf.proofs.sine_is_odd.Goals as goal

pub returns : goal.returns
returns c = times_is_odd sine_exact twoᶠ
