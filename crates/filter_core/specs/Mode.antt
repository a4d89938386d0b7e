-- Which of a filter's taps a mode answers.
use Rattle.std.specs.Prelude.{Float}
use Rattle.filter_core.specs.declared.FilterMode.{FilterMode}
use Rattle.filter_core.specs.declared.FilterMode.TheVariants.{LowPass, BandPass, BandPassNormalized, HighPass}

abbrev pub by_mode : FilterMode → Float → Float → Float → Float → Float
by_mode LowPass low band normalized high = low
by_mode BandPass low band normalized high = band
by_mode BandPassNormalized low band normalized high = normalized
by_mode HighPass low band normalized high = high
