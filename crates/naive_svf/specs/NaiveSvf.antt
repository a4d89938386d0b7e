-- The naive Chamberlin state-variable filter, by the source's equations.
use Rattle.std.specs.Prelude.{Float}
use Rattle.filter_core.specs.Arithmetic.{◌+ᶠ◌, ◌-ᶠ◌, ◌*ᶠ◌, ◌/ᶠ◌, word, zeroᶠ, oneᶠ}
use Rattle.filter_core.specs.Mode.{by_mode}
use Rattle.filter_core.specs.declared.FilterMode.{FilterMode}
use Rattle.filter_core.specs.declared.FrequencyApproximation.{FrequencyApproximation}
use Rattle.filter_core.specs.declared.FrequencyApproximation.TheVariants.{Dirty}
use Rattle.naive_svf.specs.Sine.{naive_frequency}
use Rattle.naive_svf.specs.declared.NaiveSvf.{NaiveSvf}

abbrev pub naive_new : NaiveSvf
naive_new = record { f = zeroᶠ; damp = zeroᶠ; lp = zeroᶠ; bp = zeroᶠ }

abbrev pub naive_reset : NaiveSvf → NaiveSvf
naive_reset s = record { f = s.f; damp = s.damp; lp = zeroᶠ; bp = zeroᶠ }

-- a filter that is set at the coefficient c
abbrev pub naive_set : NaiveSvf → Float → Float → NaiveSvf
naive_set s c resonance = record { f = c; damp = oneᶠ /ᶠ resonance; lp = s.lp; bp = s.bp }

-- what an accepted set_f_q makes of a filter
abbrev pub naive_set_f_q : NaiveSvf → Float → Float → FrequencyApproximation → NaiveSvf
naive_set_f_q s f resonance a = naive_set s (naive_frequency f a) resonance

-- set_f_q at 0.01 and 100.0 by Dirty, then reset
abbrev pub naive_init : NaiveSvf → NaiveSvf
naive_init s = naive_reset (naive_set_f_q s (word 0x3c23_d70a) (word 0x42c8_0000) Dirty)

-- ---- one sample

-- the band from before the update, times damp
abbrev pub naive_normalized : NaiveSvf → Float
naive_normalized s = s.bp *ᶠ s.damp

unfoldable pub naive_low : NaiveSvf → Float → Float
naive_low s x = s.lp +ᶠ s.f *ᶠ s.bp

unfoldable pub naive_high : NaiveSvf → Float → Float
unfolding naive_low
naive_high s x = x -ᶠ naive_normalized s -ᶠ naive_low s x

abbrev pub naive_band : NaiveSvf → Float → Float
naive_band s x = s.bp +ᶠ s.f *ᶠ naive_high s x

-- the filter after the sample x: the settings are kept
unfoldable pub naive_next : NaiveSvf → Float → NaiveSvf
unfolding naive_low naive_high
naive_next s x = record { f = s.f; damp = s.damp; lp = naive_low s x; bp = naive_band s x }

-- what a mode puts out for it
unfoldable pub naive_out : FilterMode → NaiveSvf → Float → Float
unfolding naive_low naive_high
naive_out m s x = by_mode m (naive_low s x) (naive_band s x) (naive_normalized s) (naive_high s x)
