-- The one-pole filter, by the source's equations.
use Rattle.std.specs.Prelude.{Float}
use Rattle.filter_core.specs.Arithmetic.{◌+ᶠ◌, ◌-ᶠ◌, ◌*ᶠ◌, ◌/ᶠ◌, word, zeroᶠ, oneᶠ}
use Rattle.filter_core.specs.Mode.{by_mode}
use Rattle.filter_core.specs.declared.FilterMode.{FilterMode}
use Rattle.filter_core.specs.declared.FrequencyApproximation.{FrequencyApproximation}
use Rattle.filter_core.specs.declared.FrequencyApproximation.TheVariants.{Dirty}
use Rattle.one_pole.specs.Tangent.{tan_of}
use Rattle.one_pole.specs.declared.OnePole.{OnePole}

abbrev pub one_pole_new : OnePole
one_pole_new = record { g = zeroᶠ; gi = zeroᶠ; state = zeroᶠ }

abbrev pub one_pole_reset : OnePole → OnePole
one_pole_reset s = record { g = s.g; gi = s.gi; state = zeroᶠ }

-- the filter at the tangent g
abbrev pub one_pole_set_g : OnePole → Float → OnePole
one_pole_set_g s g = record { g = g; gi = oneᶠ /ᶠ (oneᶠ +ᶠ g); state = s.state }

-- what an accepted set_f makes of a filter
abbrev pub one_pole_set_f : OnePole → Float → FrequencyApproximation → OnePole
one_pole_set_f s f a = one_pole_set_g s (tan_of f a)

-- set_f at 0.01 by Dirty, then reset
abbrev pub one_pole_init : OnePole → OnePole
one_pole_init s = one_pole_reset (one_pole_set_f s (word 0x3c23_d70a) Dirty)

abbrev one_pole_low : OnePole → Float → Float
one_pole_low s x = (s.g *ᶠ x +ᶠ s.state) *ᶠ s.gi

-- the filter after the sample x
abbrev pub one_pole_next : OnePole → Float → OnePole
one_pole_next s x = record { g = s.g; gi = s.gi; state = s.g *ᶠ (x -ᶠ one_pole_low s x) +ᶠ one_pole_low s x }

-- the bands are answered as 0
abbrev pub one_pole_out : FilterMode → OnePole → Float → Float
one_pole_out m s x = by_mode m (one_pole_low s x) zeroᶠ zeroᶠ (x -ᶠ one_pole_low s x)
