-- The modified Chamberlin state-variable filter (Wise), by the source's equations. The mode decides the state as well as the output.
use Rattle.std.specs.Prelude.{Float}
use Rattle.filter_core.specs.Arithmetic.{◌+ᶠ◌, ◌-ᶠ◌, ◌*ᶠ◌, negᶠ, zeroᶠ}
use Rattle.filter_core.specs.Mode.{by_mode}
use Rattle.filter_core.specs.declared.FilterMode.{FilterMode}
use Rattle.modified_svf.specs.declared.ModifiedSvf.{ModifiedSvf}

abbrev pub modified_new : ModifiedSvf
modified_new = record { f = zeroᶠ; fq = zeroᶠ; x = zeroᶠ; lp = zeroᶠ; bp = zeroᶠ }

-- the last sample x is kept
abbrev pub modified_reset : ModifiedSvf → ModifiedSvf
modified_reset s = record { f = s.f; fq = s.fq; x = s.x; lp = zeroᶠ; bp = zeroᶠ }

abbrev pub modified_init : ModifiedSvf → ModifiedSvf
modified_init s = modified_reset s

-- the last sample x is cleared
abbrev pub modified_set_f_fq : ModifiedSvf → Float → Float → ModifiedSvf
modified_set_f_fq s f fq = record { f = f; fq = fq; x = zeroᶠ; lp = s.lp; bp = s.bp }

-- ---- one sample

abbrev modified_low : ModifiedSvf → Float
modified_low s = s.lp +ᶠ s.f *ᶠ s.bp

-- the band of the low-pass and high-pass modes
abbrev modified_plain_band : ModifiedSvf → Float → Float
modified_plain_band s x = s.bp +ᶠ (negᶠ s.fq *ᶠ s.bp -ᶠ s.f *ᶠ modified_low s +ᶠ x)

-- the band-pass modes add the last sample
abbrev modified_band : FilterMode → ModifiedSvf → Float → Float
modified_band m s x = by_mode m (modified_plain_band s x) (modified_plain_band s x +ᶠ s.x) (modified_plain_band s x +ᶠ s.x) (modified_plain_band s x)

-- the filter after the sample x
unfoldable pub modified_next : FilterMode → ModifiedSvf → Float → ModifiedSvf
modified_next m s x = record { f = s.f; fq = s.fq; x = x; lp = modified_low s; bp = modified_band m s x }

-- what a mode puts out for it
unfoldable pub modified_out : FilterMode → ModifiedSvf → Float → Float
modified_out m s x =
    by_mode m (modified_low s *ᶠ s.f) (modified_band m s x *ᶠ s.f) (modified_band m s x *ᶠ s.fq)
    (x -ᶠ modified_low s *ᶠ s.f -ᶠ modified_band m s x *ᶠ s.fq)
