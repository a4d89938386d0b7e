-- The zero-delay-feedback state-variable filter, by the source's equations.
use Rattle.std.specs.Prelude.{Float}
use Rattle.filter_core.specs.Arithmetic.{◌+ᶠ◌, ◌-ᶠ◌, ◌*ᶠ◌, ◌/ᶠ◌, word, zeroᶠ, oneᶠ}
use Rattle.filter_core.specs.Mode.{by_mode}
use Rattle.filter_core.specs.declared.FilterMode.{FilterMode}
use Rattle.filter_core.specs.declared.FrequencyApproximation.{FrequencyApproximation}
use Rattle.filter_core.specs.declared.FrequencyApproximation.TheVariants.{Dirty}
use Rattle.multimode.specs.Multimode.{high_gain, band_gain, low_gain}
use Rattle.one_pole.specs.Tangent.{tan_of}
use Rattle.svf.specs.declared.Svf.{Svf}

abbrev pub svf_new : Svf
svf_new = record { g = zeroᶠ; r = zeroᶠ; h = zeroᶠ; state_1 = zeroᶠ; state_2 = zeroᶠ }

-- ---- setters: every field of the filter after each

abbrev pub svf_reset : Svf → Svf
svf_reset s = record { g = s.g; r = s.r; h = s.h; state_1 = zeroᶠ; state_2 = zeroᶠ }

abbrev pub svf_set_g_r_h : Svf → Float → Float → Float → Svf
svf_set_g_r_h s g r h = record { g = g; r = r; h = h; state_1 = s.state_1; state_2 = s.state_2 }

-- the settings of another filter
abbrev pub svf_set : Svf → Svf → Svf
svf_set s other = svf_set_g_r_h s other.g other.r other.h

abbrev pub svf_set_g_r : Svf → Float → Float → Svf
svf_set_g_r s g r = svf_set_g_r_h s g r (oneᶠ /ᶠ (oneᶠ +ᶠ r *ᶠ g +ᶠ g *ᶠ g))

abbrev pub svf_set_g_q : Svf → Float → Float → Svf
svf_set_g_q s g resonance = svf_set_g_r s g (oneᶠ /ᶠ resonance)

-- what an accepted set_f_q makes of a filter
abbrev pub svf_set_f_q : Svf → Float → Float → FrequencyApproximation → Svf
svf_set_f_q s f resonance a = svf_set_g_q s (tan_of f a) resonance

-- set_f_q at 0.01 and 100.0 by Dirty, then reset
abbrev pub svf_init : Svf → Svf
svf_init s = svf_reset (svf_set_f_q s (word 0x3c23_d70a) (word 0x42c8_0000) Dirty)

-- ---- one sample

abbrev pub svf_high : Svf → Float → Float
svf_high s x = (x -ᶠ s.r *ᶠ s.state_1 -ᶠ s.g *ᶠ s.state_1 -ᶠ s.state_2) *ᶠ s.h

abbrev pub svf_band : Svf → Float → Float
svf_band s x = s.g *ᶠ svf_high s x +ᶠ s.state_1

abbrev pub svf_low : Svf → Float → Float
svf_low s x = s.g *ᶠ svf_band s x +ᶠ s.state_2

-- the filter after the sample x: the settings are kept
unfoldable pub svf_next : Svf → Float → Svf
svf_next s x =
    record {
      g = s.g;
      r = s.r;
      h = s.h;
      state_1 = s.g *ᶠ svf_high s x +ᶠ svf_band s x;
      state_2 = s.g *ᶠ svf_band s x +ᶠ svf_low s x;
    }

-- what a mode puts out for it
unfoldable pub svf_out : FilterMode → Svf → Float → Float
svf_out m s x = by_mode m (svf_low s x) (svf_band s x) (svf_band s x *ᶠ s.r) (svf_high s x)

-- process_add_buffer and process_add_dual_buffer: the output times a gain. Nothing is added
abbrev pub svf_gained : FilterMode → Float → Svf → Float → Float
svf_gained m gain s x = svf_out m s x *ᶠ gain

-- ---- multimode: low-pass at 0, inverted high-pass at 0.5, band-pass at 1

unfoldable pub svf_mixed : Float → Float → Float → Svf → Float → Float
svf_mixed high band low s x = high *ᶠ svf_high s x +ᶠ band *ᶠ svf_band s x +ᶠ low *ᶠ svf_low s x

abbrev pub svf_multimode : Float → Svf → Float → Float
svf_multimode m s x = svf_mixed (high_gain m) (band_gain m) (low_gain m) s x
