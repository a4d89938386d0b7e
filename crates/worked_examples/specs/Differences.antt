-- Where the source differs from what is published or is easily misread, by the smallest input that shows it: the port does as the source.
-- docs/DIFFERENCES.md says what each row is about.
use Rattle.std.specs.Prelude.{◌≡◌, [], ◌∷◌, Float}
use Rattle.filter_core.specs.Arithmetic.{◌+ᶠ◌, ◌-ᶠ◌, ◌*ᶠ◌, word, zeroᶠ, halfᶠ, oneᶠ, twoᶠ, negᶠ, πᶠ}
use Rattle.filter_core.specs.Buffer.{buffer_after, each, puts, puts_due}
use Rattle.filter_core.specs.Refusal.{step_refusal, frequency_refusal}
use Rattle.filter_core.specs.declared.FilterMode.TheVariants.{LowPass, BandPass}
use Rattle.filter_core.specs.declared.FrequencyApproximation.TheVariants.{Exact, Accurate, Fast, Dirty, Series}
use Rattle.one_pole.specs.Tangent.{tan_of}
use Rattle.multimode.specs.Multimode.{high_gain, band_gain, low_gain}
use Rattle.svf.specs.Svf.{svf_next, svf_gained}
use Rattle.naive_svf.specs.Sine.{naive_frequency}
use Rattle.naive_svf.specs.NaiveSvf.{naive_next, naive_out, naive_high}
use Rattle.naive_svf.specs.declared.NaiveSvf.{NaiveSvf}
use Rattle.modified_svf.specs.ModifiedSvf.{modified_reset, modified_set_f_fq, modified_out}
use Rattle.modified_svf.specs.declared.ModifiedSvf.{ModifiedSvf}
use Rattle.crossover_svf.specs.CrossoverSvf.{crossover_reset, crossover_set_f_fq, crossover_out, zeros}
use Rattle.crossover_svf.specs.declared.CrossoverSvf.{CrossoverSvf}
use Rattle.worked_examples.specs.Examples.{kept, quarterᶠ, svf, naive}

-- the tangent at 0.25 by the usual two coefficients, 0.31755 and 0.2033, which the source's comment names beside those of Fast
abbrev pub usual_quarter : Float
usual_quarter =
    let p = πᶠ *ᶠ πᶠ in
    let a = word 0x3ea2_95ea *ᶠ (p *ᶠ πᶠ) in
    let b = word 0x3e50_2de0 *ᶠ (p *ᶠ πᶠ *ᶠ p) in
    let y = quarterᶠ *ᶠ quarterᶠ in
    quarterᶠ *ᶠ (πᶠ +ᶠ y *ᶠ (a +ᶠ b *ᶠ y))

-- 0.158, where NaiveSvf clips when it is not Exact
abbrev pub low_clipᶠ : Float
low_clipᶠ = word 0x3e21_cac1

-- the band 2⁻²⁵ and the low-pass output 2⁻²⁴: so small that the order in which 1 loses them shows
abbrev pub tinyᶠ : Float
tinyᶠ = word 0x3300_0000

abbrev pub smallᶠ : Float
smallᶠ = word 0x3380_0000

abbrev pub naive_small : NaiveSvf
naive_small = record { f = zeroᶠ; damp = oneᶠ; lp = smallᶠ; bp = tinyᶠ }

-- filters whose last sample was 1, with nothing else retained
abbrev pub modified_after_one : ModifiedSvf
modified_after_one = record { f = halfᶠ; fq = halfᶠ; x = oneᶠ; lp = zeroᶠ; bp = zeroᶠ }

abbrev pub crossover_after_one : CrossoverSvf
crossover_after_one = record { f = halfᶠ; fq = halfᶠ; x = oneᶠ ∷ zeroᶠ ∷ []; lp = zeros; bp = zeros }

pub record Differences : Type 0 where
  -- the tangent of an eighth turn is 1. By the series, so by Exact and by Series, 1.0000001; by Accurate, which lacks a coefficient,
  -- 0.9975888; by Fast 0.9978163, where the usual pair has 0.9999983; by Dirty 0.9663973
  pub exact_quarter : tan_of quarterᶠ Exact ≡ word 0x3f80_0001
  pub series_quarter : tan_of quarterᶠ Series ≡ word 0x3f80_0001
  pub accurate_quarter : tan_of quarterᶠ Accurate ≡ word 0x3f7f_61fb
  pub fast_quarter : tan_of quarterᶠ Fast ≡ word 0x3f7f_70e4
  pub quarter_usual : usual_quarter ≡ word 0x3f7f_ffe3
  pub dirty_quarter : tan_of quarterᶠ Dirty ≡ word 0x3f77_65d1
  -- process_add_buffer with gain 2 on a buffer that held 7 leaves 0.5, not 7.5
  pub gain_form_overwrites : buffer_after (each svf_next) (puts (svf_gained LowPass twoᶠ)) 0 svf (oneᶠ ∷ []) (kept ∷ []) ≡ halfᶠ ∷ []
  -- the gains of multimode at 0.5
  pub high_at_half : high_gain halfᶠ ≡ negᶠ oneᶠ
  pub band_at_half : band_gain halfᶠ ≡ zeroᶠ
  pub low_at_half : low_gain halfᶠ ≡ zeroᶠ
  -- process_decimate by 2, a call with 1 and one with 0: the second call writes its first place again
  pub decimate_begins_anew :
      buffer_after (each naive_next) (puts_due 2 (naive_out LowPass)) 0 (naive_next naive oneᶠ) (zeroᶠ ∷ []) (kept ∷ []) ≡ quarterᶠ ∷ []
  -- NaiveSvf takes the damped band from the sample first, Chamberlin the low-pass output
  pub naive_order : naive_high naive_small oneᶠ ≡ word 0x3f7f_ffff
  pub chamberlin_order : oneᶠ -ᶠ smallᶠ -ᶠ tinyᶠ ≡ word 0x3f7f_fffe
  -- the frequency coefficient at 0.158: by the sine 0.9524765, else 0.9927434, and so above
  pub naive_exact : naive_frequency low_clipᶠ Exact ≡ word 0x3f73_d580
  pub naive_linear : naive_frequency low_clipᶠ Dirty ≡ word 0x3f7e_246e
  pub naive_clipped : naive_frequency halfᶠ Dirty ≡ word 0x3f7e_246e
  -- ModifiedSvf: a band-pass sample 0 shows the last sample after reset, and not after set_f_fq
  pub modified_reset_keeps : modified_out BandPass (modified_reset modified_after_one) zeroᶠ ≡ halfᶠ
  pub modified_set_clears : modified_out BandPass (modified_set_f_fq modified_after_one halfᶠ halfᶠ) zeroᶠ ≡ zeroᶠ
  -- CrossoverSvf: the reverse
  pub crossover_reset_clears : crossover_out BandPass (crossover_reset crossover_after_one) zeroᶠ ≡ zeroᶠ
  pub crossover_set_keeps : crossover_out BandPass (crossover_set_f_fq crossover_after_one halfᶠ halfᶠ) zeroᶠ ≡ quarterᶠ
  -- refusals that the source has not: a step of 0, and Exact below -0.497, which itself is taken
  pub step_zero : step_refusal 0 ≡ 10
  pub exact_below_lowest : frequency_refusal (word 0xbefe_76ca) Exact ≡ 11
  pub exact_at_lowest : frequency_refusal (word 0xbefe_76c9) Exact ≡ 0
  pub accurate_below_lowest : frequency_refusal (word 0xbefe_76ca) Accurate ≡ 0
