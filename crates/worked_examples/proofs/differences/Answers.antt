use mathlib.Core.Path.{refl}
use lib.Ieee.{of_bits, add, sub, mul, div, neg, lt, le}
use Rattle.one_pole.specs.Tangent.{dirty_a, fast_a, fast_b, accurate_a, accurate_b, accurate_c, accurate_d, accurate_e}
use Rattle.svf.specs.Svf.{svf_next, svf_out}
use Rattle.naive_svf.specs.NaiveSvf.{naive_low, naive_high, naive_next, naive_out}
use Rattle.modified_svf.specs.ModifiedSvf.{modified_out}
use Rattle.crossover_svf.specs.CrossoverSvf.{crossover_out}
use Rattle.worked_examples.proofs.differences.Goals as goal

pub returns : goal.returns
unfolding of_bits add sub mul div neg lt le dirty_a fast_a fast_b accurate_a accurate_b accurate_c accurate_d accurate_e svf_next svf_out naive_low naive_high naive_next naive_out modified_out crossover_out
returns c =
    record {
      exact_quarter = refl;
      series_quarter = refl;
      accurate_quarter = refl;
      fast_quarter = refl;
      quarter_usual = refl;
      dirty_quarter = refl;
      gain_form_overwrites = refl;
      high_at_half = refl;
      band_at_half = refl;
      low_at_half = refl;
      decimate_begins_anew = refl;
      naive_order = refl;
      chamberlin_order = refl;
      naive_exact = refl;
      naive_linear = refl;
      naive_clipped = refl;
      modified_reset_keeps = refl;
      modified_set_clears = refl;
      crossover_reset_clears = refl;
      crossover_set_keeps = refl;
      step_zero = refl;
      exact_below_lowest = refl;
      exact_at_lowest = refl;
      accurate_below_lowest = refl;
    }
