use mathlib.Core.Path.{refl}
use lib.Ieee.{of_bits, to_bits, add, sub, mul, div, neg, lt, le, is_nan}
use Rattle.one_pole.specs.Tangent.{dirty_a, fast_a, fast_b, accurate_a, accurate_b, accurate_c, accurate_d, accurate_e}
use Rattle.svf.specs.Svf.{svf_next, svf_out, svf_mixed}
use Rattle.naive_svf.specs.NaiveSvf.{naive_low, naive_high, naive_next, naive_out}
use Rattle.modified_svf.specs.ModifiedSvf.{modified_next, modified_out}
use Rattle.crossover_svf.specs.CrossoverSvf.{crossover_next, crossover_out}
use Rattle.sheets.specs.Refusal.{first_refusal, entry_refusal}
use Rattle.lists.specs.Over.{over}
use Rattle.lists.specs.Table.{table}
use Rattle.planes.specs.Grid.{rows}
use Rattle.runs.specs.Run.{through, first_output}
use Rattle.loads.specs.Load.{filter_for}
use Rattle.heads.specs.History.{type_from, since_from, samples_in, snapshot_from}
use Rattle.saves.specs.Save.{zero_bytes}
use Rattle.rota.specs.Ring.{ring_after}
use Rattle.rota.specs.History.{account, last_served}
use Rattle.saved_heads.specs.Row.{row_of, snapshot_in}
use Rattle.saved_heads.specs.Bytes.{row_at, rows_from, with_row}
use Rattle.frame.specs.History.{replies_to, reply_to, advance, call_number}
use Rattle.trials.specs.Calls.{opened, none_refused}
use Rattle.trials.specs.Routines.{lists_of, routines, routine_at}
use Rattle.worked_examples.proofs.worked_examples.Goals as goal

pub returns : goal.returns
unfolding dirty_a fast_a fast_b accurate_a accurate_b accurate_c accurate_d accurate_e rows of_bits add sub mul div neg lt le is_nan first_refusal entry_refusal over table filter_for through first_output replies_to reply_to advance call_number opened none_refused lists_of routines routine_at zero_bytes type_from since_from samples_in snapshot_from ring_after account last_served to_bits row_of snapshot_in row_at rows_from with_row svf_next svf_out svf_mixed naive_low naive_high naive_next naive_out modified_next modified_out crossover_next crossover_out
returns c =
    record {
      dc_blocker = refl;
      one_pole_low = refl;
      one_pole_band = refl;
      one_pole_state = refl;
      svf_low = record { state = refl; buffer = refl };
      svf_stride = refl;
      svf_in_multimode = refl;
      naive_normalized = refl;
      naive_decimate = refl;
      modified_band = refl;
      crossover_high = refl;
      sheet_accepted = refl;
      sheet_entries = refl;
      sheet_entry = refl;
      sheet_filter = refl;
      break_replies = refl;
      last_replies = refl;
      tangent_at_nan = refl;
      sine_at_nan = refl;
      rest_replies = refl;
      tangent_mirrored = refl;
      sine_mirrored = refl;
      tangent_at_minus_zero = refl;
      mirror_replies = refl;
      tangent_by_series = refl;
      naive_by_series = refl;
      edition_replies = refl;
      edition_kept = refl;
      edition_filter = refl;
      edition_declined = refl;
      edition_not_shown = refl;
      converted_answer = (refl, refl);
      converted_bytes = refl;
      converted_back = refl;
      converted_copy = refl;
      converted_short = refl;
      not_converted = refl;
      count_replies = refl;
      count_last = refl;
      count_over = refl;
      save_replies = refl;
      rota_replies = refl;
      saved_types = refl;
      saved_count = refl;
      evening_replies = refl;
      morning_replies = refl;
      planes_bytes = refl;
      planes_back = refl;
      planes_partial = refl;
      planes_short = refl;
      planes_of_none = refl;
      trials_first = refl;
      trial_back = refl;
      trial_drop = refl;
      trial_count = refl;
      trial_last = refl;
      trial_end = refl;
      exact_dirty_quarter = refl;
      exact_fast_quarter = refl;
      exact_accurate_quarter = refl;
      dirty_beyond_two = refl;
      fast_beyond_two = refl;
      accurate_beyond_four = refl;
      series_beyond_ten = refl;
    }
