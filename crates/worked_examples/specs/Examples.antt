-- The worked examples of document 01, and those for requests of 02, a row each, about the definitions that the contracts cite.
-- An output buffer is lent full of `kept`, so that the places that a form leaves alone show.
use Rattle.std.specs.Prelude.{◌≡◌, ℕ, ◌*◌, ◌^◌, false, List, [], ◌∷◌, ◌++◌, length, take, drop, map, replicate, Float, None, Some}
use Rattle.std.specs.Float.{nan}
use Rattle.filter_core.specs.Arithmetic.{word, zeroᶠ, halfᶠ, oneᶠ, negᶠ}
use Rattle.filter_core.specs.Buffer.{Filtered, buffer_after, each, puts, each_due, puts_due}
use Rattle.filter_core.specs.declared.FilterMode.TheVariants.{LowPass, BandPass, BandPassNormalized, HighPass}
use Rattle.filter_core.specs.declared.FrequencyApproximation.TheVariants.{Exact, Accurate, Fast, Dirty, Series}
use Rattle.dc_blocker.specs.DcBlocker.{dc_next, dc_out}
use Rattle.dc_blocker.specs.declared.DcBlocker.{DcBlocker}
use Rattle.one_pole.specs.OnePole.{one_pole_next, one_pole_out}
use Rattle.one_pole.specs.Tangent.{tan_of}
use Rattle.one_pole.specs.declared.OnePole.{OnePole}
use Rattle.precision.specs.Scaled.{Scaled, exact, within}
use Rattle.precision.specs.Precision.{exact_dirty, exact_fast, exact_accurate, exact_series}
use Rattle.svf.specs.Svf.{svf_next, svf_out, svf_multimode}
use Rattle.svf.specs.declared.Svf.{Svf}
use Rattle.naive_svf.specs.Sine.{naive_frequency}
use Rattle.naive_svf.specs.NaiveSvf.{naive_next, naive_out}
use Rattle.naive_svf.specs.declared.NaiveSvf.{NaiveSvf}
use Rattle.modified_svf.specs.ModifiedSvf.{modified_next, modified_out}
use Rattle.modified_svf.specs.declared.ModifiedSvf.{ModifiedSvf}
use Rattle.crossover_svf.specs.CrossoverSvf.{crossover_next, crossover_out, zeros}
use Rattle.crossover_svf.specs.declared.CrossoverSvf.{CrossoverSvf}
use Rattle.sheets.specs.Sheet.{check_of}
use Rattle.sheets.specs.EditionOne.{check_one, lookup_one}
use Rattle.sheets.specs.declared.edition.Edition.TheVariants.{One, Two}
use Rattle.library.specs.Library.{count as entry_count, library_of, bytes_of, entry_at}
use Rattle.conversion.specs.Conversion.{convert_number, convert_length, converted_of}
use Rattle.planes.specs.Planes.{planes_of, samples_of, arrange_number, arranged}
use Rattle.any_filter.specs.Cases.{passes_of}
use Rattle.any_filter.specs.declared.Filter.{Filter}
use Rattle.any_filter.specs.declared.Filter.TheVariants.{DcBlocker as DcBlockerIn, OnePole as OnePoleIn, Svf as SvfIn, NaiveSvf as NaiveIn, ModifiedSvf as ModifiedIn, CrossoverSvf as CrossoverIn}
use Rattle.saved_heads.specs.Row.{filter_byte, row_of}
use Rattle.saved_heads.specs.Bytes.{record_bytes}
use Rattle.loads.specs.Load.{filter_of}
use Rattle.runs.specs.declared.form.RunForm.TheVariants.{Plain, Stride}
use Rattle.heads.specs.Act.{run, rest, mark, back, count, answered, marked, ran, counted}
use Rattle.heads.specs.Snapshot.{count_refusal, holds}
use Rattle.rota.specs.Call.{tell, turn, of_tell, of_turn}
use Rattle.frame.specs.Call.{Call, opening, loading, at, beginning, taking, at_rota, saving_heads, restoring_heads, Reply, plain, wrote, acted, of_rota}
use Rattle.frame.specs.History.{no_histories, replies_to}
use Rattle.trials.specs.Routines.{routines, routine_at}
use Rattle.trials.specs.declared.TrialCall.TheVariants.{Load, Mark, Back, Drop, Rest}

-- ---- the numbers

-- 7.0, which no example puts out
abbrev pub kept : Float
kept = word 0x40e0_0000

-- 0.25
abbrev pub quarterᶠ : Float
quarterᶠ = word 0x3e80_0000

-- x is n / 2 ^ p
abbrev pub is_fraction : Scaled → ℕ → ℕ → Type 0
is_fraction x n p = x.whole * 2 ^ p ≡ n * 2 ^ x.places

-- 0.625
abbrev pub five_eighthsᶠ : Float
five_eighthsᶠ = word 0x3f20_0000

-- 0.497, where Exact clips
abbrev pub clipᶠ : Float
clipᶠ = word 0x3efe_76c9

-- ---- the filters, all at rest

abbrev pub dc : DcBlocker
dc = record { pole = halfᶠ; x = zeroᶠ; y = zeroᶠ }

abbrev pub one_pole : OnePole
one_pole = record { g = oneᶠ; gi = halfᶠ; state = zeroᶠ }

abbrev pub svf : Svf
svf = record { g = oneᶠ; r = oneᶠ; h = quarterᶠ; state_1 = zeroᶠ; state_2 = zeroᶠ }

abbrev pub naive : NaiveSvf
naive = record { f = halfᶠ; damp = oneᶠ; lp = zeroᶠ; bp = zeroᶠ }

abbrev pub modified : ModifiedSvf
modified = record { f = halfᶠ; fq = halfᶠ; x = zeroᶠ; lp = zeroᶠ; bp = zeroᶠ }

abbrev pub crossover : CrossoverSvf
crossover = record { f = halfᶠ; fq = halfᶠ; x = zeros; lp = zeros; bp = zeros }

-- ---- the sheet of S10, and calls on a fresh frame

abbrev pub sheet : List ℕ
sheet = 0x01 ∷ 0x00 ∷ 0x01 ∷ 0x00 ∷ 0x00 ∷ 0x00 ∷ 0x3f ∷ replicate 8 0

abbrev pub run_one : Call
run_one = at 0 (run (Plain LowPass) (oneᶠ ∷ []) (kept ∷ []))

abbrev pub thread_break : List Call
thread_break = opening sheet ∷ loading 0 0 ∷ run_one ∷ at 0 mark ∷ run_one ∷ at 0 (back 0) ∷ run_one ∷ []

abbrev pub last_head : List Call
last_head = opening sheet ∷ loading 11 0 ∷ loading 12 0 ∷ at 11 mark ∷ at 11 mark ∷ at 11 mark ∷ at 11 mark ∷ at 11 mark ∷ []

-- a sheet of one entry, a modified filter with f and fq 0.5
abbrev pub modified_sheet : List ℕ
modified_sheet = 0x01 ∷ 0x00 ∷ 0x06 ∷ 0x00 ∷ 0x00 ∷ 0x00 ∷ 0x3f ∷ 0x00 ∷ 0x00 ∷ 0x00 ∷ 0x3f ∷ replicate 4 0

abbrev pub run_band : Float → Call
run_band x = at 0 (run (Plain BandPass) (x ∷ []) (kept ∷ []))

abbrev pub two_motifs : List Call
two_motifs = opening modified_sheet ∷ loading 0 0 ∷ run_band oneᶠ ∷ at 0 rest ∷ run_band zeroᶠ ∷ []

-- a sheet of one entry, a one-pole filter in Exact, by the lowest byte of its f: c9 is -0.497, and ca the number next below
abbrev pub mirror_sheet : ℕ → List ℕ
mirror_sheet b = 0x01 ∷ 0x00 ∷ 0x02 ∷ b ∷ 0x76 ∷ 0xfe ∷ 0xbe ∷ replicate 8 0

abbrev pub two_mirrors : List Call
two_mirrors = opening (mirror_sheet 0xc9) ∷ opening (mirror_sheet 0xca) ∷ []

-- a sheet of one entry, a one-pole filter at 0.5 in approximation 4, by its second byte: 2 is edition 2
abbrev pub series_sheet : ℕ → List ℕ
series_sheet v = 0x01 ∷ v ∷ 0x42 ∷ 0x00 ∷ 0x00 ∷ 0x00 ∷ 0x3f ∷ replicate 8 0

abbrev pub three_editions : List Call
three_editions = opening (series_sheet 2) ∷ opening (series_sheet 0) ∷ opening (series_sheet 1) ∷ []

-- the same in Accurate, which both editions have
abbrev pub accurate_sheet : ℕ → List ℕ
accurate_sheet v = 0x01 ∷ v ∷ 0x12 ∷ 0x00 ∷ 0x00 ∷ 0x00 ∷ 0x3f ∷ replicate 8 0

-- an output with room for a byte more than these
abbrev pub longer : List ℕ
longer = replicate 15 0 ++ 0xee ∷ []

-- a sheet of one entry, the Svf of S3
abbrev pub svf_sheet : List ℕ
svf_sheet = 0x01 ∷ 0x00 ∷ 0x04 ∷ 0x00 ∷ 0x00 ∷ 0x80 ∷ 0x3f ∷ 0x00 ∷ 0x00 ∷ 0x80 ∷ 0x3f ∷ 0x00 ∷ 0x00 ∷ 0x80 ∷ 0x3e ∷ []

abbrev pub run_stride : Call
run_stride = at 0 (run (Stride LowPass 2) (oneᶠ ∷ word 0x4110_0000 ∷ zeroᶠ ∷ []) (kept ∷ kept ∷ kept ∷ []))

abbrev pub sewing : List Call
sewing =
    opening svf_sheet
    ∷ loading 0 0
    ∷ run_stride
    ∷ at 0 mark
    ∷ run_stride
    ∷ at 0 rest
    ∷ at 0 count
    ∷ at 0 (back 0)
    ∷ at 0 count
    ∷ loading 0 0
    ∷ at 0 count
    ∷ at 12 count
    ∷ []

-- a sheet is saved in parts, while another is opened
abbrev pub slow_card : List Call
slow_card =
    beginning
    ∷ opening (series_sheet 2)
    ∷ taking (0xee ∷ [])
    ∷ beginning
    ∷ taking (replicate 5 0xee)
    ∷ opening sheet
    ∷ beginning
    ∷ taking []
    ∷ taking (replicate 12 0xee)
    ∷ taking (0xee ∷ [])
    ∷ []

-- head 3 waits for more than a turn grants, and heads 11 and 0 are told meanwhile
abbrev pub one_worker : List Call
one_worker =
    at_rota (tell 12 0)
    ∷ at_rota (tell 3 0)
    ∷ at_rota turn
    ∷ at_rota (tell 3 300)
    ∷ at_rota (tell 3 0)
    ∷ at_rota (tell 11 1)
    ∷ at_rota turn
    ∷ at_rota (tell 0 2)
    ∷ at_rota turn
    ∷ at_rota turn
    ∷ at_rota turn
    ∷ at_rota turn
    ∷ []

abbrev pub grant_of : ℕ → ℕ → Reply
grant_of h n = of_rota (of_turn (Some (record { head = h; samples = n })))

-- the record of a DC blocker with the pole 0.5 and the last sample 1, by the high half of its last output's word and its count
abbrev pub record_of_one : ℕ → ℕ → List ℕ
record_of_one y n =
    (0x00 ∷ 0x00 ∷ 0x00 ∷ 0x3f ∷ 0x00 ∷ 0x00 ∷ 0x80 ∷ 0x3f ∷ 0x00 ∷ 0x00 ∷ y ∷ 0x3f ∷ []) ++ replicate 20 0 ++ (n ∷ 0 ∷ 0 ∷ 0 ∷ [])

-- a frame of which head 0 has sewn two samples and has a mark behind each, saved: 14 rows, three of them of head 0. Its last output was 0.5, and
-- at the older mark 1
abbrev pub saved_frame : List ℕ
saved_frame =
    (14 ∷ 0 ∷ 0 ∷ 1 ∷ 0 ∷ 1 ∷ 0 ∷ 1 ∷ 1 ∷ 0 ∷ 2 ∷ 0 ∷ 3 ∷ 0 ∷ 4 ∷ 0 ∷ 5 ∷ 0 ∷ 6 ∷ 0 ∷ 7 ∷ 0 ∷ 8 ∷ 0 ∷ 9 ∷ 0 ∷ 10 ∷ 0 ∷ 11 ∷ 0 ∷ [])
    ++ record_of_one 0x00 2
    ++ record_of_one 0x80 1
    ++ record_of_one 0x00 2
    ++ replicate 396 0

-- the frame is saved in the evening, and in the morning restored on a fresh one
abbrev pub evening : List Call
evening = opening sheet ∷ loading 0 0 ∷ run_one ∷ at 0 mark ∷ run_one ∷ at 0 mark ∷ saving_heads (replicate 533 0xee) ∷ saving_heads (replicate 535 0xee) ∷ []

abbrev pub morning : List Call
morning =
    restoring_heads (drop 1 saved_frame)
    ∷ at 0 count
    ∷ restoring_heads saved_frame
    ∷ loading 0 0
    ∷ run_one
    ∷ at 0 count
    ∷ at 0 (back 0)
    ∷ run_one
    ∷ at 0 count
    ∷ []

-- 1.0 and 7fa00001, and both in planes
abbrev pub two_samples : List ℕ
two_samples = 0x00 ∷ 0x00 ∷ 0x80 ∷ 0x3f ∷ 0x01 ∷ 0x00 ∷ 0xa0 ∷ 0x7f ∷ []

abbrev pub two_in_planes : List ℕ
two_in_planes = 0x00 ∷ 0x01 ∷ 0x00 ∷ 0x00 ∷ 0x80 ∷ 0xa0 ∷ 0x3f ∷ 0x7f ∷ []

-- ---- the table

pub record WorkedExamples : Type 0 where
  -- S1 of document 01: 1, 1, 0 gives 1, 0.5, -0.75
  pub dc_blocker :
      buffer_after (each dc_next) (puts dc_out) 0 dc (oneᶠ ∷ oneᶠ ∷ zeroᶠ ∷ []) (oneᶠ ∷ oneᶠ ∷ zeroᶠ ∷ [])
      ≡ oneᶠ ∷ halfᶠ ∷ word 0xbf40_0000 ∷ []
  -- S2 of document 01: low-pass 0.5, band-pass 0, and the state 1 after both
  pub one_pole_low : one_pole_out LowPass one_pole oneᶠ ≡ halfᶠ
  pub one_pole_band : one_pole_out BandPass one_pole oneᶠ ≡ zeroᶠ
  pub one_pole_state : (one_pole_next one_pole oneᶠ).state ≡ oneᶠ
  -- S3 of document 01: 0.25 and 0.625, states -0.25 and 0.75
  pub svf_low :
      Filtered (each svf_next) (puts (svf_out LowPass)) svf (oneᶠ ∷ zeroᶠ ∷ []) (kept ∷ kept ∷ [])
      (record { g = oneᶠ; r = oneᶠ; h = quarterᶠ; state_1 = word 0xbe80_0000; state_2 = word 0x3f40_0000 })
      (quarterᶠ ∷ five_eighthsᶠ ∷ [])
  -- S4 of document 01: the 9 between the strides reaches nothing
  pub svf_stride :
      buffer_after (each_due 2 svf_next) (puts_due 2 (svf_out LowPass)) 0 svf (oneᶠ ∷ word 0x4110_0000 ∷ zeroᶠ ∷ []) (kept ∷ kept ∷ kept ∷ [])
      ≡ quarterᶠ ∷ kept ∷ five_eighthsᶠ ∷ []
  -- S5 of document 01: -0.25
  pub svf_in_multimode : buffer_after (each svf_next) (puts (svf_multimode halfᶠ)) 0 svf (oneᶠ ∷ []) (kept ∷ []) ≡ word 0xbe80_0000 ∷ []
  -- S6 of document 01
  pub naive_normalized :
      buffer_after (each naive_next) (puts (naive_out BandPassNormalized)) 0 naive (oneᶠ ∷ zeroᶠ ∷ []) (kept ∷ kept ∷ []) ≡ zeroᶠ ∷ halfᶠ ∷ []
  -- S7 of document 01: 0.3125 stands at its own place
  pub naive_decimate :
      buffer_after (each naive_next) (puts_due 2 (naive_out LowPass)) 0 naive (oneᶠ ∷ zeroᶠ ∷ zeroᶠ ∷ []) (kept ∷ kept ∷ kept ∷ [])
      ≡ zeroᶠ ∷ kept ∷ word 0x3ea0_0000 ∷ []
  -- S8 of document 01
  pub modified_band :
      buffer_after (each (modified_next BandPass)) (puts (modified_out BandPass)) 0 modified (oneᶠ ∷ zeroᶠ ∷ []) (kept ∷ kept ∷ [])
      ≡ halfᶠ ∷ five_eighthsᶠ ∷ []
  -- S9 of document 01
  pub crossover_high :
      buffer_after (each (crossover_next HighPass)) (puts (crossover_out HighPass)) 0 crossover (oneᶠ ∷ []) (kept ∷ []) ≡ quarterᶠ ∷ []
  -- S10 of document 01: a sheet of one entry, a DC blocker with the pole 0.5
  pub sheet_accepted : check_of sheet ≡ 0
  pub sheet_entries : entry_count (library_of sheet) ≡ 1
  pub sheet_entry : entry_at (library_of sheet) 0 ≡ record { kind = 1; a = 0x3f00_0000; b = 0; c = 0 }
  pub sheet_filter : filter_of (entry_at (library_of sheet) 0) ≡ DcBlockerIn (record { pole = halfᶠ; x = zeroᶠ; y = zeroᶠ })
  -- S11 of document 01: the run after the return answers what the run after the mark did
  pub break_replies :
      replies_to no_histories thread_break
      ≡ plain 0
      ∷ plain 0
      ∷ acted (ran 0 (oneᶠ ∷ []))
      ∷ acted (marked 0 0)
      ∷ acted (ran 0 (halfᶠ ∷ []))
      ∷ acted (answered 0)
      ∷ acted (ran 0 (halfᶠ ∷ []))
      ∷ []
  -- S12 of document 01: head 12 is refused with 1, the fifth mark with 8; the four before it have the numbers 0 to 3
  pub last_replies :
      replies_to no_histories last_head
      ≡ plain 0
      ∷ plain 0
      ∷ plain 1
      ∷ acted (marked 0 0)
      ∷ acted (marked 0 1)
      ∷ acted (marked 0 2)
      ∷ acted (marked 0 3)
      ∷ acted (marked 8 0)
      ∷ []
  -- and Exact at a NaN
  pub tangent_at_nan : tan_of nan Exact ≡ tan_of clipᶠ Exact
  pub sine_at_nan : naive_frequency nan Exact ≡ naive_frequency clipᶠ Exact
  -- document 02, e: after a rest the band of a modified filter has nothing left of the 1 before it
  pub rest_replies :
      replies_to no_histories two_motifs
      ≡ plain 0
      ∷ plain 0
      ∷ acted (ran 0 (halfᶠ ∷ []))
      ∷ acted (answered 0)
      ∷ acted (ran 0 (zeroᶠ ∷ []))
      ∷ []
  -- document 02, c: Exact at -0.3 is -1.376382, the naive coefficient -1.6180341; -0.0 has its own value; a sheet may go down to -0.497
  pub tangent_mirrored : tan_of (word 0xbe99_999a) Exact ≡ word 0xbfb0_2d49
  pub sine_mirrored : naive_frequency (word 0xbe99_999a) Exact ≡ word 0xbfcf_1bbe
  pub tangent_at_minus_zero : tan_of (negᶠ zeroᶠ) Exact ≡ negᶠ zeroᶠ
  pub mirror_replies : replies_to no_histories two_mirrors ≡ plain 0 ∷ plain 11 ∷ []
  -- document 02, a: the whole series at 0.5 is 10.617917, where the tangent has none, and gi is 0.08607395. Edition 2 takes it, edition 1 refuses
  -- its kind byte, and the second byte 1 is no edition's. A reader of edition 1 declines the sheet and shows nothing of it
  pub tangent_by_series : tan_of halfᶠ Series ≡ word 0x4129_e2fd
  pub naive_by_series : naive_frequency halfᶠ Series ≡ naive_frequency halfᶠ Dirty
  pub edition_replies : replies_to no_histories three_editions ≡ plain 0 ∷ plain 3 ∷ plain 2 ∷ []
  pub edition_kept : bytes_of (library_of (series_sheet 2)) ≡ series_sheet 2
  pub edition_filter : filter_of (entry_at (library_of (series_sheet 2)) 0) ≡ OnePoleIn (record { g = word 0x4129_e2fd; gi = word 0x3db0_478a; state = zeroᶠ })
  pub edition_declined : check_one (series_sheet 2) ≡ 2
  pub edition_not_shown : lookup_one (series_sheet 2) 0 ≡ []
  -- document 02, f: the sheet in Accurate becomes one of edition 1 and goes back, and the place behind it is kept; one of edition 2 is copied to
  -- edition 2. A byte too little is refused with 12; approximation 4 in edition 1 with 15, which comes first
  pub converted_answer : (convert_number One (accurate_sheet 2) longer ≡ 0) × (convert_length (accurate_sheet 2) ≡ 15)
  pub converted_bytes : converted_of One (accurate_sheet 2) longer ≡ accurate_sheet 0 ++ 0xee ∷ []
  pub converted_back : converted_of Two (accurate_sheet 0) longer ≡ accurate_sheet 2 ++ 0xee ∷ []
  pub converted_copy : converted_of Two (series_sheet 2) longer ≡ series_sheet 2 ++ 0xee ∷ []
  pub converted_short : convert_number One (accurate_sheet 2) (replicate 14 0) ≡ 12
  pub not_converted : convert_number One (series_sheet 2) (replicate 14 0) ≡ 15
  -- document 02, i: two strides of 2 over three samples count six, and a rest leaves them; back to the mark there are three, after a load none.
  -- The last sample that 32 bits count is sewn, one more is refused
  pub count_replies :
      replies_to no_histories sewing
      ≡ plain 0
      ∷ plain 0
      ∷ acted (ran 0 (quarterᶠ ∷ kept ∷ five_eighthsᶠ ∷ []))
      ∷ acted (marked 0 0)
      ∷ acted (ran 0 (word 0x3f30_0000 ∷ kept ∷ word 0x3f08_0000 ∷ []))
      ∷ acted (answered 0)
      ∷ acted (counted 0 6)
      ∷ acted (answered 0)
      ∷ acted (counted 0 3)
      ∷ plain 0
      ∷ acted (counted 0 0)
      ∷ acted (counted 1 0)
      ∷ []
  pub count_last : count_refusal 4294967294 1 ≡ 0
  pub count_over : count_refusal 4294967295 1 ≡ 18
  -- document 02, h: with no library 2; a take of no save 17; five bytes of the sheet that was open at the begin, and behind them, with another
  -- open, its other ten, so its edition too; 16 between them, and a take into no places that ends nothing; a take behind the last byte 17
  pub save_replies :
      replies_to no_histories slow_card
      ≡ plain 2
      ∷ plain 0
      ∷ wrote 17 0 (0xee ∷ [])
      ∷ plain 0
      ∷ wrote 0 5 (0x01 ∷ 0x02 ∷ 0x42 ∷ 0x00 ∷ 0x00 ∷ [])
      ∷ plain 0
      ∷ plain 16
      ∷ wrote 0 0 []
      ∷ wrote 0 10 (0x00 ∷ 0x3f ∷ replicate 8 0 ++ 0xee ∷ 0xee ∷ [])
      ∷ wrote 17 0 (0xee ∷ [])
      ∷ []
  -- document 02, b: 1 before 14, and 13 before 14; none where no head waits. Head 3 gets 256 of its 300, then come 11 and 0 in ring order, though told
  -- later, and then head 3 its other 44
  pub rota_replies :
      replies_to no_histories one_worker
      ≡ of_rota (of_tell 1)
      ∷ of_rota (of_tell 14)
      ∷ of_rota (of_turn None)
      ∷ of_rota (of_tell 0)
      ∷ of_rota (of_tell 13)
      ∷ of_rota (of_tell 0)
      ∷ grant_of 3 256
      ∷ of_rota (of_tell 0)
      ∷ grant_of 11 1
      ∷ grant_of 0 2
      ∷ grant_of 3 44
      ∷ of_rota (of_turn None)
      ∷ []
  -- document 02, k: the six types by their numbers, and a count with its low byte first
  pub saved_types :
      map (λ (f : Filter). filter_byte (Some f)) (DcBlockerIn dc ∷ OnePoleIn one_pole ∷ SvfIn svf ∷ NaiveIn naive ∷ ModifiedIn modified ∷ CrossoverIn (passes_of crossover) ∷ [])
      ≡ 1 ∷ 2 ∷ 3 ∷ 4 ∷ 5 ∷ 6 ∷ []
  pub saved_count : drop 32 (record_bytes (row_of 0 (holds (DcBlockerIn dc) 0x0102_0304))) ≡ 4 ∷ 3 ∷ 2 ∷ 1 ∷ []
  -- an output one byte too short is declined with 12, and one a byte too long keeps its last byte
  pub evening_replies :
      replies_to no_histories evening
      ≡ plain 0
      ∷ plain 0
      ∷ acted (ran 0 (oneᶠ ∷ []))
      ∷ acted (marked 0 0)
      ∷ acted (ran 0 (halfᶠ ∷ []))
      ∷ acted (marked 0 1)
      ∷ wrote 12 0 (replicate 533 0xee)
      ∷ wrote 0 534 (saved_frame ++ 0xee ∷ [])
      ∷ []
  -- without its first byte it is no saved frame, and nothing changes; restored, the head goes on from its third sample with no library, and from
  -- the mark from its second
  pub morning_replies :
      replies_to no_histories morning
      ≡ plain 20
      ∷ acted (counted 0 0)
      ∷ plain 0
      ∷ plain 5
      ∷ acted (ran 0 (quarterᶠ ∷ []))
      ∷ acted (counted 0 3)
      ∷ acted (answered 0)
      ∷ acted (ran 0 (halfᶠ ∷ []))
      ∷ acted (counted 0 2)
      ∷ []
  -- document 02, j: the samples 1.0 and 7fa00001, a NaN that is not the one written elsewhere, and back; the place behind them is kept. Three bytes
  -- into no room are refused with 19, not with 12; a byte of room too little with 12; no samples are fine
  pub planes_bytes : arranged planes_of two_samples (0xee ∷ replicate 7 0 ++ 0xee ∷ []) ≡ two_in_planes ++ 0xee ∷ []
  pub planes_back : arranged samples_of two_in_planes (replicate 8 0xee) ≡ two_samples
  pub planes_partial : arrange_number (replicate 3 0) [] ≡ 19
  pub planes_short : arrange_number two_samples (replicate 7 0) ≡ 12
  pub planes_of_none : arrange_number [] [] ≡ 0
  -- document 02, l: nothing but a load is accepted by an empty head, and no back or drop before a mark. Behind the first back stands the first drop.
  -- They are 254; the last has four rests, and the places from 254 on have none
  pub trials_first : take 5 routines ≡ [] ∷ (Load ∷ []) ∷ (Load ∷ Load ∷ []) ∷ (Load ∷ Mark ∷ []) ∷ (Load ∷ Rest ∷ []) ∷ []
  pub trial_back : routine_at 10 ≡ Some (Load ∷ Mark ∷ Back ∷ [])
  pub trial_drop : routine_at 11 ≡ Some (Load ∷ Mark ∷ Drop ∷ [])
  pub trial_count : length routines ≡ 254
  pub trial_last : routine_at 253 ≡ Some (Load ∷ Rest ∷ Rest ∷ Rest ∷ Rest ∷ [])
  pub trial_end : routine_at 254 ≡ None
  -- document 02, g: at 0.25 the exact polynomials are 16213457 / 2 ^ 24, 267849275 / 2 ^ 28 and 34276890623 / 2 ^ 35. At the worst f
  -- the errors are more than 2, 2, 4 and 10 of the 5, 8, 17 and 33 units that are proved
  pub exact_dirty_quarter : is_fraction (exact_dirty (exact quarterᶠ)) 16213457 24
  pub exact_fast_quarter : is_fraction (exact_fast (exact quarterᶠ)) 267849275 28
  pub exact_accurate_quarter : is_fraction (exact_accurate (exact quarterᶠ)) 34276890623 35
  pub dirty_beyond_two : let f = word 0x3ed5_c7e6 in within 2 (tan_of f Dirty) (exact_dirty (exact f)) ≡ false
  pub fast_beyond_two : let f = word 0x3ef5_3593 in within 2 (tan_of f Fast) (exact_fast (exact f)) ≡ false
  pub accurate_beyond_four : let f = word 0x3ee6_5796 in within 4 (tan_of f Accurate) (exact_accurate (exact f)) ≡ false
  pub series_beyond_ten : let f = word 0x3ef1_2850 in within 10 (tan_of f Series) (exact_series (exact f)) ≡ false
