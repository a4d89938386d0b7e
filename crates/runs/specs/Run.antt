-- What each form does with each filter. A form that a filter does not have is refused before any of this is asked: it changes nothing.
use Rattle.std.specs.Prelude.{ℕ, ◌≡◌, List, Float}
use Rattle.filter_core.specs.Buffer.{state_after, buffer_after, each, puts, each_due, puts_due}
use Rattle.filter_core.specs.Refusal.{unless_refused}
use Rattle.filter_core.specs.declared.FilterMode.{FilterMode}
use Rattle.dc_blocker.specs.DcBlocker.{dc_next, dc_out}
use Rattle.one_pole.specs.OnePole.{one_pole_next, one_pole_out}
use Rattle.svf.specs.Svf.{svf_next, svf_out, svf_gained, svf_multimode}
use Rattle.naive_svf.specs.NaiveSvf.{naive_next, naive_out, naive_low, naive_high}
use Rattle.modified_svf.specs.ModifiedSvf.{modified_next, modified_out}
use Rattle.crossover_svf.specs.CrossoverSvf.{crossover_next, crossover_out}
use Rattle.dc_blocker.specs.declared.DcBlocker as dc
use Rattle.one_pole.specs.declared.OnePole as one_pole
use Rattle.svf.specs.declared.Svf as svf
use Rattle.naive_svf.specs.declared.NaiveSvf as naive
use Rattle.modified_svf.specs.declared.ModifiedSvf as modified
use Rattle.crossover_svf.specs.declared.CrossoverSvf as crossover
use Rattle.any_filter.specs.Cases.{type_of, passes_of, crossover_from}
use Rattle.any_filter.specs.declared.Filter.{Filter}
use Rattle.any_filter.specs.declared.Filter.TheVariants.{DcBlocker, OnePole, Svf, NaiveSvf, ModifiedSvf, CrossoverSvf}
use Rattle.runs.specs.Form.{run_refusal, run_two_refusal}
use Rattle.runs.specs.declared.form.RunForm.{RunForm}
use Rattle.runs.specs.declared.form.RunForm.TheVariants.{Plain, Gain, Stride, Multimode, Decimate, Gains, Pair, Split}

-- ---- a form, for a filter with the state S: the state after a sample, and what is put to the first and to the second output

pub record Form (S : Type 0) : Type 0 where
  pub next : ℕ → S → Float → S
  pub first : ℕ → S → Float → Float → Float
  pub second : ℕ → S → Float → Float → Float

-- an output that stays as lent
abbrev pub keeps : {S : Type 0} → ℕ → S → Float → Float → Float
keeps k s x y = y

abbrev pub absent : {S : Type 0} → Form S
absent = record { next = λ k s x. s; first = keeps; second = keeps }

abbrev pub one_output : {S : Type 0} → (ℕ → S → Float → S) → (ℕ → S → Float → Float → Float) → Form S
one_output next put = record { next = next; first = put; second = keeps }

-- every sample is filtered and every place written
abbrev pub throughout : {S : Type 0} → (S → Float → S) → (S → Float → Float) → Form S
throughout next out = one_output (each next) (puts out)

abbrev pub two_outputs : {S : Type 0} → (S → Float → S) → (S → Float → Float) → (S → Float → Float) → Form S
two_outputs next a b = record { next = each next; first = puts a; second = puts b }

-- ---- the forms of each filter

abbrev pub svf_form : RunForm → Form svf.Svf
svf_form (Plain mode) = throughout svf_next (svf_out mode)
svf_form (Gain mode gain) = throughout svf_next (svf_gained mode gain)
svf_form (Stride mode step) = one_output (each_due step svf_next) (puts_due step (svf_out mode))
svf_form (Multimode value) = throughout svf_next (svf_multimode value)
svf_form (Decimate mode step) = absent
svf_form (Gains mode a b) = two_outputs svf_next (svf_gained mode a) (svf_gained mode b)
svf_form (Pair a b) = two_outputs svf_next (svf_out a) (svf_out b)
svf_form Split = absent

abbrev pub naive_form : RunForm → Form naive.NaiveSvf
naive_form (Plain mode) = throughout naive_next (naive_out mode)
naive_form (Gain mode gain) = absent
naive_form (Stride mode step) = absent
naive_form (Multimode value) = absent
naive_form (Decimate mode step) = one_output (each naive_next) (puts_due step (naive_out mode))
naive_form (Gains mode a b) = absent
naive_form (Pair a b) = absent
naive_form Split = two_outputs naive_next naive_low naive_high

-- a filter that has the plain form alone
abbrev pub only_plain : {S : Type 0} → (FilterMode → Form S) → RunForm → Form S
only_plain form (Plain mode) = form mode
only_plain form (Gain mode gain) = absent
only_plain form (Stride mode step) = absent
only_plain form (Multimode value) = absent
only_plain form (Decimate mode step) = absent
only_plain form (Gains mode a b) = absent
only_plain form (Pair a b) = absent
only_plain form Split = absent

-- the DC blocker ignores its mode
abbrev pub dc_form : RunForm → Form dc.DcBlocker
dc_form = only_plain (λ mode. throughout dc_next dc_out)

abbrev pub one_pole_form : RunForm → Form one_pole.OnePole
one_pole_form = only_plain (λ mode. throughout one_pole_next (one_pole_out mode))

abbrev pub modified_form : RunForm → Form modified.ModifiedSvf
modified_form = only_plain (λ mode. throughout (modified_next mode) (modified_out mode))

abbrev pub crossover_form : RunForm → Form crossover.CrossoverSvf
crossover_form = only_plain (λ mode. throughout (crossover_next mode) (crossover_out mode))

-- ---- any filter: the state of its own type, which `filter` makes a case, and its form

pub record Machine : Type 1 where
  pub State : Type 0
  pub filter : State → Filter
  pub form : Form State
  pub start : State

abbrev pub machine_of : Filter → RunForm → Machine
machine_of (DcBlocker s) form = record { State = dc.DcBlocker; filter = DcBlocker; form = dc_form form; start = s }
machine_of (OnePole s) form = record { State = one_pole.OnePole; filter = OnePole; form = one_pole_form form; start = s }
machine_of (Svf s) form = record { State = svf.Svf; filter = Svf; form = svf_form form; start = s }
machine_of (NaiveSvf s) form = record { State = naive.NaiveSvf; filter = NaiveSvf; form = naive_form form; start = s }
machine_of (ModifiedSvf s) form = record { State = modified.ModifiedSvf; filter = ModifiedSvf; form = modified_form form; start = s }
machine_of (CrossoverSvf p) form =
    record { State = crossover.CrossoverSvf; filter = λ s. CrossoverSvf (passes_of s); form = crossover_form form; start = crossover_from p }

-- the filter after a run of the form over the samples
unfoldable pub through : Filter → RunForm → List Float → Filter
through f form us = let m = machine_of f form in m.filter (state_after m.form.next 0 m.start us)

-- the first output, lent as ys, after it
unfoldable pub first_output : Filter → RunForm → List Float → List Float → List Float
first_output f form us ys = let m = machine_of f form in buffer_after m.form.next m.form.first 0 m.start us ys

-- the second output, lent as zs, after it
unfoldable pub second_output : Filter → RunForm → List Float → List Float → List Float
second_output f form us zs = let m = machine_of f form in buffer_after m.form.next m.form.second 0 m.start us zs

-- ---- what a run leaves: the filter and the outputs. A refused one leaves them as they were

-- of a filter s of one type
pub record RanBy {S : Type 0} (refusal : ℕ) (form : Form S) (s : S) (us ys : List Float) (r : S) (ys' : List Float) : Type 0 where
  pub filter_is : r ≡ unless_refused refusal s (state_after form.next 0 s us)
  pub output_is : ys' ≡ unless_refused refusal ys (buffer_after form.next form.first 0 s us ys)

pub record RanTwoBy {S : Type 0} (refusal : ℕ) (form : Form S) (s : S) (us ys zs : List Float) (r : S) (ys' zs' : List Float) : Type 0 where
  pub filter_is : r ≡ unless_refused refusal s (state_after form.next 0 s us)
  pub first_is : ys' ≡ unless_refused refusal ys (buffer_after form.next form.first 0 s us ys)
  pub second_is : zs' ≡ unless_refused refusal zs (buffer_after form.next form.second 0 s us zs)

-- the same of any filter
pub record Ran (f : Filter) (form : RunForm) (us ys : List Float) (r : Filter) (ys' : List Float) : Type 0 where
  pub filter_is : r ≡ unless_refused (run_refusal (type_of f) form) f (through f form us)
  pub output_is : ys' ≡ unless_refused (run_refusal (type_of f) form) ys (first_output f form us ys)

pub record RanTwo (f : Filter) (form : RunForm) (us ys zs : List Float) (r : Filter) (ys' zs' : List Float) : Type 0 where
  pub filter_is : r ≡ unless_refused (run_two_refusal (type_of f) form) f (through f form us)
  pub first_is : ys' ≡ unless_refused (run_two_refusal (type_of f) form) ys (first_output f form us ys)
  pub second_is : zs' ≡ unless_refused (run_two_refusal (type_of f) form) zs (second_output f form us zs)
