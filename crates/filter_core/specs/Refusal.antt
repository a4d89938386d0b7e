-- The numbers of the refusals, those of the filter calls, and what a refused call hands back.
use Rattle.std.specs.Prelude.{ℕ, ◌≡◌, cond, List, [], eqb, Float, Result, Ok, Err}
use Rattle.std.specs.Float.Ieee.{lt}
use Rattle.filter_core.specs.Arithmetic.{word}
use Rattle.filter_core.specs.Buffer.{Filtered}
use Rattle.filter_core.specs.declared.FrequencyApproximation.{FrequencyApproximation}
use Rattle.filter_core.specs.declared.FrequencyApproximation.TheVariants.{Exact, Accurate, Fast, Dirty, Series}
use Rattle.filter_core.specs.declared.refusal.Refusal.{Refusal}
use Rattle.filter_core.specs.declared.refusal.Refusal.TheVariants as row

-- the number of a row of the refusal table
abbrev pub number : Refusal → ℕ
number row.Head = 1
number row.Size = 2
number row.Kind = 3
number row.Word = 4
number row.Entry = 5
number row.Bare = 6
number row.Mark = 7
number row.Full = 8
number row.Form = 9
number row.Step = 10
number row.Frequency = 11
number row.Short = 12
number row.Waiting = 13
number row.Samples = 14
number row.Series = 15
number row.Unfinished = 16
number row.Finished = 17
number row.Count = 18
number row.Partial = 19
number row.Frame = 20

-- the number that a call answers: 0 where it is accepted
abbrev pub number_in : {A : Type 0} → Result A Refusal → ℕ
number_in (Ok a) = 0
number_in (Err refusal) = number refusal

-- `step` of the refusal table: a stride or a decimation of 0
abbrev pub step_refusal : ℕ → ℕ
step_refusal d = cond (eqb d 0) 10 0

-- the lowest frequency that Exact takes, by 02 c: -0.497
abbrev pub exact_lowest : Float
exact_lowest = word 0xbefe_76c9

-- `frequency` of the refusal table, by 02 c: Exact with f below that. A NaN is not below it
abbrev pub frequency_refusal : Float → FrequencyApproximation → ℕ
frequency_refusal f Exact = cond (lt f exact_lowest) 11 0
frequency_refusal f Accurate = 0
frequency_refusal f Fast = 0
frequency_refusal f Dirty = 0
frequency_refusal f Series = 0

-- what a call with the refusal n (0: accepted) leaves of `was`, where acceptance makes it `made`
abbrev pub unless_refused : {A : Type 0} → ℕ → A → A → A
unless_refused n was made = cond (eqb n 0) made was

-- a form that goes by the step d: its number, and the state and the buffer that it leaves. A refused one filters no sample
pub record Answered {S : Type 0} (d : ℕ) (next : ℕ → S → Float → S) (put : ℕ → S → Float → Float → Float) (s : S) (xs ys : List Float) (number : ℕ) (r : S) (zs : List Float) : Type 0 where
  pub refusal : number ≡ step_refusal d
  pub filtered : Filtered next put s (unless_refused (step_refusal d) [] xs) ys r zs
