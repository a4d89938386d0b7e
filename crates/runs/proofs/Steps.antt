-- What every filter's step upholds, every run upholds: the forms are gone through once, whatever is asked of the filter and of the samples.
-- Assumes nothing.
use Prim.Native.Nat.{ℕ, suc}
use mathlib.Core.Bool.{Bool, true, false, cond}
use mathlib.Core.List.{List, [], ◌∷◌}
use lib.Ieee.{Float}
use Rattle.std.specs.List.{All}
use Rattle.std.proofs.lemmas.List.Elements.{All-head, All-tail}
use Rattle.filter_core.specs.Buffer.{state_after, due, each_due}
use Rattle.filter_core.specs.declared.FilterMode.{FilterMode}
use Rattle.dc_blocker.specs.DcBlocker.{dc_next}
use Rattle.one_pole.specs.OnePole.{one_pole_next}
use Rattle.svf.specs.Svf.{svf_next}
use Rattle.naive_svf.specs.NaiveSvf.{naive_next}
use Rattle.modified_svf.specs.ModifiedSvf.{modified_next}
use Rattle.crossover_svf.specs.CrossoverSvf.{crossover_next}
use Rattle.crossover_svf.specs.declared.CrossoverSvf as crossover
use Rattle.any_filter.specs.Cases.{passes_of}
use Rattle.any_filter.specs.declared.Filter.{Filter}
use Rattle.any_filter.specs.declared.Filter.TheVariants.{DcBlocker, OnePole, Svf, NaiveSvf, ModifiedSvf, CrossoverSvf}
use Rattle.runs.specs.Run.{Form, only_plain, svf_form, naive_form, through}
use Rattle.runs.specs.declared.form.RunForm.{RunForm}
use Rattle.runs.specs.declared.form.RunForm.TheVariants.{Plain, Gain, Stride, Multimode, Decimate, Gains, Pair, Split}

abbrev of_crossover : crossover.CrossoverSvf → Filter
of_crossover s = CrossoverSvf (passes_of s)

-- P is asked of a filter, before a sample and after it, and Q of the sample
module _ (P : Filter → Type 0) (Q : Float → Type 0) where
  -- a step of the filters with the state S, which `of` makes a case
  abbrev pub Upholds : {S : Type 0} → (S → Filter) → (S → Float → S) → Type 0
  Upholds {S} of step = (s : S) (x : Float) → Q x → P (of s) → P (of (step s x))

  pub record Steps : Type 0 where
    pub dc : Upholds DcBlocker dc_next
    pub one_pole : Upholds OnePole one_pole_next
    pub svf : Upholds Svf svf_next
    pub naive : Upholds NaiveSvf naive_next
    pub modified : (mode : FilterMode) → Upholds ModifiedSvf (modified_next mode)
    pub crossover : (mode : FilterMode) → Upholds of_crossover (crossover_next mode)

  -- a form's step, which goes by the sample's place
  abbrev Always : {S : Type 0} → (S → Filter) → (ℕ → S → Float → S) → Type 0
  Always of next = (k : ℕ) → Upholds of (next k)

  module _ {S : Type 0} (of : S → Filter) where
    due_upholds : (step : S → Float → S) → Upholds of step → (d : ℕ) → Always of (each_due d step)
    due_upholds step u d k s x q p = go (due d k)
      where
        go : (b : Bool) → P (of (cond b (step s x) s))
        go true = u s x q p
        go false = p

    -- a form that the filter does not have moves nothing
    stays : Always of (λ k s x. s)
    stays k s x q p = p

    plain_upholds : (form : FilterMode → Form S) → ((mode : FilterMode) → Always of (form mode).next) → (r : RunForm) → Always of (only_plain form r).next
    plain_upholds form u (Plain mode) = u mode
    plain_upholds form u (Gain mode gain) = stays
    plain_upholds form u (Stride mode step) = stays
    plain_upholds form u (Multimode value) = stays
    plain_upholds form u (Decimate mode step) = stays
    plain_upholds form u (Gains mode a b) = stays
    plain_upholds form u (Pair a b) = stays
    plain_upholds form u Split = stays

    run_upholds : (next : ℕ → S → Float → S) → Always of next → (k : ℕ) (s : S) (us : List Float) → All Q us → P (of s) → P (of (state_after next k s us))
    run_upholds next u k s [] qs p = p
    run_upholds next u k s (x ∷ us) qs p = run_upholds next u (suc k) (next k s x) us (All-tail Q x us qs) (u k s x (All-head Q x us qs) p)

  svf_upholds : Upholds Svf svf_next → (r : RunForm) → Always Svf (svf_form r).next
  svf_upholds u (Plain mode) = λ k. u
  svf_upholds u (Gain mode gain) = λ k. u
  svf_upholds u (Stride mode step) = due_upholds Svf svf_next u step
  svf_upholds u (Multimode value) = λ k. u
  svf_upholds u (Decimate mode step) = stays Svf
  svf_upholds u (Gains mode a b) = λ k. u
  svf_upholds u (Pair a b) = λ k. u
  svf_upholds u Split = stays Svf

  naive_upholds : Upholds NaiveSvf naive_next → (r : RunForm) → Always NaiveSvf (naive_form r).next
  naive_upholds u (Plain mode) = λ k. u
  naive_upholds u (Gain mode gain) = stays NaiveSvf
  naive_upholds u (Stride mode step) = stays NaiveSvf
  naive_upholds u (Multimode value) = stays NaiveSvf
  naive_upholds u (Decimate mode step) = λ k. u
  naive_upholds u (Gains mode a b) = stays NaiveSvf
  naive_upholds u (Pair a b) = stays NaiveSvf
  naive_upholds u Split = λ k. u

  pub through_upholds : Steps → (f : Filter) (form : RunForm) (us : List Float) → All Q us → P f → P (through f form us)
  unfolding through
  through_upholds u (DcBlocker s) form us = run_upholds DcBlocker _ (plain_upholds DcBlocker _ (λ mode k. u.dc) form) 0 s us
  through_upholds u (OnePole s) form us = run_upholds OnePole _ (plain_upholds OnePole _ (λ mode k. u.one_pole) form) 0 s us
  through_upholds u (Svf s) form us = run_upholds Svf _ (svf_upholds u.svf form) 0 s us
  through_upholds u (NaiveSvf s) form us = run_upholds NaiveSvf _ (naive_upholds u.naive form) 0 s us
  through_upholds u (ModifiedSvf s) form us = run_upholds ModifiedSvf _ (plain_upholds ModifiedSvf _ (λ mode k. u.modified mode) form) 0 s us
  through_upholds u (CrossoverSvf p) form us = run_upholds of_crossover _ (plain_upholds of_crossover _ (λ mode k. u.crossover mode) form) 0 _ us
