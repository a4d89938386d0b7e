-- No run changes a coefficient, since no filter's step does. Assumes nothing.
use Rattle.std.specs.Prelude.{⊤}
use mathlib.Core.Path.{◌≡◌, refl}
use mathlib.Core.List.{List}
use lib.Ieee.{Float}
use Rattle.svf.specs.Svf.{svf_next}
use Rattle.naive_svf.specs.NaiveSvf.{naive_next}
use Rattle.modified_svf.specs.ModifiedSvf.{modified_next}
use Rattle.crossover_svf.specs.CrossoverSvf.{crossover_next}
use Rattle.any_filter.specs.Rest.{coefficients_of}
use Rattle.runs.specs.Kept.{RunsKeepCoefficients}
use Rattle.runs.proofs.Steps.{Steps, through_upholds}

steps : (c : List Float) → Steps (λ f. coefficients_of f ≡ c) (λ x. ⊤)
unfolding svf_next naive_next modified_next crossover_next
steps c =
    record {
      dc = λ s x q e. e;
      one_pole = λ s x q e. e;
      svf = λ s x q e. e;
      naive = λ s x q e. e;
      modified = λ mode s x q e. e;
      crossover = λ mode s x q e. e;
    }

pub runs_keep : RunsKeepCoefficients
runs_keep f form us = through_upholds _ _ (steps (coefficients_of f)) f form us (λ k d l. tt) refl
