-- A run of an Svf keeps the filter's settings, so that its state is all there is to hand back. Assumes nothing.
use Prim.Native.Nat.{ℕ}
use mathlib.Core.Path.{◌≡◌, refl}
use mathlib.Core.List.{List}
use lib.Ieee.{Float}
use Rattle.filter_core.specs.Buffer.{state_after, each, each_due}
use Rattle.filter_core.proofs.Kept.{run_keeps, due_keeps}
use Rattle.svf.specs.Svf.{svf_next}
use Rattle.svf.specs.declared.Svf.{Svf}

-- whatever is read off the settings
module _ (read : Float → Float → Float → Float) where
  abbrev setting : Svf → Float
  setting s = read s.g s.r s.h

  same : (s : Svf) (x : Float) → setting (svf_next s x) ≡ setting s
  unfolding svf_next
  same s x = refl

  after_each : (s : Svf) (xs : List Float) → setting (state_after (each svf_next) 0 s xs) ≡ setting s
  after_each s = run_keeps setting (each svf_next) (λ k. same) 0 s

  after_due : (d : ℕ) (s : Svf) (xs : List Float) → setting (state_after (each_due d svf_next) 0 s xs) ≡ setting s
  after_due d s = run_keeps setting (each_due d svf_next) (due_keeps setting svf_next same d) 0 s

module _ (s : Svf) (xs : List Float) where
  pub kept_g : (state_after (each svf_next) 0 s xs).g ≡ s.g
  kept_g = after_each (λ g r h. g) s xs

  pub kept_r : (state_after (each svf_next) 0 s xs).r ≡ s.r
  kept_r = after_each (λ g r h. r) s xs

  pub kept_h : (state_after (each svf_next) 0 s xs).h ≡ s.h
  kept_h = after_each (λ g r h. h) s xs

  module _ (d : ℕ) where
    pub due_g : (state_after (each_due d svf_next) 0 s xs).g ≡ s.g
    due_g = after_due (λ g r h. g) d s xs

    pub due_r : (state_after (each_due d svf_next) 0 s xs).r ≡ s.r
    due_r = after_due (λ g r h. r) d s xs

    pub due_h : (state_after (each_due d svf_next) 0 s xs).h ≡ s.h
    due_h = after_due (λ g r h. h) d s xs

pub ruleset kept = (kept_g, kept_r, kept_h)

pub ruleset due_kept = (due_g, due_r, due_h)
