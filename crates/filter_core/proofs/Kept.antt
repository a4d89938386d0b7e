-- What no sample changes, no run changes: once for every form, any state and anything that is read off it. Assumes nothing.
use Prim.Native.Nat.{ℕ, suc}
use mathlib.Core.Path.{◌≡◌, refl, ◌∙◌}
use mathlib.Core.Bool.{Bool, true, false, cond}
use mathlib.Core.List.{List, [], ◌∷◌}
use lib.Ieee.{Float}
use Rattle.filter_core.specs.Buffer.{state_after, due, each_due}

module _ {S A : Type 0} (read : S → A) where
  -- a form's step after which the same is read off as before it
  abbrev pub Keeps : (ℕ → S → Float → S) → Type 0
  Keeps next = (k : ℕ) (s : S) (x : Float) → read (next k s x) ≡ read s

  pub due_keeps : (step : S → Float → S) → ((s : S) (x : Float) → read (step s x) ≡ read s) → (d : ℕ) → Keeps (each_due d step)
  due_keeps step keeps d k s x = go (due d k)
    where
      go : (b : Bool) → read (cond b (step s x) s) ≡ read s
      go true = keeps s x
      go false = refl

  pub run_keeps : (next : ℕ → S → Float → S) → Keeps next → (k : ℕ) (s : S) (xs : List Float) → read (state_after next k s xs) ≡ read s
  run_keeps next keeps k s [] = refl
  run_keeps next keeps k s (x ∷ xs) = run_keeps next keeps (suc k) (next k s x) xs ∙ keeps k s x
