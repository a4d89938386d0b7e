-- Horner's rule as a fold from the row's end. Assumes nothing.
use mathlib.Core.Path.{◌≡◌, refl}
use mathlib.Core.List.{List, [], ◌∷◌, ◌++◌, reverse}
use lib.Ieee.{Float}
use Rattle.std.specs.List.{fold}
use Rattle.std.proofs.lemmas.List.{reverse-append}
use Rattle.std.proofs.lemmas.List.Sums.{fold-append}
use Rattle.filter_core.specs.Arithmetic.{◌+ᶠ◌, ◌*ᶠ◌}
use Rattle.filter_core.specs.Series.{horner}

module _ (y : Float) where
  abbrev step : Float → Float → Float
  step sum c = c +ᶠ y *ᶠ sum

  horner-cons : (c l : Float) (cs : List Float) → horner y (c ∷ (cs ++ l ∷ [])) ≡ step (horner y (cs ++ l ∷ [])) c
  horner-cons c l [] = refl
  horner-cons c l (d ∷ cs) = refl

  pub horner-fold : (l : Float) (cs : List Float) → horner y (cs ++ l ∷ []) ≡ fold step l (reverse cs)
  horner-fold l [] = refl
  horner-fold l (c ∷ cs) = rw (horner-cons c l cs, horner-fold l cs, reverse-append (c ∷ []) cs, fold-append step l (reverse cs) (c ∷ [])) refl

  -- the series of a row whose last coefficient is l
  pub folded-series : (l : Float) (cs : List Float) {r : Float} {row : List Float} → row ≡ cs ++ l ∷ [] → r ≡ fold step l (reverse cs) → r ≡ horner y row
  folded-series l cs e f = rw (e, horner-fold l cs) f
