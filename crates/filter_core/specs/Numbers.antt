-- Modes and approximations by number, in their order of declaration.
use Rattle.std.specs.Prelude.{ℕ, cond, eqb}
use Rattle.filter_core.specs.declared.FilterMode.{FilterMode}
use Rattle.filter_core.specs.declared.FilterMode.TheVariants.{LowPass, BandPass, BandPassNormalized, HighPass}
use Rattle.filter_core.specs.declared.FrequencyApproximation.{FrequencyApproximation}
use Rattle.filter_core.specs.declared.FrequencyApproximation.TheVariants.{Exact, Accurate, Fast, Dirty, Series}

abbrev pub last_mode : ℕ
last_mode = 3

-- 4 is 02 a's
abbrev pub last_approximation : ℕ
last_approximation = 4

-- a number above the last names none; it is refused before this is asked
abbrev pub mode_of : ℕ → FilterMode
mode_of n = cond (eqb n 0) LowPass (cond (eqb n 1) BandPass (cond (eqb n 2) BandPassNormalized HighPass))

abbrev pub approximation_of : ℕ → FrequencyApproximation
approximation_of n = cond (eqb n 0) Exact (cond (eqb n 1) Accurate (cond (eqb n 2) Fast (cond (eqb n 3) Dirty Series)))
