-- Two passes of the modified state-variable filter with the same coefficients: a Linkwitz-Riley crossover.
use Rattle.std.specs.Prelude.{ℕ, List, [], ◌∷◌, Float, get_or}
use Rattle.std.specs.Float.{nan}
use Rattle.filter_core.specs.Arithmetic.{zeroᶠ}
use Rattle.filter_core.specs.declared.FilterMode.{FilterMode}
use Rattle.modified_svf.specs.ModifiedSvf.{modified_next, modified_out}
use Rattle.modified_svf.specs.declared.ModifiedSvf.{ModifiedSvf}
use Rattle.crossover_svf.specs.declared.CrossoverSvf.{CrossoverSvf}

abbrev pub zeros : List Float
zeros = zeroᶠ ∷ zeroᶠ ∷ []

abbrev pub crossover_new : CrossoverSvf
crossover_new = record { f = zeroᶠ; fq = zeroᶠ; x = zeros; lp = zeros; bp = zeros }

-- the last samples x are cleared
abbrev pub crossover_reset : CrossoverSvf → CrossoverSvf
crossover_reset s = record { f = s.f; fq = s.fq; x = zeros; lp = zeros; bp = zeros }

abbrev pub crossover_init : CrossoverSvf → CrossoverSvf
crossover_init s = crossover_reset s

-- the last samples x are kept
abbrev pub crossover_set_f_fq : CrossoverSvf → Float → Float → CrossoverSvf
crossover_set_f_fq s f fq = record { f = f; fq = fq; x = s.x; lp = s.lp; bp = s.bp }

-- ---- one sample

-- the pass k, 0 or 1, as a filter of its own
abbrev pub pass : ℕ → CrossoverSvf → ModifiedSvf
pass k s = record { f = s.f; fq = s.fq; x = get_or s.x k nan; lp = get_or s.lp k nan; bp = get_or s.bp k nan }

-- what the first pass puts out, which is what the second gets
abbrev pub between : FilterMode → CrossoverSvf → Float → Float
between m s x = modified_out m (pass 0 s) x

-- two passes as one filter
abbrev pub joined : CrossoverSvf → ModifiedSvf → ModifiedSvf → CrossoverSvf
joined s a b = record { f = s.f; fq = s.fq; x = a.x ∷ b.x ∷ []; lp = a.lp ∷ b.lp ∷ []; bp = a.bp ∷ b.bp ∷ [] }

-- the filter after the sample x
unfoldable pub crossover_next : FilterMode → CrossoverSvf → Float → CrossoverSvf
crossover_next m s x = joined s (modified_next m (pass 0 s) x) (modified_next m (pass 1 s) (between m s x))

-- what a mode puts out for it
unfoldable pub crossover_out : FilterMode → CrossoverSvf → Float → Float
crossover_out m s x = modified_out m (pass 1 s) (between m s x)
