use mathlib.Core.Path.{refl}
use Rattle.std.proofs.lemmas.List.{drop-replicate}
use Rattle.filter_core.specs.Arithmetic.{zeroᶠ}
use Rattle.any_filter.proofs.padded.Goals as goal

pub returns : goal.returns
returns g c = rw c.copy_from_slice.ensures.after (rw (drop-replicate g.row.N 8 zeroᶠ) refl)
