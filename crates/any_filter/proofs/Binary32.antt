-- A rest leaves no field that binary32 does not hold: it keeps the coefficients, and all else is 0. Assumes nothing.
use lib.Ieee.Bits.{of_bits-fits}
use Rattle.std.specs.List.{AllByRecursion}
use Rattle.std.proofs.lemmas.List.Elements.{All-append, All-take, All-replicate}
use Rattle.any_filter.specs.Cases.{rested}
use Rattle.any_filter.specs.Fields.{fields_of}
use Rattle.any_filter.specs.Binary32.{IsBinary32, Representable}
use Rattle.any_filter.specs.declared.Filter.{Filter}
use Rattle.any_filter.proofs.Laws.{clears}

-- the same as a tuple with a fact of each field, which `search` takes apart
abbrev pub FieldsHeld : Filter → Type 0
FieldsHeld f = AllByRecursion IsBinary32 (fields_of f)

pub rested_held : (f : Filter) → Representable f → Representable (rested f)
rested_held f h = rw (clears f) (search (All-append IsBinary32, All-take IsBinary32, All-replicate IsBinary32, of_bits-fits))
