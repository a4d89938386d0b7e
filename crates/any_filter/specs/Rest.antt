-- What a rest is, of all six types at once: a filter's coefficients stay, and whatever else it has is 0.
use Rattle.std.specs.Prelude.{ℕ, ◌-◌, ◌≡◌, List, ◌++◌, Float, take, replicate}
use Rattle.filter_core.specs.Arithmetic.{zeroᶠ}
use Rattle.any_filter.specs.Cases.{type_of, rested}
use Rattle.any_filter.specs.Fields.{fields_of}
use Rattle.any_filter.specs.declared.FilterType.{FilterType}
use Rattle.any_filter.specs.declared.FilterType.TheVariants.{DcBlocker, OnePole, Svf, NaiveSvf, ModifiedSvf, CrossoverSvf}
use Rattle.any_filter.specs.declared.Filter.{Filter}

-- how many of a type's fields are coefficients: they stand first, before those that a sample moves
abbrev pub coefficient_count : FilterType → ℕ
coefficient_count DcBlocker = 1
coefficient_count OnePole = 2
coefficient_count Svf = 3
coefficient_count NaiveSvf = 2
coefficient_count ModifiedSvf = 2
coefficient_count CrossoverSvf = 2

abbrev pub coefficients_of : Filter → List Float
coefficients_of f = take (coefficient_count (type_of f)) (fields_of f)

abbrev pub RestClears : Type 0
RestClears = (f : Filter) → fields_of (rested f) ≡ coefficients_of f ++ replicate (8 - coefficient_count (type_of f)) zeroᶠ
