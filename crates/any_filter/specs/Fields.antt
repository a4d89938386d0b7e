-- A filter as its type and a row of eight numbers: the fields in the order of their declaration, zeros behind.
use Rattle.std.specs.Prelude.{ℕ, ◌-◌, ◌≡◌, List, [], ◌∷◌, ◌++◌, Float, get_or, replicate, Option, None, Some}
use Rattle.filter_core.specs.Arithmetic.{zeroᶠ}
use Rattle.dc_blocker.specs.Fields.{dc_from, dc_fields}
use Rattle.one_pole.specs.Fields.{one_pole_from, one_pole_fields}
use Rattle.svf.specs.Fields.{svf_from, svf_fields}
use Rattle.naive_svf.specs.Fields.{naive_from, naive_fields}
use Rattle.modified_svf.specs.Fields.{modified_from, modified_fields}
use Rattle.crossover_svf.specs.Fields as crossover
use Rattle.any_filter.specs.Cases.{passes_of, crossover_from, type_of}
use Rattle.any_filter.specs.declared.FilterType.{FilterType}
use Rattle.any_filter.specs.declared.FilterType.TheVariants as type
use Rattle.any_filter.specs.declared.Filter.{Filter}
use Rattle.any_filter.specs.declared.Filter.TheVariants.{DcBlocker, OnePole, Svf, NaiveSvf, ModifiedSvf, CrossoverSvf}

-- 1 to 6, in document 01's order of the types
abbrev pub type_number : FilterType → ℕ
type_number type.DcBlocker = 1
type_number type.OnePole = 2
type_number type.Svf = 3
type_number type.NaiveSvf = 4
type_number type.ModifiedSvf = 5
type_number type.CrossoverSvf = 6

-- the type with a number; 0 and those above 6 are no type's
abbrev pub type_numbered : ℕ → Option FilterType
type_numbered n =
    get_or
    (None
    ∷ Some type.DcBlocker
    ∷ Some type.OnePole
    ∷ Some type.Svf
    ∷ Some type.NaiveSvf
    ∷ Some type.ModifiedSvf
    ∷ Some type.CrossoverSvf
    ∷ [])
    n
    None

abbrev pub field_count : FilterType → ℕ
field_count type.DcBlocker = 3
field_count type.OnePole = 3
field_count type.Svf = 5
field_count type.NaiveSvf = 4
field_count type.ModifiedSvf = 5
field_count type.CrossoverSvf = 8

-- so many numbers, with zeros behind
abbrev pub padded : ℕ → List Float → List Float
padded n fields = fields ++ replicate (8 - n) zeroᶠ

abbrev pub fields_of : Filter → List Float
fields_of (DcBlocker s) = padded 3 (dc_fields s)
fields_of (OnePole s) = padded 3 (one_pole_fields s)
fields_of (Svf s) = padded 5 (svf_fields s)
fields_of (NaiveSvf s) = padded 4 (naive_fields s)
fields_of (ModifiedSvf s) = padded 5 (modified_fields s)
fields_of (CrossoverSvf p) = padded 8 (crossover.crossover_fields (crossover_from p))

abbrev pub filter_from : FilterType → List Float → Filter
filter_from type.DcBlocker v = DcBlocker (dc_from v)
filter_from type.OnePole v = OnePole (one_pole_from v)
filter_from type.Svf v = Svf (svf_from v)
filter_from type.NaiveSvf v = NaiveSvf (naive_from v)
filter_from type.ModifiedSvf v = ModifiedSvf (modified_from v)
filter_from type.CrossoverSvf v = CrossoverSvf (passes_of (crossover.crossover_from v))

-- a filter comes back from its type and its fields
abbrev pub FieldsReturn : Type 0
FieldsReturn = (f : Filter) → filter_from (type_of f) (fields_of f) ≡ f
