-- The kind byte: which setter it names, and with which approximation.
use Rattle.std.specs.Prelude.{ℕ, ◌%◌, ◌/◌, [], ◌∷◌, get_or, slice_get, Option, Some, None}
use Rattle.std.specs.Option.{option_and_then}
use Rattle.filter_core.specs.declared.FrequencyApproximation.{FrequencyApproximation}
use Rattle.filter_core.specs.declared.FrequencyApproximation.TheVariants.{Exact, Accurate, Fast, Dirty, Series}
use Rattle.sheets.specs.Edition.{approximations_in}
use Rattle.sheets.specs.declared.edition.Edition.{Edition}
use Rattle.sheets.specs.declared.edition.Edition.TheVariants.{Two}
use Rattle.sheets.specs.declared.setter.Setter.{Setter}
use Rattle.sheets.specs.declared.setter.Setter.TheVariants.{DcBlocker, OnePole, SvfFrequency, SvfCoefficients, NaiveSvf, ModifiedSvf, CrossoverSvf}

-- a setter that takes approximation 0 only
abbrev pub exact : Setter → FrequencyApproximation → Option Setter
exact s Exact = Some s
exact s Accurate = None
exact s Fast = None
exact s Dirty = None
exact s Series = None

-- the kinds 1 to 7; there is no kind 0
abbrev pub setter_for : ℕ → FrequencyApproximation → Option Setter
setter_for kind p =
    get_or
    (None
    ∷ exact DcBlocker p
    ∷ Some (OnePole p)
    ∷ Some (SvfFrequency p)
    ∷ exact SvfCoefficients p
    ∷ Some (NaiveSvf p)
    ∷ exact ModifiedSvf p
    ∷ exact CrossoverSvf p
    ∷ [])
    kind
    None

-- kind byte = kind + 16 * approximation; 02 a: the edition says which approximations there are
abbrev pub setter_in : Edition → ℕ → Option Setter
setter_in e b = option_and_then (setter_for (b % 16)) (slice_get (approximations_in e) (b / 16))

-- a byte that edition 1 takes names the same setter here (Editions.antt), so that a load asks for no edition
abbrev pub setter_of : ℕ → Option Setter
setter_of b = setter_in Two b

-- `kind` of the refusal table
abbrev pub kind_refusal : Option Setter → ℕ
kind_refusal (Some s) = 0
kind_refusal None = 3
