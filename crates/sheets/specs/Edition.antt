-- The edition of a sheet, which its second byte says (02 a), and the approximations that a kind byte may name in it.
use Rattle.std.specs.Prelude.{ℕ, cond, List, [], ◌∷◌, eqb}
use Rattle.filter_core.specs.declared.FrequencyApproximation.{FrequencyApproximation}
use Rattle.filter_core.specs.declared.FrequencyApproximation.TheVariants.{Exact, Accurate, Fast, Dirty, Series}
use Rattle.sheets.specs.declared.edition.Edition.{Edition}
use Rattle.sheets.specs.declared.edition.Edition.TheVariants.{One, Two}

abbrev pub edition_byte : Edition → ℕ
edition_byte One = 0
edition_byte Two = 2

-- what is no edition's byte is read as edition 1, and refused
abbrev pub edition_of : ℕ → Edition
edition_of b = cond (eqb b 2) Two One

-- `size` of the refusal table, for the second byte (02 a)
abbrev pub edition_refusal : ℕ → ℕ
edition_refusal b = cond (eqb b 0) 0 (cond (eqb b 2) 0 2)

-- approximation 0, 1, 2, ..: the source's four, and in edition 2 the whole series too
abbrev pub approximations_in : Edition → List FrequencyApproximation
approximations_in One = Exact ∷ Accurate ∷ Fast ∷ Dirty ∷ []
approximations_in Two = Exact ∷ Accurate ∷ Fast ∷ Dirty ∷ Series ∷ []
