-- The refusal table for the converter (02 f), row by row: the case of each number as a statement about the bytes.
use Rattle.std.specs.Prelude.{ℕ, ◌+◌, ◌*◌, ◌/◌, ◌<◌, ◌≡◌, List, [], ◌∷◌, length}
use Rattle.filter_core.specs.Rows.{First, Only}
use Rattle.sheets.specs.Sheet.{entries_of, kind_at}
use Rattle.sheets.specs.Rows.{Sheet, SheetRow}
use Rattle.sheets.specs.declared.edition.Edition.{Edition}
use Rattle.sheets.specs.declared.edition.Edition.TheVariants.{One}
use Rattle.conversion.specs.Conversion.{convert_number, convert_length}

-- an entry of s uses approximation 4; kind byte = kind + 16 * approximation
pub record UsesSeries (s : List ℕ) : Type 0 where
  pub entry : ℕ
  pub inside : entry < entries_of s
  pub series : kind_at s entry / 16 ≡ 4

-- the numbers of a sheet s that is wanted in the edition v, for an output of m places
pub data ConvertCase (v : Edition) (s : List ℕ) (m : ℕ) : ℕ → Type 0 where
  not_in_edition_1 : v ≡ One → UsesSeries s → ConvertCase v s m 15
  short : m < 2 + 13 * entries_of s → ConvertCase v s m 12

-- what is no sheet gets the number that open gives it; a sheet 15, then 12
pub data ConvertRow (v : Edition) (s : List ℕ) (m : ℕ) : ℕ → Type 0 where
  no_sheet : {r : ℕ} → SheetRow s r → (r ≡ 0 → ⊥) → ConvertRow v s m r
  of_sheet : {r : ℕ} → Sheet s → First (ConvertCase v s m) (15 ∷ 12 ∷ []) r → ConvertRow v s m r

-- a number is given in its row's case, and in no other; an accepted call answers the length of the sheet
pub record ConvertAnswer (v : Edition) (s out : List ℕ) : Type 0 where
  pub number : Only (ConvertRow v s (length out)) (convert_number v s out)
  pub answer : convert_number v s out ≡ 0 → convert_length s ≡ 2 + 13 * entries_of s

abbrev pub ConvertByRows : Type 0
ConvertByRows = (v : Edition) (s out : List ℕ) → ConvertAnswer v s out
