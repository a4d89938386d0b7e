-- The rules of a saved frame (02 k), as statements about its bytes.
use Rattle.std.specs.Prelude.{ℕ, suc, ◌+◌, ◌*◌, ◌≤◌, ◌≡◌, List, [], ◌∷◌, ◌++◌, length, replicate, IfSome}
use Rattle.std.specs.List.{All}
use Rattle.words.specs.Word.{Bytes}
use Rattle.any_filter.specs.Fields.{type_numbered}
use Rattle.any_filter.specs.Words.{WordsOf}
use Rattle.any_filter.specs.declared.FilterType.{FilterType}
use Rattle.saved_heads.specs.Bytes.{rows_said, rows_in}
use Rattle.saved_heads.specs.declared.Row.{Row}

pub record RowRight (r : Row) : Type 0 where
  pub known : r.filter ≤ 6
  -- of the type that the byte names: zeros behind the fields, and of the NaNs only the written one (`WordsOf`)
  pub words : IfSome (type_numbered r.filter) (λ (k : FilterType). WordsOf k r.words)
  -- the record of an empty head is all zero, with its count
  pub empty : r.filter ≡ 0 → (r.words ≡ replicate 8 0) × (r.count ≡ 0)

-- the rows of head h: its standing filter, then its marks, at most four; no mark is empty, and an empty head has none
pub record HeadRight (h : ℕ) (standing : Row) (marks : List Row) : Type 0 where
  pub number : standing.head ≡ h
  pub numbers : All (λ (r : Row). r.head ≡ h) marks
  pub few : length marks ≤ 4
  pub no_empty : All (λ (r : Row). r.filter ≡ 0 → ⊥) marks
  pub of_empty : standing.filter ≡ 0 → marks ≡ []

-- the rows of the heads from h to 11, in turn
pub data InTurn : ℕ → List Row → Type 0 where
  none_left : InTurn 12 []
  head : {h : ℕ} {rest : List Row} (standing : Row) (marks : List Row) → HeadRight h standing marks → InTurn (suc h) rest
      → InTurn h (standing ∷ (marks ++ rest))

pub record Saved (b : List ℕ) : Type 0 where
  pub bytes : Bytes b
  -- these two follow from `turns`
  pub some : 12 ≤ rows_said b
  pub most : rows_said b ≤ 60
  pub long : length b ≡ 2 + 38 * rows_said b
  pub rows : All RowRight (rows_in b)
  pub turns : InTurn 0 (rows_in b)
