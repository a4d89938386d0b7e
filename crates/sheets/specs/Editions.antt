-- The two editions side by side (02 a): what the reader of edition 1 does with the sheets of both, and what a kind byte means in both.
use Rattle.std.specs.Prelude.{ℕ, ◌≡◌, List, [], ◌∷◌, get_or}
use Rattle.sheets.specs.Kind.{setter_in, kind_refusal}
use Rattle.sheets.specs.Sheet.{entries_of, entry_in, check_of, check_entry_of, lookup_of}
use Rattle.sheets.specs.EditionOne.{entries_one, entry_one, check_one, check_entry_one, lookup_one}
use Rattle.sheets.specs.declared.edition.Edition.TheVariants.{One, Two}

-- it declines by size, and shows no setting
pub record Declined (s : List ℕ) : Type 0 where
  pub check : check_one s ≡ 2
  pub entry : (e : ℕ) → check_entry_one s e ≡ 2
  pub lookup : (e : ℕ) → lookup_one s e ≡ []

-- it answers as the reader of both editions does
pub record Agreed (s : List ℕ) : Type 0 where
  pub check : check_one s ≡ check_of s
  pub entry : (e : ℕ) → check_entry_one s e ≡ check_entry_of s e
  pub lookup : (e : ℕ) → lookup_one s e ≡ lookup_of s e

-- it finds the entries that the reader of both finds
pub record Found (s : List ℕ) : Type 0 where
  pub number : entries_one s ≡ entries_of s
  pub entry : (e : ℕ) → entry_one s e ≡ entry_in s e

-- edition 1's sheet of n and the rest r, with edition 2's byte
pub record Raised (n : ℕ) (r : List ℕ) : Type 0 where
  pub check : check_of (n ∷ 2 ∷ r) ≡ 0
  pub entry : (e : ℕ) → entry_in (n ∷ 2 ∷ r) e ≡ entry_in (n ∷ 0 ∷ r) e

pub record BothEditions : Type 0 where
  -- whatever has edition 2's byte is declined, so every sheet of edition 2 is
  pub declined : (s : List ℕ) → get_or s 1 0 ≡ 2 → Declined s
  -- whatever has another byte there gets the same answers
  pub agreed : (s : List ℕ) → (get_or s 1 0 ≡ 2 → ⊥) → Agreed s
  -- whatever has edition 1's byte has the same entries
  pub found : (s : List ℕ) → get_or s 1 0 ≡ 0 → Found s
  -- edition 2 takes what edition 1 takes, with the same entries
  pub raised : (n : ℕ) (r : List ℕ) → check_of (n ∷ 0 ∷ r) ≡ 0 → Raised n r
  -- a kind byte that edition 1 takes names the same setter in edition 2
  pub one_setter : (b : ℕ) → kind_refusal (setter_in One b) ≡ 0 → setter_in One b ≡ setter_in Two b
