-- When 12 and 20 are given: the two rows of the refusal table that 02 k has. The rows of a saved frame are in Row.antt.
use Rattle.std.specs.Prelude.{ℕ, ◌+◌, ◌*◌, ◌<◌, ◌≡◌, List, [], ◌∷◌, length}
use Rattle.filter_core.specs.Rows.{Exactly}
use Rattle.heads.specs.declared.Head.{Head}
use Rattle.saved_heads.specs.Bytes.{rows_from}
use Rattle.saved_heads.specs.Saved.{save_number, restore_refusal}
use Rattle.saved_heads.specs.Rules.{Saved}

-- a save of n rows into m places
pub data SaveCase (n m : ℕ) : ℕ → Type 0 where
  -- 12: a tag has two bytes, and a record 36
  short : m < 2 + 38 * n → SaveCase n m 12

pub data RestoreCase (b : List ℕ) : ℕ → Type 0 where
  -- 20: a rule of a saved frame is broken
  broken : (Saved b → ⊥) → RestoreCase b 20

-- a number is given in its row's case, and in no other
pub record SavedHeadsByRows : Type 0 where
  pub saves : (xs : List Head) (out : List ℕ) → Exactly (SaveCase (length (rows_from 0 xs)) (length out)) (12 ∷ []) (save_number xs out)
  pub restores : (b : List ℕ) → Exactly (RestoreCase b) (20 ∷ []) (restore_refusal b)
  -- so bytes are accepted where every rule holds, and only there
  pub accepted : (b : List ℕ) → (restore_refusal b ≡ 0 → Saved b) × (Saved b → restore_refusal b ≡ 0)
