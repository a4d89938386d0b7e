-- What the parts of a save come to (02 h), for every save and every output.
use Rattle.std.specs.Prelude.{ℕ, ◌≡◌, List, [], ◌++◌, length, take, drop}
use Rattle.sheets.specs.Rows.{Sheet}
use Rattle.library.specs.Library.{library_of}
use Rattle.library.specs.declared.Library.{Library}
use Rattle.saves.specs.Save.{no_save, left_of, begin_refusal, begin_of, take_refusal, take_length, take_of, taken_of}
use Rattle.saves.specs.declared.Save.{Save}

-- the bytes that a take writes
abbrev pub part_of : Save → List ℕ → List ℕ
part_of v out = take (take_length v out) (taken_of v out)

pub record Part (v : Save) (out : List ℕ) : Type 0 where
  -- the part, with what is left behind it, is what was left
  pub joined : part_of v out ++ left_of (take_of v out) ≡ left_of v
  -- it fills the output, unless nothing is left behind it
  pub full : (left_of (take_of v out) ≡ [] → ⊥) → take_length v out ≡ length out
  -- places behind it keep their contents
  pub kept : drop (take_length v out) (taken_of v out) ≡ drop (take_length v out) out

-- a refused take writes nothing, and leaves the save and the output
pub record TakeLeaves (v : Save) (out : List ℕ) : Type 0 where
  pub length : take_length v out ≡ 0
  pub save : take_of v out ≡ v
  pub output : taken_of v out ≡ out

pub record Parts : Type 0 where
  -- where no save was begun, nothing is left
  pub none : left_of no_save ≡ []
  -- what is left of a save just begun is the sheet of the library, byte for byte, so its edition too
  pub begun : (v : Save) (s : List ℕ) → Sheet s → begin_refusal (length (left_of v)) (library_of s) ≡ 0 → left_of (begin_of v (library_of s)) ≡ s
  pub begin_refused : (v : Save) (l : Library) → (begin_refusal (length (left_of v)) l ≡ 0 → ⊥) → begin_of v l ≡ v
  pub part : (v : Save) (out : List ℕ) → Part v out
  pub take_refused : (v : Save) (out : List ℕ) → (take_refusal v ≡ 0 → ⊥) → TakeLeaves v out
