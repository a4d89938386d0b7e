-- The refusal table of document 01, row by row, for the calls at a head: the case of each number as a statement about the head's history,
-- the call's arguments and the lengths of its buffers.
use Rattle.std.specs.Prelude.{ℕ, ◌+◌, ◌≤◌, ◌<◌, ◌≡◌, List, [], ◌∷◌, length, Float}
use Rattle.filter_core.specs.Buffer.{within}
use Rattle.filter_core.specs.Rows.{Exactly}
use Rattle.runs.specs.Rows.{Has, HasTwo, StepOfZero}
use Rattle.runs.specs.declared.form.RunForm.{RunForm}
use Rattle.heads.specs.Act.{Act, run, run_two, rest, mark, back, drop, count}
use Rattle.heads.specs.History.{HeadHistory, last_type, count_of, act_number}
use Rattle.heads.specs.Follows.{SoundHead}

-- the case of each number, of a call at a head with the history x
pub data ActCase (x : HeadHistory) : Act → ℕ → Type 0 where
  -- 6: nothing was loaded
  bare_run : {form : RunForm} {us ys : List Float} → x.history ≡ [] → ActCase x (run form us ys) 6
  bare_two : {form : RunForm} {us ys zs : List Float} → x.history ≡ [] → ActCase x (run_two form us ys zs) 6
  bare_rest : x.history ≡ [] → ActCase x rest 6
  bare_mark : x.history ≡ [] → ActCase x mark 6
  -- 7: mark m is there when m is below the row's length
  no_back : {m : ℕ} → length x.checkpoints ≤ m → ActCase x (back m) 7
  no_drop : {m : ℕ} → length x.checkpoints ≤ m → ActCase x (drop m) 7
  -- 8: the row has four lists
  full : length x.checkpoints ≡ 4 → ActCase x mark 8
  -- 9: the filter of the last load, or the one restored since, has no such form in this call
  no_form : {form : RunForm} {us ys : List Float} → (Has (last_type x.history) form → ⊥) → ActCase x (run form us ys) 9
  no_form_two : {form : RunForm} {us ys zs : List Float} → (HasTwo (last_type x.history) form → ⊥) → ActCase x (run_two form us ys zs) 9
  -- 10: by a step of 0
  no_step : {form : RunForm} {us ys : List Float} → StepOfZero form → ActCase x (run form us ys) 10
  no_step_two : {form : RunForm} {us ys zs : List Float} → StepOfZero form → ActCase x (run_two form us ys zs) 10
  -- 18 (02 i): the history's count and the samples of this run are more than 4,294,967,295
  over_run : {form : RunForm} {us ys : List Float} → 4294967295 < count_of x.history + length (within us ys) → ActCase x (run form us ys) 18
  over_two :
      {form : RunForm}
      {us ys zs : List Float}
      → 4294967295 < count_of x.history + length (within (within us ys) zs)
      → ActCase x (run_two form us ys zs) 18

-- the numbers that a call asks for, in order
abbrev pub numbers_of : Act → List ℕ
numbers_of (run form us ys) = 6 ∷ 9 ∷ 10 ∷ 18 ∷ []
numbers_of (run_two form us ys zs) = 6 ∷ 9 ∷ 10 ∷ 18 ∷ []
numbers_of rest = 6 ∷ []
numbers_of mark = 6 ∷ 8 ∷ []
numbers_of (back m) = 7 ∷ []
numbers_of (drop m) = 7 ∷ []
numbers_of count = []

-- a call's number is the first of these whose case holds, and no other is
abbrev pub HeadByRows : Type 0
HeadByRows = (x : HeadHistory) (a : Act) → SoundHead x → Exactly (ActCase x a) (numbers_of a) (act_number x a)
