-- The refusals of 02 b, row by row: the case of each number as a statement about the history and the call's arguments.
use Rattle.std.specs.Prelude.{ℕ, ◌≤◌, ◌≡◌, List, [], ◌∷◌}
use Rattle.filter_core.specs.Rows.{Exactly}
use Rattle.rota.specs.Call.{Call, tell, turn}
use Rattle.rota.specs.History.{Event, Waits, call_number}

pub data RotaCase (l : List Event) : Call → ℕ → Type 0 where
  -- 1: there are twelve heads
  no_head : {h n : ℕ} → 12 ≤ h → RotaCase l (tell h n) 1
  -- 13: the head was told and is not yet granted in full
  waiting : {h n : ℕ} → Waits l h → RotaCase l (tell h n) 13
  -- 14: told 0 samples
  no_samples : {h n : ℕ} → n ≡ 0 → RotaCase l (tell h n) 14

-- the numbers that a call asks for, in order
abbrev pub numbers_of : Call → List ℕ
numbers_of (tell h n) = 1 ∷ 13 ∷ 14 ∷ []
numbers_of turn = []

-- a call's number is the first of these whose case holds, and no other is
unfoldable pub RotaByRows : Type 0
RotaByRows = (l : List Event) (c : Call) → Exactly (RotaCase l c) (numbers_of c) (call_number l c)
