-- A head is the picture of its history, and each call keeps that: what demand 3 says of one head and one call.
use Rattle.std.specs.Prelude.{ℕ, ◌≤◌, ◌≡◌, List, [], ◌∷◌, length, get_or, map, Option, None, Some}
use Rattle.std.specs.List.{All}
use Rattle.sheets.specs.declared.entry.Entry.{Entry}
use Rattle.any_filter.specs.Cases.{type_of}
use Rattle.any_filter.specs.declared.Filter.{Filter}
use Rattle.heads.specs.Act.{Act}
use Rattle.heads.specs.Snapshot.{loaded_with, greatest_count}
use Rattle.heads.specs.Head.{head_with, empty_head, holding, turn}
use Rattle.heads.specs.History.{Event, load_event, HeadHistory, no_history, last_type, count_of, adding, advance_by, snapshot_of, act_reply}
use Rattle.heads.specs.declared.Head.{Head}

-- the head of a history: what the history leads to, and what each checkpoint does
abbrev pub head_for : HeadHistory → Head
head_for x =
    head_with (snapshot_of x.history) (map snapshot_of x.checkpoints)

-- no filter when the history is empty, and else one of the history's type
pub data Fits : List Event → Option Filter → Type 0 where
  bare : Fits [] None
  held : {i : Event} {l : List Event} {f : Filter} → type_of f ≡ last_type (i ∷ l) → Fits (i ∷ l) (Some f)

-- a history of calls: its filter fits, and its count is one of 32 bits (02 i)
pub record Good (l : List Event) : Type 0 where
  pub fits : Fits l (snapshot_of l).filter
  pub small : count_of l ≤ greatest_count

-- what holds of every history that calls make
pub record SoundHead (x : HeadHistory) : Type 0 where
  pub good : Good x.history
  pub goods : (m : ℕ) → Good (get_or x.checkpoints m [])
  pub four : length x.checkpoints ≤ 4
  -- no checkpoint is empty, and an empty head has none
  pub filled : All (λ (l : List Event). l ≡ [] → ⊥) x.checkpoints
  pub of_empty : x.history ≡ [] → x.checkpoints ≡ []

pub record HeadFollows : Type 0 where
  -- an empty head has no history
  pub fresh : empty_head ≡ head_for no_history
  pub fresh_sound : SoundHead no_history
  -- a load adds its event
  pub load : (x : HeadHistory) (e : Entry) → SoundHead x → holding (head_for x) (loaded_with e) ≡ head_for (adding x (load_event e))
  pub load_sound : (x : HeadHistory) (e : Entry) → SoundHead x → SoundHead (adding x (load_event e))
  -- any other call replies what the history says, and leaves the head of the history that it leads to
  pub act : (x : HeadHistory) (a : Act) → SoundHead x → turn (head_for x) a ≡ record { reply = act_reply x a; head = head_for (advance_by x a) }
  pub act_sound : (x : HeadHistory) (a : Act) → SoundHead x → SoundHead (advance_by x a)
