-- What holds of every head that calls lead to, and of one that was restored (02 k): it is the picture of a history of its own.
use Rattle.std.specs.Prelude.{ℕ, ◌≤◌, ◌≡◌, List, [], ◌∷◌, length, map, Option, None, Some, IfSome}
use Rattle.std.specs.List.{All}
use Rattle.any_filter.specs.Binary32.{Representable}
use Rattle.any_filter.specs.declared.Filter.{Filter}
use Rattle.heads.specs.Snapshot.{greatest_count}
use Rattle.sheets.specs.declared.entry.Entry.{Entry}
use Rattle.heads.specs.Act.{Act}
use Rattle.heads.specs.History.{Event, load_event, restored_event, HeadHistory, no_history, adding, grown_by}
use Rattle.heads.specs.Follows.{head_for, SoundHead}
use Rattle.heads.specs.Binary32.{RepresentableEvents, RepresentableSamples}
use Rattle.heads.specs.declared.Snapshot.{Snapshot}
use Rattle.heads.specs.declared.Head.{Head}

-- ---- what a head keeps

pub record ValidSnapshot (s : Snapshot) : Type 0 where
  -- binary32 holds the filter's numbers, as it does all that a program has
  pub representable : IfSome s.filter Representable
  pub small : s.count ≤ greatest_count
  pub no_count : s.filter ≡ None → s.count ≡ 0

-- a mark is never empty
pub record ValidMark (s : Snapshot) : Type 0 where
  pub valid : ValidSnapshot s
  pub filled : s.filter ≡ None → ⊥

-- at most four marks, and none of an empty head
pub record ValidHead (x : Head) : Type 0 where
  pub now : ValidSnapshot x.now
  pub few : length x.marks.items ≤ 4
  pub marks : All ValidMark x.marks.items
  pub of_empty : x.now.filter ≡ None → x.marks.items ≡ []

-- ---- the history of a restored head: the restored filter opens its kept list, and those of its marks (02 k)

abbrev pub opened_by : Option Filter → ℕ → List Event
opened_by None n = []
opened_by (Some f) n = restored_event f n ∷ []

abbrev pub restored_list : Snapshot → List Event
restored_list s = opened_by s.filter s.count

abbrev pub restored_history : Head → HeadHistory
restored_history x = record { history = restored_list x.now; checkpoints = map restored_list x.marks.items }

-- ---- histories whose samples binary32 holds

pub record RepresentableHead (x : HeadHistory) : Type 0 where
  pub history : RepresentableEvents x.history
  pub checkpoints : All RepresentableEvents x.checkpoints

pub record HeadsValid : Type 0 where
  -- a head of such a history keeps all that
  pub valid : (x : HeadHistory) → SoundHead x → RepresentableHead x → ValidHead (head_for x)
  -- and one that does is the picture of the history that it opens when it is restored
  pub restored : (x : Head) → ValidHead x → head_for (restored_history x) ≡ x
  pub sound : (x : Head) → ValidHead x → SoundHead (restored_history x)
  pub representable : (x : Head) → ValidHead x → RepresentableHead (restored_history x)
  -- what loads add, and calls that lend such samples, leads from such histories to such histories
  pub fresh : RepresentableHead no_history
  pub grown : (x : HeadHistory) (a : Act) → RepresentableHead x → RepresentableSamples a → RepresentableHead (grown_by x a)
  pub load : (x : HeadHistory) (e : Entry) → RepresentableHead x → RepresentableHead (adding x (load_event e))
