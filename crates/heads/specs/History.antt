-- What document 01 says of a head under "Kept list", read from the calls alone: the head's history, the calls' numbers and replies.
-- Nothing here is read from what a head holds.
use Rattle.std.specs.Prelude.{ℕ, ◌+◌, cond, List, [], ◌∷◌, ◌++◌, leb, ltb, eqb, length, get_or, take, Float, Option, None, Some}
use Rattle.filter_core.specs.Buffer.{within}
use Rattle.sheets.specs.declared.entry.Entry.{Entry}
use Rattle.any_filter.specs.Cases.{type_of, rested}
use Rattle.any_filter.specs.declared.Filter.{Filter}
use Rattle.any_filter.specs.declared.FilterType.{FilterType}
use Rattle.any_filter.specs.declared.FilterType.TheVariants as type
use Rattle.runs.specs.Form.{run_refusal, run_two_refusal}
use Rattle.runs.specs.Run.{through, first_output, second_output}
use Rattle.runs.specs.declared.form.RunForm.{RunForm}
use Rattle.loads.specs.Load.{filter_of}
use Rattle.heads.specs.Act.{Act, run, run_two, rest, mark, back, drop, count, HeadReply, answered, marked, ran, ran_two, counted, refused_act}
use Rattle.heads.specs.Snapshot.{run_number}
use Rattle.heads.specs.declared.Snapshot.{Snapshot}

-- an item of a kept list: a load with the entry's kind byte and words, a run with its form and the samples within the shortest length, a
-- rest; and a filter that was restored, with its count, which opens a list as a load does (02 k)
pub data Event : Type 0 where
  load_event : Entry → Event
  run_event : RunForm → List Float → Event
  rest_event : Event
  restored_event : Filter → ℕ → Event

-- a head's kept list, and its row of earlier lists
pub record HeadHistory : Type 0 where
  pub history : List Event
  pub checkpoints : List (List Event)

-- a fresh head's
abbrev pub no_history : HeadHistory
no_history = record { history = []; checkpoints = [] }

-- ---- the type of filter that a history leads to: that of its last load or restored filter (document 01's kind of a head)

abbrev pub type_with : FilterType → Event → FilterType
type_with k (load_event e) = type_of (filter_of e)
type_with k (run_event form us) = k
type_with k rest_event = k
type_with k (restored_event f n) = type_of f

unfoldable pub type_from : FilterType → List Event → FilterType
type_from k [] = k
type_from k (i ∷ is) = type_from (type_with k i) is

-- a history begins with one of them, so the type that this starts from is never seen
abbrev pub last_type : List Event → FilterType
last_type l = type_from type.DcBlocker l

-- ---- the samples sewn since the last load of a history (02 i)

-- the events since the last load, which are all where there is none; a restored filter begins anew too, and stands first with its count (02 k)

abbrev pub since_with : List Event → Event → List Event
since_with l (load_event e) = []
since_with l (run_event form us) = l ++ run_event form us ∷ []
since_with l rest_event = l ++ rest_event ∷ []
since_with l (restored_event f n) = restored_event f n ∷ []

unfoldable pub since_from : List Event → List Event → List Event
since_from l [] = l
since_from l (i ∷ is) = since_from (since_with l i) is

-- the samples of all runs among some events, and those that restored filters came with
unfoldable pub samples_in : List Event → ℕ
samples_in [] = 0
samples_in (load_event e ∷ is) = samples_in is
samples_in (run_event form us ∷ is) = length us + samples_in is
samples_in (rest_event ∷ is) = samples_in is
samples_in (restored_event f n ∷ is) = n + samples_in is

abbrev pub count_of : List Event → ℕ
count_of l = samples_in (since_from [] l)

-- ---- the number of each call, in the table's order

-- a head is bare when its history is empty
abbrev pub unless_bare : List Event → ℕ → ℕ
unless_bare [] n = 6
unless_bare (i ∷ is) n = n

-- four checkpoints at most
abbrev pub mark_refusal : HeadHistory → ℕ
mark_refusal x = cond (ltb 3 (length x.checkpoints)) 8 0

-- mark m is there when m is below the row's length
abbrev pub no_mark : HeadHistory → ℕ → ℕ
no_mark x m = cond (leb (length x.checkpoints) m) 7 0

abbrev pub act_number : HeadHistory → Act → ℕ
act_number x (run form us ys) =
    unless_bare x.history (run_number (run_refusal (last_type x.history) form) (count_of x.history) (length (within us ys)))
act_number x (run_two form us ys zs) =
    unless_bare x.history (run_number (run_two_refusal (last_type x.history) form) (count_of x.history) (length (within (within us ys) zs)))
act_number x rest = unless_bare x.history 0
act_number x mark = unless_bare x.history (mark_refusal x)
act_number x (back m) = no_mark x m
act_number x (drop m) = no_mark x m
act_number x count = 0

-- ---- what an accepted call adds

abbrev pub adding : HeadHistory → Event → HeadHistory
adding x i = record { history = x.history ++ i ∷ []; checkpoints = x.checkpoints }

abbrev pub grown_by : HeadHistory → Act → HeadHistory
grown_by x (run form us ys) = adding x (run_event form (within us ys))
grown_by x (run_two form us ys zs) = adding x (run_event form (within (within us ys) zs))
grown_by x rest = adding x rest_event
grown_by x mark = record { history = x.history; checkpoints = x.checkpoints ++ x.history ∷ [] }
grown_by x (back m) = record { history = get_or x.checkpoints m []; checkpoints = take (m + 1) x.checkpoints }
grown_by x (drop m) = record { history = x.history; checkpoints = take m x.checkpoints }
grown_by x count = x

-- a refused call adds nothing
unfoldable pub advance_by : HeadHistory → Act → HeadHistory
advance_by x a = cond (eqb (act_number x a) 0) (grown_by x a) x

-- ---- what a history leads to: its events in turn, from an empty head

abbrev pub filter_with : Option Filter → Event → Option Filter
filter_with s (load_event e) = Some (filter_of e)
filter_with None (run_event form us) = None
filter_with (Some f) (run_event form us) = Some (through f form us)
filter_with None rest_event = None
filter_with (Some f) rest_event = Some (rested f)
filter_with s (restored_event f n) = Some f

-- the count: a load begins anew, a run adds its samples (02 i); a restored filter brings its own (02 k)
abbrev pub count_with : ℕ → Event → ℕ
count_with n (load_event e) = 0
count_with n (run_event form us) = n + length us
count_with n rest_event = n
count_with n (restored_event f k) = k

abbrev pub snapshot_with : Snapshot → Event → Snapshot
snapshot_with s i = record { filter = filter_with s.filter i; count = count_with s.count i }

unfoldable pub snapshot_from : Snapshot → List Event → Snapshot
snapshot_from s [] = s
snapshot_from s (i ∷ is) = snapshot_from (snapshot_with s i) is

abbrev pub snapshot_of : List Event → Snapshot
snapshot_of l = snapshot_from (record { filter = None; count = 0 }) l

-- ---- what each call replies

-- a run's outputs, begun from what the history before it leads to

abbrev pub first_from : Option Filter → RunForm → List Float → List Float → List Float
first_from None form us ys = ys
first_from (Some f) form us ys = first_output f form us ys

abbrev pub second_from : Option Filter → RunForm → List Float → List Float → List Float
second_from None form us zs = zs
second_from (Some f) form us zs = second_output f form us zs

abbrev pub accepted_act : HeadHistory → Act → HeadReply
accepted_act x (run form us ys) = ran 0 (first_from (snapshot_of x.history).filter form (within us ys) ys)
accepted_act x (run_two form us ys zs) =
    let s = within (within us ys) zs in
    ran_two 0 (first_from (snapshot_of x.history).filter form s ys) (second_from (snapshot_of x.history).filter form s zs)
accepted_act x rest = answered 0
accepted_act x mark = marked 0 (length x.checkpoints)
accepted_act x (back m) = answered 0
accepted_act x (drop m) = answered 0
accepted_act x count = counted 0 (count_of x.history)

unfoldable pub act_reply : HeadHistory → Act → HeadReply
act_reply x a = cond (eqb (act_number x a) 0) (accepted_act x a) (refused_act (act_number x a) a)
