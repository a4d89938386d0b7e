-- What each call does to a head.
use Rattle.std.specs.Prelude.{ℕ, ◌+◌, cond, List, [], ◌∷◌, ◌++◌, leb, ltb, length, get_or, take, Option, None, Some, Result}
use Rattle.std.specs.Result.{result_unwrap_or}
use Rattle.filter_core.specs.Refusal.{number_in}
use Rattle.filter_core.specs.declared.refusal.Refusal.{Refusal}
use Rattle.any_filter.specs.declared.Filter.{Filter}
use Rattle.heads.specs.Act.{Act, run, run_two, rest, mark, back, drop, count, HeadReply, answered, marked, counted, refused_act}
use Rattle.heads.specs.Snapshot.{empty_snapshot, Sewn, run_sewn, run_two_sewn, rest_sewn}
use Rattle.heads.specs.declared.Snapshot.{Snapshot}
use Rattle.heads.specs.declared.Head.{Head}

-- the head that holds a snapshot, with these marks
abbrev pub head_with : Snapshot → List Snapshot → Head
head_with s marks = record { now = s; marks = record { items = marks } }

abbrev pub empty_head : Head
empty_head = head_with empty_snapshot []

-- the head with something else in it: its marks stay
abbrev pub holding : Head → Snapshot → Head
holding x s = record { now = s; marks = x.marks }

-- ---- each call: what the caller sees, and the head that it leaves

pub record Turned : Type 0 where
  pub reply : HeadReply
  pub head : Head

-- a refused call leaves the head
abbrev pub refuse_turn : Head → Act → ℕ → Turned
refuse_turn x a n = record { reply = refused_act n a; head = x }

abbrev pub accept_turn : HeadReply → Head → Turned
accept_turn r x = record { reply = r; head = x }

-- a call that changes what the head holds
abbrev pub put : Head → Sewn → Turned
put x t = record { reply = t.reply; head = holding x t.now }

-- a head with a mark above this has four
abbrev pub last_mark : ℕ
last_mark = 3

abbrev pub marked_head : Head → Head
marked_head x = head_with x.now (x.marks.items ++ x.now ∷ [])

-- the number of the mark that a head gets next
abbrev pub next_mark : Head → ℕ
next_mark x = length x.marks.items

-- an empty head has nothing to mark
abbrev pub mark_by : Head → Option Filter → Turned
mark_by x None = refuse_turn x mark 6
mark_by x (Some f) = cond (ltb last_mark (next_mark x)) (refuse_turn x mark 8) (accept_turn (marked 0 (next_mark x)) (marked_head x))

-- what back m restores
abbrev pub restored : Head → ℕ → Snapshot
restored x m = get_or x.marks.items m empty_snapshot

-- the head after back m and after drop m: the marks above are dropped

abbrev pub back_head : Head → ℕ → Head
back_head x m = head_with (restored x m) (take (m + 1) x.marks.items)

abbrev pub drop_head : Head → ℕ → Head
drop_head x m = head_with x.now (take m x.marks.items)

abbrev pub at_mark : Head → Act → ℕ → Turned → Turned
at_mark x a m t = cond (leb (next_mark x) m) (refuse_turn x a 7) t

unfoldable pub turn : Head → Act → Turned
turn x (run form us ys) = put x (run_sewn x.now form us ys)
turn x (run_two form us ys zs) = put x (run_two_sewn x.now form us ys zs)
turn x rest = put x (rest_sewn x.now)
turn x mark = mark_by x x.now.filter
turn x (back m) = at_mark x (back m) m (accept_turn (answered 0) (back_head x m))
turn x (drop m) = at_mark x (drop m) m (accept_turn (answered 0) (drop_head x m))
turn x count = accept_turn (counted 0 x.now.count) x

-- ---- the answers of the code, and the head that it leaves

abbrev pub turned_plainly : {A : Type 0} → Result A Refusal → Head → Turned
turned_plainly r x = record { reply = answered (number_in r); head = x }

-- the number of the mark is 0 where the call is refused
abbrev pub turned_with_mark : Result ℕ Refusal → Head → Turned
turned_with_mark r x = record { reply = marked (number_in r) (result_unwrap_or r 0); head = x }
