-- What 02 b says of a rota, read from its calls and their replies alone. Nothing here is read from what a rota holds.
use Rattle.std.specs.Prelude.{ℕ, zero, suc, Bool, ◌+◌, ◌-◌, ◌<◌, cond, List, [], ◌∷◌, eqb, ltb, Option, None, Some, option_map}
use Rattle.rota.specs.Ring.{first_after}
use Rattle.rota.specs.Call.{Call, tell, turn, Reply, of_tell, of_turn, number_in}
use Rattle.rota.specs.Rota.{tell_refusal, share}
use Rattle.rota.specs.declared.Grant.{Grant}

-- a head that accepted a telling of so many samples, or a grant
pub data Event : Type 0 where
  tell_event : ℕ → ℕ → Event
  grant_event : Grant → Event

-- ---- a head's account in a history, whose newest event comes first

-- what the head was told in its last accepted telling, and the sum granted to it since
pub record Account : Type 0 where
  pub told : ℕ
  pub granted : ℕ

abbrev pub granted_more : Account → ℕ → Account
granted_more a n = record { told = a.told; granted = a.granted + n }

unfoldable pub account : List Event → ℕ → Account
account [] h = record { told = 0; granted = 0 }
account (tell_event g n ∷ l) h = cond (eqb h g) (record { told = n; granted = 0 }) (account l h)
account (grant_event x ∷ l) h = cond (eqb h x.head) (granted_more (account l h) x.samples) (account l h)

-- a head waits when it was told and is not yet granted in full
abbrev pub Waits : List Event → ℕ → Type 0
Waits l h = (account l h).granted < (account l h).told

abbrev pub waits : List Event → ℕ → Bool
waits l h = ltb (account l h).granted (account l h).told

-- what is still owed to it
abbrev pub owed : List Event → ℕ → ℕ
owed l h = (account l h).told - (account l h).granted

-- the head that was served last; at first it is as if head 11 had been
unfoldable pub last_served : List Event → ℕ
last_served [] = 11
last_served (tell_event h n ∷ l) = last_served l
last_served (grant_event x ∷ l) = x.head

-- ---- what each call replies

abbrev pub grant_for : List Event → ℕ → Grant
grant_for l h = record { head = h; samples = share (owed l h) }

abbrev pub next_grant : List Event → Option Grant
next_grant l = option_map (grant_for l) (first_after (last_served l) (waits l))

abbrev pub reply_to : List Event → Call → Reply
reply_to l (tell h n) = of_tell (tell_refusal h (waits l h) n)
reply_to l turn = of_turn (next_grant l)

-- its number, in the table's order
abbrev pub call_number : List Event → Call → ℕ
call_number l c = number_in (reply_to l c)

-- ---- what a call with its reply adds: an accepted telling, or a grant. A refused call adds nothing, nor a turn that grants nothing

abbrev pub told_with : List Event → ℕ → ℕ → ℕ → List Event
told_with l h n zero = tell_event h n ∷ l
told_with l h n (suc m) = l

abbrev pub granted_with : List Event → Option Grant → List Event
granted_with l None = l
granted_with l (Some x) = grant_event x ∷ l

abbrev pub noted : List Event → Call → Reply → List Event
noted l (tell h n) (of_tell number) = told_with l h n number
noted l (tell h n) (of_turn x) = l
noted l turn (of_tell number) = l
noted l turn (of_turn x) = granted_with l x

-- by the calls alone
abbrev pub advance : List Event → Call → List Event
advance l c = noted l c (reply_to l c)

unfoldable pub advance_all : List Event → List Call → List Event
advance_all l [] = l
advance_all l (c ∷ cs) = advance_all (advance l c) cs

unfoldable pub replies_to : List Event → List Call → List Reply
replies_to l [] = []
replies_to l (c ∷ cs) = reply_to l c ∷ replies_to (advance l c) cs
