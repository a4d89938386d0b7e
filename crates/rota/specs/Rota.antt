-- What each call does to a rota (02 b), as its contract has it.
use Rattle.std.specs.Prelude.{ℕ, Bool, ◌-◌, cond, not, eqb, ltb, min, get_or, set, replicate, Result, Option, None, Some}
use Rattle.filter_core.specs.Refusal.{number_in, unless_refused}
use Rattle.filter_core.specs.Rows.{◌then◌}
use Rattle.filter_core.specs.declared.refusal.Refusal.{Refusal}
use Rattle.rota.specs.Ring.{first_after}
use Rattle.rota.specs.Call.{Call, tell, turn, Reply, of_tell, of_turn}
use Rattle.rota.specs.declared.Grant.{Grant}
use Rattle.rota.specs.declared.Rota.{Rota}

-- in a fresh rota no head waits, and it is as if head 11 was served last
abbrev pub fresh_rota : Rota
fresh_rota = record { left = replicate 12 0; last = 11 }

-- what head h has left to be granted
abbrev pub left_at : Rota → ℕ → ℕ
left_at r h = get_or r.left h 0

abbrev pub has_some : ℕ → Bool
has_some n = not (eqb n 0)

-- a head waits while it has some
abbrev pub waits_in : Rota → ℕ → Bool
waits_in r h = has_some (left_at r h)

abbrev pub with_left : Rota → ℕ → ℕ → Rota
with_left r h n = record r { left = set r.left h n }

-- ---- the refusals of 02 b

-- 1: there are twelve heads
abbrev pub head_refusal : ℕ → ℕ
head_refusal h = cond (ltb 11 h) 1 0

-- 13: the head waits already
abbrev pub waiting_refusal : Bool → ℕ
waiting_refusal waits = cond waits 13 0

-- 14: told 0 samples
abbrev pub samples_refusal : ℕ → ℕ
samples_refusal n = cond (eqb n 0) 14 0

-- a telling of head h, which waits or does not, by n samples
abbrev pub tell_refusal : ℕ → Bool → ℕ → ℕ
tell_refusal h waits n = head_refusal h then (waiting_refusal waits then samples_refusal n)

-- ---- each call: what a caller sees, and the rota that the next call gets

pub record Done : Type 0 where
  pub reply : Reply
  pub rota : Rota

abbrev pub tell_done : Rota → ℕ → ℕ → ℕ → Done
tell_done r h n refusal = record { reply = of_tell refusal; rota = unless_refused refusal r (with_left r h n) }

-- of n samples that are left at most 256 are granted in a turn
abbrev pub share : ℕ → ℕ
share n = min n 256

abbrev pub turn_done : Rota → Option ℕ → Done
turn_done r None = record { reply = of_turn None; rota = r }
turn_done r (Some h) =
    record {
      reply = of_turn (Some (record { head = h; samples = share (left_at r h) }));
      rota = record (with_left r h (left_at r h - share (left_at r h))) { last = h };
    }

-- a turn goes on behind the head that was served last
unfoldable pub perform : Rota → Call → Done
perform r (tell h n) = tell_done r h n (tell_refusal h (waits_in r h) n)
perform r turn = turn_done r (first_after r.last (waits_in r))

-- ---- the answers of the code, and the rota that it leaves

abbrev pub plainly : {A : Type 0} → Result A Refusal → Rota → Done
plainly r v = record { reply = of_tell (number_in r); rota = v }

abbrev pub granting : Option Grant → Rota → Done
granting g v = record { reply = of_turn g; rota = v }
