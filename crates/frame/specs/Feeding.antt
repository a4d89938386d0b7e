-- What document 02, b says of the rota in a frame, over every frame and every list of calls.
use Rattle.std.specs.Prelude.{ℕ, Bool, true, false, ◌<◌, ◌≤◌, ◌≡◌, List, [], ◌∷◌, Option, None}
use Rattle.std.specs.List.{flat_map}
use Rattle.rota.specs.Call as rota
use Rattle.rota.specs.Call.{turn, of_turn}
use Rattle.rota.specs.History.{Waits, advance_all as rota_history}
use Rattle.rota.specs.Fair.{replies_from as rota_replies_from, rota_from, turns_in, grants_in, Names, NamedWithin, FairTo}
use Rattle.rota.specs.declared.Grant.{Grant}
use Rattle.frame.specs.Call.{Call, at_rota, Reply, of_rota}
use Rattle.frame.specs.Calls.{fresh_frame, with_rota, perform}
use Rattle.frame.specs.History.{Histories, no_histories, advance_all}
use Rattle.frame.specs.Demand.{replies_from, frame_after}
use Rattle.frame.specs.Without.{without, other_replies}
use Rattle.frame.specs.declared.Frame.{Frame}

abbrev pub is_tell_or_turn : Call → Bool
is_tell_or_turn (at_rota c) = true
is_tell_or_turn _ = false

-- ---- the rota's own part of some calls

abbrev pub rota_call : Call → List rota.Call
rota_call (at_rota c) = c ∷ []
rota_call _ = []

abbrev pub rota_calls : List Call → List rota.Call
rota_calls cs = flat_map rota_call cs

-- and of what they reply

abbrev pub rota_reply : Reply → List rota.Reply
rota_reply (of_rota r) = r ∷ []
rota_reply _ = []

abbrev pub rota_replies : List Reply → List rota.Reply
rota_replies rs = flat_map rota_reply rs

-- what the turns among the calls ds grant, behind the calls cs from a fresh frame
abbrev pub grants_after : List Call → List Call → List (Option Grant)
grants_after cs ds = grants_in (rota_replies (replies_from (frame_after fresh_frame cs) ds))

-- ---- the statements

pub record Feeding : Type 0 where
  -- heads with their marks, the library, the save and what the other calls reply are those of the list without its tellings and turns
  pub replies : (f : Frame) (cs : List Call) → other_replies is_tell_or_turn f cs ≡ replies_from f (without is_tell_or_turn cs)
  pub heads : (f : Frame) (cs : List Call) → (frame_after f cs).heads ≡ (frame_after f (without is_tell_or_turn cs)).heads
  pub library : (f : Frame) (cs : List Call) → (frame_after f cs).library ≡ (frame_after f (without is_tell_or_turn cs)).library
  pub save : (f : Frame) (cs : List Call) → (frame_after f cs).save ≡ (frame_after f (without is_tell_or_turn cs)).save
  -- so are the heads' histories with their rows, the sheet that was opened last and what is left of the save
  pub histories : (H : Histories) (cs : List Call) → (advance_all H cs).heads ≡ (advance_all H (without is_tell_or_turn cs)).heads
  pub sheet : (H : Histories) (cs : List Call) → (advance_all H cs).sheet ≡ (advance_all H (without is_tell_or_turn cs)).sheet
  pub left : (H : Histories) (cs : List Call) → (advance_all H cs).left ≡ (advance_all H (without is_tell_or_turn cs)).left
  -- tell and turn change the rota alone, and no other call moves it
  pub alone : (f : Frame) (c : Call) → is_tell_or_turn c ≡ true → (perform f c).frame ≡ with_rota f (perform f c).frame.rota
  pub others : (f : Frame) (c : Call) → is_tell_or_turn c ≡ false → (perform f c).frame.rota ≡ f.rota
  -- a turn that grants nothing changes nothing
  pub idle : (f : Frame) → (perform f (at_rota turn)).reply ≡ of_rota (of_turn None) → (perform f (at_rota turn)).frame ≡ f
  -- the rota, what its calls reply and its history are those of its own calls alone
  pub rota : (f : Frame) (cs : List Call) → (frame_after f cs).rota ≡ rota_from f.rota (rota_calls cs)
  pub answers : (f : Frame) (cs : List Call) → rota_replies (replies_from f cs) ≡ rota_replies_from f.rota (rota_calls cs)
  pub own : (H : Histories) (cs : List Call) → (advance_all H cs).rota ≡ rota_history H.rota (rota_calls cs)
  -- so after any calls on a fresh frame it is fair to every head
  pub fair : (cs : List Call) → FairTo (frame_after fresh_frame cs).rota (advance_all no_histories cs).rota
  -- and whatever is called then: a head that waits is named by one of the next 12 turns, and no other twice before it is
  pub soon : (cs ds : List Call) (h : ℕ) → Waits (advance_all no_histories cs).rota h → 12 ≤ turns_in (rota_calls ds) → NamedWithin (grants_after cs ds) 12 h
  pub once : (cs ds : List Call) (h g i j : ℕ) → Waits (advance_all no_histories cs).rota h → (g ≡ h → ⊥) → i < j
      → Names (grants_after cs ds) i g → Names (grants_after cs ds) j g → NamedWithin (grants_after cs ds) j h
