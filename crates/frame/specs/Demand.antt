-- Demand 3: what the frame does under any list of calls is what the histories of the calls say.
use Rattle.std.specs.Prelude.{ℕ, ◌<◌, ◌≡◌, List, [], ◌∷◌, length, map, None}
use Rattle.library.specs.Library.{library_of}
use Rattle.saves.specs.Save.{left_of}
use Rattle.rota.specs.Follows.{rota_for}
use Rattle.frame.specs.Call.{Call, Reply}
use Rattle.frame.specs.Calls.{fresh_frame, head_at, perform}
use Rattle.heads.specs.History.{snapshot_of}
use Rattle.frame.specs.History.{Histories, no_histories, advance_all, replies_to}
use Rattle.frame.specs.declared.Frame.{Frame}

-- ---- the calls carried out, each by its contract's own definition, on the frame that the one before handed back

unfoldable pub replies_from : Frame → List Call → List Reply
replies_from f [] = []
replies_from f (c ∷ cs) = (perform f c).reply ∷ replies_from (perform f c).frame cs

unfoldable pub frame_after : Frame → List Call → Frame
frame_after f [] = f
frame_after f (c ∷ cs) = frame_after (perform f c).frame cs

-- ---- the statement

-- the calls cs on the frame f do what the histories H, grown by them, say
pub record Upheld (f : Frame) (H : Histories) (cs : List Call) : Type 0 where
  -- each call's number, each accepted mark's answer, each head's count where it is asked for (02 i), and every output place
  pub replies : replies_from f cs ≡ replies_to H cs
  -- each head holds the filter and the count of its history
  pub heads : (h : ℕ) → h < 12 → (head_at (frame_after f cs) h).now ≡ snapshot_of ((advance_all H cs).heads h).history
  -- and is empty exactly when its history is
  pub empty : (h : ℕ) → h < 12 → (head_at (frame_after f cs) h).now.filter ≡ None → ((advance_all H cs).heads h).history ≡ []
  pub bare : (h : ℕ) → h < 12 → ((advance_all H cs).heads h).history ≡ [] → (head_at (frame_after f cs) h).now.filter ≡ None
  -- its marks are those of its checkpoints, as many and in order
  pub standing : (h : ℕ) → h < 12 → length (head_at (frame_after f cs) h).marks.items ≡ length ((advance_all H cs).heads h).checkpoints
  pub marks : (h : ℕ) → h < 12 → (head_at (frame_after f cs) h).marks.items ≡ map snapshot_of ((advance_all H cs).heads h).checkpoints
  -- the library is that of the last accepted open, or none
  pub library : (frame_after f cs).library ≡ library_of (advance_all H cs).sheet
  -- the save has left what the calls leave to take (02 h)
  pub left : left_of (frame_after f cs).save ≡ (advance_all H cs).left
  -- the rota is that of its calls: each head has left what it is owed, and it goes on behind the head that was served last (02 b)
  pub rota : (frame_after f cs).rota ≡ rota_for (advance_all H cs).rota

-- every list of calls, from a fresh frame: Demand3
unfoldable pub Demand3 : Type 0
Demand3 = (cs : List Call) → Upheld fresh_frame no_histories cs
