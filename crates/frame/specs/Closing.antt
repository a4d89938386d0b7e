-- What document 02, k says of closing and opening, over every frame and every list of calls.
use Rattle.std.specs.Prelude.{ℕ, ⊤, ◌≤◌, ◌≡◌, List, [], length}
use Rattle.std.specs.List.{All}
use Rattle.lists.specs.Over.{over}
use Rattle.sheets.specs.Rows.{Sheet}
use Rattle.library.specs.Library.{library_of}
use Rattle.saves.specs.Save.{left_of}
use Rattle.rota.specs.Follows.{rota_for}
use Rattle.heads.specs.Binary32.{RepresentableSamples}
use Rattle.saved_heads.specs.Bytes.{bytes_of, heads_in}
use Rattle.saved_heads.specs.Saved.{saved_length}
use Rattle.frame.specs.Call.{Call, at, saving_heads, restoring_heads, plain, wrote, number_in}
use Rattle.frame.specs.Calls.{with_heads, Done, perform}
use Rattle.frame.specs.History.{Histories, no_histories, with_restored, advance_all}
use Rattle.frame.specs.Demand.{Upheld}
use Rattle.frame.specs.Saves.{written_bytes, after}
use Rattle.frame.specs.declared.Frame.{Frame}

-- the samples that a call lends are ones that binary32 holds, as all are that a program can lend
abbrev pub LendsBinary32 : Call → Type 0
LendsBinary32 (at h a) = RepresentableSamples a
LendsBinary32 _ = ⊤

-- ---- what is saved of a frame, and restored on another

abbrev pub save_done : Frame → List ℕ → Done
save_done f out = perform f (saving_heads out)

abbrev pub restore_done : Frame → List ℕ → Done
restore_done f b = perform f (restoring_heads b)

-- f is saved into an output, and what is written there gives its heads to g
pub record Returns (f g : Frame) (out : List ℕ) : Type 0 where
  pub saved : save_done f out ≡ record { reply = wrote 0 (saved_length f.heads) (over 0 (bytes_of f.heads) out); frame = f }
  pub restored : restore_done g (written_bytes (save_done f out).reply) ≡ record { reply = plain 0; frame = with_heads g f.heads }
  -- there are 12 to 60 rows
  pub least : 458 ≤ saved_length f.heads
  pub most : saved_length f.heads ≤ 2282

-- ---- from a restored frame on

-- a sheet, or none
pub data OfSheet : List ℕ → Type 0 where
  nothing : OfSheet []
  sheet : {s : List ℕ} → Sheet s → OfSheet s

-- the frame goes by the histories in all but its heads
pub record Beside (f : Frame) (H : Histories) : Type 0 where
  pub of_sheet : OfSheet H.sheet
  pub library : f.library ≡ library_of H.sheet
  pub left : left_of f.save ≡ H.left
  pub rota : f.rota ≡ rota_for H.rota

-- ---- the statements

pub record Closing : Type 0 where
  -- every frame that calls lead to is saved where there is room, and comes back exactly, whichever frame stands there
  pub returns : (cs : List Call) → All LendsBinary32 cs → (g : Frame) (out : List ℕ) → saved_length (after cs).heads ≤ length out → Returns (after cs) g out
  -- bytes that are accepted are those that the frame then saves: each frame has one saved form
  pub again : (f : Frame) (b out : List ℕ) → number_in (restore_done f b).reply ≡ 0 → length b ≤ length out
      → written_bytes (save_done (restore_done f b).frame out).reply ≡ b
  -- a save changes nothing, and a restore the heads alone
  pub saving_leaves : (f : Frame) (out : List ℕ) → (save_done f out).frame ≡ f
  pub heads_alone : (f : Frame) (b : List ℕ) → (restore_done f b).frame ≡ with_heads f (restore_done f b).frame.heads
  -- every list of calls on a restored frame is upheld: each head's history is opened by its restored filter, and its checkpoints by those of
  -- the marks; the library, the save and the rota are those that stand there
  pub onward : (f : Frame) (H : Histories) (b : List ℕ) (cs : List Call) → Beside f H → number_in (restore_done f b).reply ≡ 0
      → Upheld (restore_done f b).frame (with_restored H (heads_in b)) cs
  -- so it is after any calls on a fresh frame
  pub after_calls : (ds : List Call) (b : List ℕ) (cs : List Call) → number_in (restore_done (after ds) b).reply ≡ 0
      → Upheld (restore_done (after ds) b).frame (with_restored (advance_all no_histories ds) (heads_in b)) cs
