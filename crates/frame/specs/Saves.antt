-- What document 02, h says of saving over every frame and every list of calls.
use Rattle.std.specs.Prelude.{ℕ, Bool, true, false, ◌≡◌, List, [], ◌∷◌, ◌++◌, length, take}
use Rattle.saves.specs.Save.{left_of}
use Rattle.frame.specs.Call.{Call, beginning, taking, Reply, wrote, number_in}
use Rattle.frame.specs.Calls.{fresh_frame, with_save, Done, perform}
use Rattle.frame.specs.History.{Histories, no_histories, advance, advance_all}
use Rattle.frame.specs.Demand.{replies_from, frame_after}
use Rattle.frame.specs.Without.{without, other_replies}
use Rattle.frame.specs.declared.Frame.{Frame}

abbrev pub is_begin_or_take : Call → Bool
is_begin_or_take beginning = true
is_begin_or_take (taking out) = true
is_begin_or_take _ = false

-- ---- the parts of a save

-- how many bytes a reply says were written, and these

abbrev pub written_count : Reply → ℕ
written_count (wrote n k out) = k
written_count _ = 0

abbrev pub written_bytes : Reply → List ℕ
written_bytes (wrote n k out) = take k out
written_bytes _ = []

abbrev pub part_in : Call → Reply → List ℕ
part_in (taking out) r = written_bytes r
part_in _ r = []

-- the parts that the takes among some calls hand out, joined in turn
unfoldable pub parts_from : Frame → List Call → List ℕ
parts_from f [] = []
parts_from f (c ∷ cs) = part_in c (perform f c).reply ++ parts_from (perform f c).frame cs

-- no begin among the calls is accepted
pub data NoneBegun : Frame → List Call → Type 0 where
  no_call : {f : Frame} → NoneBegun f []
  refused_begin : {f : Frame} {cs : List Call} → (number_in (perform f beginning).reply ≡ 0 → ⊥) → NoneBegun (perform f beginning).frame cs → NoneBegun f (beginning ∷ cs)
  other_call : {f : Frame} {c : Call} {cs : List Call} → (c ≡ beginning → ⊥) → NoneBegun (perform f c).frame cs → NoneBegun f (c ∷ cs)

-- the parts that the calls cs take on the frame f, with what is left behind them, are s
pub record Joined (f : Frame) (cs : List Call) (s : List ℕ) : Type 0 where
  pub joined : parts_from f cs ++ left_of (frame_after f cs).save ≡ s
  -- the save ends with its last byte: when nothing is left the parts are s, and when they are s nothing is left
  pub whole : left_of (frame_after f cs).save ≡ [] → parts_from f cs ≡ s
  pub ended : parts_from f cs ≡ s → left_of (frame_after f cs).save ≡ []

-- ---- calls from a fresh frame

-- the frame after the calls, and after a begin behind them

abbrev pub after : List Call → Frame
after cs = frame_after fresh_frame cs

abbrev pub begun_after : List Call → Done
begun_after cs = perform (after cs) beginning

-- the sheet of the last accepted open among them
abbrev pub sheet_after : List Call → List ℕ
sheet_after cs = (advance_all no_histories cs).sheet

-- ---- the statements

pub record Saving : Type 0 where
  -- heads with their marks, the library and what the other calls reply are those of the list without its begins and takes
  pub replies : (f : Frame) (cs : List Call) → other_replies is_begin_or_take f cs ≡ replies_from f (without is_begin_or_take cs)
  pub heads : (f : Frame) (cs : List Call) → (frame_after f cs).heads ≡ (frame_after f (without is_begin_or_take cs)).heads
  pub library : (f : Frame) (cs : List Call) → (frame_after f cs).library ≡ (frame_after f (without is_begin_or_take cs)).library
  -- so are the heads' histories with their rows, and the sheet that was opened last
  pub histories : (H : Histories) (cs : List Call) → (advance_all H cs).heads ≡ (advance_all H (without is_begin_or_take cs)).heads
  pub sheet : (H : Histories) (cs : List Call) → (advance_all H cs).sheet ≡ (advance_all H (without is_begin_or_take cs)).sheet
  -- begin and take change the save alone, and no other call moves it, nor what the histories say is left
  pub alone : (f : Frame) (c : Call) → is_begin_or_take c ≡ true → (perform f c).frame ≡ with_save f (perform f c).frame.save
  pub others : (f : Frame) (c : Call) → is_begin_or_take c ≡ false → (perform f c).frame.save ≡ f.save
  pub left : (H : Histories) (c : Call) → is_begin_or_take c ≡ false → (advance H c).left ≡ H.left
  -- for every accepted begin: the parts since, up to the next accepted begin, are those of the sheet as it stood then, whatever is opened
  pub begun : (cs ds : List Call) → number_in (begun_after cs).reply ≡ 0 → NoneBegun (begun_after cs).frame ds → Joined (begun_after cs).frame ds (sheet_after cs)
  -- whatever a frame's save has left, the parts that come are those of it
  pub parts : (f : Frame) (cs : List Call) → NoneBegun f cs → Joined f cs (left_of f.save)
  -- a save is unfinished exactly when something is left: begin gives 16 then and only then, and take 17 when nothing is left and only then
  pub unfinished : (f : Frame) → (number_in (perform f beginning).reply ≡ 16 → left_of f.save ≡ [] → ⊥) × ((left_of f.save ≡ [] → ⊥) → number_in (perform f beginning).reply ≡ 16)
  pub finished : (f : Frame) (out : List ℕ) → (number_in (perform f (taking out)).reply ≡ 17 → left_of f.save ≡ []) × (left_of f.save ≡ [] → number_in (perform f (taking out)).reply ≡ 17)
  -- every take but the last fills its output
  pub full : (f : Frame) (out : List ℕ) → (left_of (perform f (taking out)).frame.save ≡ [] → ⊥) → written_count (perform f (taking out)).reply ≡ length out
  -- a take into no places, where something is left, is accepted, writes nothing and ends nothing
  pub no_places : (f : Frame) → (left_of f.save ≡ [] → ⊥) → perform f (taking []) ≡ record { reply = wrote 0 0 []; frame = f }
