-- What each call does to a frame, as its contract has it.
use Rattle.std.specs.Prelude.{ℕ, cond, List, leb, ltb, eqb, length, get_or, set, replicate, Float, Result, Option}
use Rattle.std.specs.Result.{result_unwrap_or}
use Rattle.filter_core.specs.Refusal.{number_in, unless_refused}
use Rattle.filter_core.specs.declared.refusal.Refusal.{Refusal}
use Rattle.sheets.specs.Sheet.{check_of}
use Rattle.library.specs.Library as library
use Rattle.library.specs.declared.Library.{Library}
use Rattle.heads.specs.Act.{answered, marked, ran, ran_two, counted}
use Rattle.heads.specs.Snapshot.{loaded_with}
use Rattle.heads.specs.Head.{empty_head, holding, Turned, turn}
use Rattle.heads.specs.declared.Head.{Head}
use Rattle.saves.specs.Save.{no_save, left_of, begin_refusal, begin_of, take_refusal, take_length, take_of, taken_of}
use Rattle.saves.specs.declared.Save.{Save}
use Rattle.rota.specs.Call.{of_tell, of_turn}
use Rattle.rota.specs.Rota as rota
use Rattle.rota.specs.declared.Grant.{Grant}
use Rattle.rota.specs.declared.Rota.{Rota}
use Rattle.saved_heads.specs.Bytes.{heads_in}
use Rattle.saved_heads.specs.Saved.{save_number, saved_length, saved_in, restore_refusal}
use Rattle.frame.specs.Call.{Call, opening, writing, loading, at, beginning, taking, at_rota, saving_heads, restoring_heads, Reply, plain, wrote, acted, of_rota, refused}
use Rattle.frame.specs.declared.Frame.{Frame}

-- ---- a frame's parts

-- the head h; what stands past the last, where no call looks, is an empty one
abbrev pub head_at : Frame → ℕ → Head
head_at f h = get_or f.heads h empty_head

abbrev pub with_head : Frame → ℕ → Head → Frame
with_head f h x = record f { heads = set f.heads h x }

abbrev pub with_heads : Frame → List Head → Frame
with_heads f xs = record f { heads = xs }

abbrev pub with_library : Frame → Library → Frame
with_library f l = record f { library = l }

abbrev pub with_save : Frame → Save → Frame
with_save f v = record f { save = v }

abbrev pub with_rota : Frame → Rota → Frame
with_rota f r = record f { rota = r }

abbrev pub fresh_frame : Frame
fresh_frame = record { heads = replicate 12 empty_head; library = library.none; save = no_save; rota = rota.fresh_rota }

-- ---- each call: what a caller sees, and the frame that the next call gets

pub record Done : Type 0 where
  pub reply : Reply
  pub frame : Frame

-- a refused call leaves the frame
abbrev pub refuse : Frame → Call → ℕ → Done
refuse f c n = record { reply = refused n c; frame = f }

-- a head above 11 is refused first
abbrev pub at_head : Frame → Call → ℕ → Done → Done
at_head f c h d = cond (ltb 11 h) (refuse f c 1) d

-- what a head replies, and the frame with the head that it leaves
abbrev pub settled : Frame → ℕ → Turned → Done
settled f h t = record { reply = acted t.reply; frame = with_head f h t.head }

abbrev pub load_done : Frame → ℕ → ℕ → Done
load_done f h e =
    cond (leb (library.count f.library) e) (refuse f (loading h e) 5)
    (record { reply = plain 0; frame = with_head f h (holding (head_at f h) (loaded_with (library.entry_at f.library e))) })

-- a refused write has the length 0
abbrev pub writes : Library → List ℕ → Reply
writes l out =
    wrote (library.write_number l out) (unless_refused (library.write_number l out) 0 (library.sheet_length l)) (library.written_of l out)

-- a take that is refused has the length 0, and leaves the output
abbrev pub takes : Save → List ℕ → Reply
takes v out = wrote (take_refusal v) (take_length v out) (taken_of v out)

-- what the rota replies, and the frame with the rota that it leaves
abbrev pub rota_done : Frame → rota.Done → Done
rota_done f d = record { reply = of_rota d.reply; frame = with_rota f d.rota }

-- a refused save has the length 0
abbrev pub saves_heads : List Head → List ℕ → Reply
saves_heads xs out = wrote (save_number xs out) (unless_refused (save_number xs out) 0 (saved_length xs)) (saved_in xs out)

unfoldable pub perform : Frame → Call → Done
perform f (opening s) = cond (eqb (check_of s) 0) (record { reply = plain 0; frame = with_library f (library.library_of s) }) (refuse f (opening s) (check_of s))
perform f (writing out) = record { reply = writes f.library out; frame = f }
perform f (loading h e) = at_head f (loading h e) h (load_done f h e)
perform f (at h a) = at_head f (at h a) h (settled f h (turn (head_at f h) a))
perform f beginning = record { reply = plain (begin_refusal (length (left_of f.save)) f.library); frame = with_save f (begin_of f.save f.library) }
perform f (taking out) = record { reply = takes f.save out; frame = with_save f (take_of f.save out) }
perform f (at_rota c) = rota_done f (rota.perform f.rota c)
perform f (saving_heads out) = record { reply = saves_heads f.heads out; frame = f }
perform f (restoring_heads b) = cond (eqb (restore_refusal b) 0) (record { reply = plain 0; frame = with_heads f (heads_in b) }) (refuse f (restoring_heads b) (restore_refusal b))

-- ---- the answers of the code, the frame that it leaves, and the lent outputs as they are left. A refused call answers 0 beside its number

abbrev pub plainly : {A : Type 0} → Result A Refusal → Frame → Done
plainly r f = record { reply = plain (number_in r); frame = f }

abbrev pub acting : {A : Type 0} → Result A Refusal → Frame → Done
acting r f = record { reply = acted (answered (number_in r)); frame = f }

abbrev pub with_output : {A : Type 0} → Result A Refusal → Frame → List Float → Done
with_output r f ys = record { reply = acted (ran (number_in r) ys); frame = f }

abbrev pub with_outputs : {A : Type 0} → Result A Refusal → Frame → List Float → List Float → Done
with_outputs r f ys zs = record { reply = acted (ran_two (number_in r) ys zs); frame = f }

abbrev pub with_mark : Result ℕ Refusal → Frame → Done
with_mark r f = record { reply = acted (marked (number_in r) (result_unwrap_or r 0)); frame = f }

abbrev pub with_count : Result ℕ Refusal → Frame → Done
with_count r f = record { reply = acted (counted (number_in r) (result_unwrap_or r 0)); frame = f }

abbrev pub with_written : Result ℕ Refusal → Frame → List ℕ → Done
with_written r f out = record { reply = wrote (number_in r) (result_unwrap_or r 0) out; frame = f }

abbrev pub with_telling : {A : Type 0} → Result A Refusal → Frame → Done
with_telling r f = record { reply = of_rota (of_tell (number_in r)); frame = f }

abbrev pub with_grant : Option Grant → Frame → Done
with_grant g f = record { reply = of_rota (of_turn g); frame = f }
