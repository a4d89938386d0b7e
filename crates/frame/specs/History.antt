-- What document 01 says of a frame under "Kept list", read from the calls alone: the heads' histories, the calls' numbers and replies.
-- Nothing here is read from what a frame holds.
use Rattle.std.specs.Prelude.{ℕ, cond, List, [], ◌∷◌, leb, ltb, eqb, length, get_or, drop}
use Rattle.lists.specs.Over.{room, over}
use Rattle.lists.specs.Table.{table}
use Rattle.sheets.specs.Sheet.{entries_of, entry_in, check_of}
use Rattle.library.specs.Library.{library_of, write_number, sheet_length, written_of}
use Rattle.heads.specs.History.{load_event, HeadHistory, no_history, act_number, adding, grown_by, accepted_act}
use Rattle.saves.specs.Save.{begin_refusal, finished_refusal}
use Rattle.rota.specs.History as rota
use Rattle.heads.specs.Head.{empty_head}
use Rattle.heads.specs.Follows.{head_for}
use Rattle.heads.specs.Valid.{restored_history}
use Rattle.heads.specs.declared.Head.{Head}
use Rattle.saved_heads.specs.Bytes.{bytes_of, heads_in}
use Rattle.saved_heads.specs.Saved.{save_number, saved_length, restore_refusal}
use Rattle.frame.specs.Call.{Call, opening, writing, loading, at, beginning, taking, at_rota, saving_heads, restoring_heads, Reply, plain, wrote, acted, of_rota, refused}

-- the sheet of the last accepted open, the empty list before any; each head's history; what is left to take of the save that was begun last
-- (02 h), the empty list where none is unfinished; and the rota's history, of its own calls (02 b)
pub record Histories : Type 0 where
  pub sheet : List ℕ
  pub heads : ℕ → HeadHistory
  pub left : List ℕ
  pub rota : List rota.Event

-- a fresh frame's
abbrev pub no_histories : Histories
no_histories = record { sheet = []; heads = λ h. no_history; left = []; rota = [] }

-- the heads that the histories lead to
abbrev pub heads_of : Histories → List Head
heads_of H = table 12 (λ h. head_for (H.heads h))

-- ---- the number of each call, in the table's order

-- as many entries as the sheet announces, none where there is no sheet
abbrev pub load_number : List ℕ → ℕ → ℕ
load_number s e = cond (leb (entries_of s) e) 5 0

-- there are twelve heads
abbrev pub head_first : ℕ → ℕ → ℕ
head_first h n = cond (ltb 11 h) 1 n

unfoldable pub call_number : Histories → Call → ℕ
call_number H (opening s) = check_of s
call_number H (writing out) = write_number (library_of H.sheet) out
call_number H (loading h e) = head_first h (load_number H.sheet e)
call_number H (at h a) = head_first h (act_number (H.heads h) a)
call_number H beginning = begin_refusal (length H.left) (library_of H.sheet)
call_number H (taking out) = finished_refusal (length H.left)
call_number H (at_rota c) = rota.call_number H.rota c
call_number H (saving_heads out) = save_number (heads_of H) out
call_number H (restoring_heads b) = restore_refusal b

-- ---- what an accepted call adds

-- one head's part is changed, and no other's
abbrev pub changed_at : ℕ → HeadHistory → (ℕ → HeadHistory) → ℕ → HeadHistory
changed_at h x g j = cond (eqb j h) x (g j)

abbrev pub with_history : Histories → ℕ → HeadHistory → Histories
with_history H h x = record H { heads = changed_at h x H.heads }

-- all heads' histories anew: each is opened by what was restored into the head (02 k); the sheet, the save and the rota's history stay
abbrev pub with_restored : Histories → List Head → Histories
with_restored H xs = record H { heads = λ h. restored_history (get_or xs h empty_head) }

-- A load adds the entry's kind byte and words as they stood in the last accepted open. A begin leaves the bytes of that open's sheet to
-- take, and a take those for which its output has no room; neither adds to a head's history. Nor does a save of the frame.
abbrev pub grown : Histories → Call → Histories
grown H (opening s) = record H { sheet = s }
grown H (writing out) = H
grown H (loading h e) = with_history H h (adding (H.heads h) (load_event (entry_in H.sheet e)))
grown H (at h a) = with_history H h (grown_by (H.heads h) a)
grown H beginning = record H { left = H.sheet }
grown H (taking out) = record H { left = drop (room 0 H.left out) H.left }
grown H (at_rota c) = record H { rota = rota.advance H.rota c }
grown H (saving_heads out) = H
grown H (restoring_heads b) = with_restored H (heads_in b)

-- a refused call adds nothing
unfoldable pub advance : Histories → Call → Histories
advance H c = cond (eqb (call_number H c) 0) (grown H c) H

unfoldable pub advance_all : Histories → List Call → Histories
advance_all H [] = H
advance_all H (c ∷ cs) = advance_all (advance H c) cs

-- ---- what each call replies

abbrev pub accepted : Histories → Call → Reply
accepted H (opening s) = plain 0
accepted H (writing out) = wrote 0 (sheet_length (library_of H.sheet)) (written_of (library_of H.sheet) out)
accepted H (loading h e) = plain 0
accepted H (at h a) = acted (accepted_act (H.heads h) a)
accepted H beginning = plain 0
accepted H (taking out) = wrote 0 (room 0 H.left out) (over 0 H.left out)
accepted H (at_rota c) = of_rota (rota.reply_to H.rota c)
accepted H (saving_heads out) = wrote 0 (saved_length (heads_of H)) (over 0 (bytes_of (heads_of H)) out)
accepted H (restoring_heads b) = plain 0

unfoldable pub reply_to : Histories → Call → Reply
reply_to H c = cond (eqb (call_number H c) 0) (accepted H c) (refused (call_number H c) c)

unfoldable pub replies_to : Histories → List Call → List Reply
replies_to H [] = []
replies_to H (c ∷ cs) = reply_to H c ∷ replies_to (advance H c) cs
