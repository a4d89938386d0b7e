-- The refusal table of document 01, row by row, for the calls of a frame: the case of each number as a statement about the histories,
-- the call's arguments and the lengths of its buffers.
use Rattle.std.specs.List.{sum}
use Rattle.lists.specs.Table.{table}
use Rattle.std.specs.Prelude.{ℕ, ◌+◌, ◌≤◌, List, [], ◌∷◌, length}
use Rattle.filter_core.specs.Rows.{Only, Exactly}
use Rattle.sheets.specs.Sheet.{entries_of}
use Rattle.sheets.specs.Rows.{SheetRow}
use Rattle.library.specs.Rows.{WriteCase}
use Rattle.heads.specs.History.{HeadHistory}
use Rattle.heads.specs.Rows.{ActCase, numbers_of}
use Rattle.saves.specs.Rows.{BeginCase, TakeCase}
use Rattle.rota.specs.Rows as rota
use Rattle.saved_heads.specs.Rows.{SaveCase, RestoreCase}
use Rattle.frame.specs.Call.{Call, opening, writing, loading, at, beginning, taking, at_rota, saving_heads, restoring_heads}
use Rattle.frame.specs.History.{Histories, no_histories, call_number, advance_all}

-- a call at the head h: its own cases are those of the head
pub data AtCase (h : ℕ) (case : ℕ → Type 0) : ℕ → Type 0 where
  -- 1: there are twelve heads
  no_head : 12 ≤ h → AtCase h case 1
  of_head : {n : ℕ} → case n → AtCase h case n

-- a load, where s is the sheet of the last accepted open
pub data LoadCase (s : List ℕ) (e : ℕ) : ℕ → Type 0 where
  -- 5: as many entries as the sheet announces, none where there is no sheet
  no_entry : entries_of s ≤ e → LoadCase s e 5

-- how many rows the twelve heads are saved as: one each, and one for each checkpoint (02 k)
abbrev pub saved_row_count : (ℕ → HeadHistory) → ℕ
saved_row_count g = sum (table 12 (λ h. 1 + length (g h).checkpoints))

-- A sheet, a write, a begin, a take, the rota's calls and saved frames have rows of their own, below the frame.
abbrev pub Row : Histories → Call → ℕ → Type 0
Row H (opening s) n = Only (SheetRow s) n
Row H (writing out) n = Exactly (WriteCase (entries_of H.sheet) (length out)) (2 ∷ 12 ∷ []) n
Row H (loading h e) n = Exactly (AtCase h (LoadCase H.sheet e)) (1 ∷ 5 ∷ []) n
Row H (at h a) n = Exactly (AtCase h (ActCase (H.heads h) a)) (1 ∷ numbers_of a) n
Row H beginning n = Exactly (BeginCase (length H.left) (entries_of H.sheet)) (16 ∷ 2 ∷ []) n
Row H (taking out) n = Exactly (TakeCase (length H.left)) (17 ∷ []) n
Row H (at_rota c) n = Exactly (rota.RotaCase H.rota c) (rota.numbers_of c) n
Row H (saving_heads out) n = Exactly (SaveCase (saved_row_count H.heads) (length out)) (12 ∷ []) n
Row H (restoring_heads b) n = Exactly (RestoreCase b) (20 ∷ []) n

-- after any calls on a fresh frame, a call's number is that of its row
unfoldable pub NumbersByRows : Type 0
NumbersByRows = (cs : List Call) (c : Call) → Row (advance_all no_histories cs) c (call_number (advance_all no_histories cs) c)
