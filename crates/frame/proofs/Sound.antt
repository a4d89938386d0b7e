-- What holds of all histories that calls make: each head's is sound, and the library is that of the sheet. Assumes nothing.
use Prim.Native.Nat.{ℕ, ◌<◌}
use mathlib.Core.Path.{◌≡◌, refl}
use mathlib.Core.Bool.{Bool, true, false, cond}
use mathlib.Core.List.{List, [], ◌∷◌}
use native.Mathlib.Omega.{arith}
use borrow.Author.Tests.{eqb-true}
use lib.Dec.{eqb, ltb}
use lib.ListN.{get_or}
use Rattle.sheets.specs.Sheet.{entries_of, entry_in}
use Rattle.sheets.specs.Rows.{Sheet}
use Rattle.sheets.proofs.Rows.{check_sheet}
use Rattle.library.specs.Library.{library_of, entry_at}
use Rattle.library.specs.Rows.{Held, nothing, of_sheet}
use Rattle.library.proofs.RoundTrip.{same_entries, no_sheet}
use Rattle.heads.specs.History.{HeadHistory, act_number}
use Rattle.heads.specs.Follows.{SoundHead}
use Rattle.heads.specs.Head.{empty_head}
use Rattle.heads.specs.Valid.{restored_history}
use Rattle.heads.proofs.Sound as head
use Rattle.heads.proofs.Valid.{heads_valid}
use Rattle.saved_heads.specs.Bytes.{heads_in}
use Rattle.saved_heads.specs.Saved.{restore_refusal}
use Rattle.saved_heads.proofs.Heads.{head_valid}
use Rattle.saved_heads.proofs.RoundTrip.{heads_return}
use Rattle.frame.specs.Call.{Call, opening, writing, loading, at, beginning, taking, at_rota, saving_heads, restoring_heads}
use Rattle.frame.specs.History.{Histories, no_histories, head_first, call_number, with_history, grown, advance, advance_all}

-- the library is that of a sheet, or none, and its entries are the sheet's; where there are some, it is a sheet
pub record SoundSheet (s : List ℕ) : Type 0 where
  pub held : Held (library_of s) (entries_of s)
  pub entry : (e : ℕ) → e < entries_of s → entry_at (library_of s) e ≡ entry_in s e
  pub whole : 0 < entries_of s → Sheet s

pub record Sound (H : Histories) : Type 0 where
  pub sheet : SoundSheet H.sheet
  pub each : (h : ℕ) → SoundHead (H.heads h)

pub sheet_of : {s : List ℕ} → Sheet s → SoundSheet s
sheet_of {s} p = record { held = of_sheet p; entry = (same_entries s p).entry; whole = λ l. p }

either : (b : Bool) (x y : HeadHistory) → SoundHead x → SoundHead y → SoundHead (cond b x y)
either true x y S R = S
either false x y S R = R

sound_at : (H : Histories) (h : ℕ) (x : HeadHistory) → Sound H → SoundHead x → Sound (with_history H h x)
sound_at H h x S R = record { sheet = S.sheet; each = λ j. either (eqb j h) x (H.heads j) R (S.each j) }

-- the number after that of the head is 0 too
past_head : (h n : ℕ) → head_first h n ≡ 0 → n ≡ 0
past_head h n q = go (ltb 11 h) q
  where
    go : (b : Bool) → cond b 1 n ≡ 0 → n ≡ 0
    go true q = absurd (omega arith)
    go false q = q

-- each head of an accepted restore opens a sound history
pub sound_restored : (b : List ℕ) → restore_refusal b ≡ 0 → (h : ℕ) → SoundHead (restored_history (get_or (heads_in b) h empty_head))
sound_restored b q h = heads_valid.sound (get_or (heads_in b) h empty_head) (head_valid (heads_in b) (heads_return.valid b q).heads h)

sound_accepted : (H : Histories) (c : Call) → Sound H → call_number H c ≡ 0 → Sound (grown H c)
unfolding call_number
sound_accepted H (opening s) S q = record { sheet = sheet_of (check_sheet s q); each = S.each }
sound_accepted H (writing out) S q = S
sound_accepted H (loading h e) S q = sound_at H h _ S (head.sound_loaded (H.heads h) (entry_in H.sheet e) (S.each h))
sound_accepted H (at h a) S q =
    sound_at H h _ S (head.sound_grown (H.heads h) a (S.each h) (past_head h (act_number (H.heads h) a) q))
sound_accepted H beginning S q = record { sheet = S.sheet; each = S.each }
sound_accepted H (taking out) S q = record { sheet = S.sheet; each = S.each }
sound_accepted H (at_rota c) S q = record { sheet = S.sheet; each = S.each }
sound_accepted H (saving_heads out) S q = S
sound_accepted H (restoring_heads b) S q = record { sheet = S.sheet; each = sound_restored b q }

pub sound_advance : (H : Histories) (c : Call) → Sound H → Sound (advance H c)
unfolding advance
sound_advance H c S = go (eqb (call_number H c) 0) refl
  where
    go : (b : Bool) → eqb (call_number H c) 0 ≡ b → Sound (cond b (grown H c) H)
    go true q = sound_accepted H c S (eqb-true _ _ q)
    go false q = S

pub sound_all : (H : Histories) (cs : List Call) → Sound H → Sound (advance_all H cs)
unfolding advance_all
sound_all H [] S = S
sound_all H (c ∷ cs) S = sound_all (advance H c) cs (sound_advance H c S)

pub sound_none : Sound no_histories
sound_none =
    record { sheet = record { held = rw no_sheet nothing; entry = λ e l. absurd (omega arith); whole = λ l. absurd (omega arith) }; each = λ h. head.sound_none }
