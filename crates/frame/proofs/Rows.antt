-- The numbers of the frame's calls, by their rows. Assumes nothing.
use Prim.Native.Nat.{ℕ, ◌+◌, zero, suc, ◌≤◌, ◌<◌}
use mathlib.Core.Path.{◌≡◌, refl, subst}
use mathlib.Core.List.{List, [], ◌∷◌}
use native.Mathlib.Omega.{arith}
use borrow.Author.Tests.{ltb-true, ltb-false, leb-true, leb-false}
use lib.Dec.{ltb, leb}
use lib.ListN.{length, length-append, length-map}
use Rattle.filter_core.specs.Rows.{First, none, here, later, Exactly}
use Rattle.filter_core.proofs.Rows.{exactly, by_test}
use Rattle.sheets.specs.Sheet.{entries_of}
use Rattle.sheets.proofs.Rows.{checked}
use Rattle.library.specs.Library.{library_of}
use Rattle.library.proofs.Rows.{write_by_rows}
use Rattle.heads.specs.Act.{Act, run, run_two, rest, mark, back, drop, count}
use Rattle.heads.specs.History.{HeadHistory}
use Rattle.heads.specs.Rows.{ActCase}
use Rattle.heads.proofs.Rows.{head_by_rows}
use Rattle.saves.proofs.Rows.{begin_row, take_row}
use Rattle.rota.proofs.Rows.{rota_row}
use Rattle.std.specs.List.{sum}
use Rattle.std.proofs.lemmas.List.Sums.{sum_by-cons}
use Rattle.lists.specs.Table.{table}
use Rattle.heads.specs.History.{snapshot_of}
use Rattle.heads.specs.Follows.{head_for}
use Rattle.saved_heads.specs.Row.{row_of}
use Rattle.saved_heads.specs.Bytes.{head_rows, rows_from}
use Rattle.saved_heads.specs.Saved.{save_number}
use Rattle.saved_heads.specs.Rows.{SaveCase}
use Rattle.saved_heads.proofs.Rows.{saved_heads_by_rows}
use Rattle.frame.specs.Call.{Call, opening, writing, loading, at, beginning, taking, at_rota, saving_heads, restoring_heads}
use Rattle.frame.specs.History.{Histories, no_histories, heads_of, head_first, call_number, advance_all}
use Rattle.frame.specs.Rows.{AtCase, no_head, of_head, LoadCase, no_entry, Row, NumbersByRows}
use Rattle.frame.proofs.Sound.{Sound, sound_all, sound_none}

-- the cases of a call at the head h, from its own
module _ {h : ℕ} {case : ℕ → Type 0} where
  own : {n : ℕ} → h ≤ 11 → AtCase h case n → case n
  own l (no_head m) = absurd (omega arith)
  own l (of_head p) = p

  owned : {ns : List ℕ} {r : ℕ} → h ≤ 11 → First case ns r → First (AtCase h case) ns r
  owned l none = none
  owned l (here p) = here (of_head p)
  owned l (later p f) = later (λ q. p (own l q)) (owned l f)

  -- 1 is the head's alone
  by_head : {ns : List ℕ} {n : ℕ} → (case 1 → ⊥) → First case ns n → First (AtCase h case) (1 ∷ ns) (head_first h n)
  by_head never f =
      by_test (ltb 11 h) (λ q. no_head (ltb-true 11 h q)) (λ q p. never (own (ltb-false 11 h q) p)) (λ q. owned (ltb-false 11 h q) f)

entry_there : {s : List ℕ} {e : ℕ} → e < entries_of s → LoadCase s e 5 → ⊥
entry_there l (no_entry m) = omega arith

-- no act of a head answers 1
not_head : {x : HeadHistory} (a : Act) → ActCase x a 1 → ⊥
not_head (run form us ys) p = elim p [ ]
not_head (run_two form us ys zs) p = elim p [ ]
not_head rest p = elim p [ ]
not_head mark p = elim p [ ]
not_head (back m) p = elim p [ ]
not_head (drop m) p = elim p [ ]
not_head count p = elim p [ ]

-- the rows of the heads of some histories
rows_counted : (n h : ℕ) (g : ℕ → HeadHistory) → length (rows_from h (table n (λ i. head_for (g i)))) ≡ sum (table n (λ i. 1 + length (g i).checkpoints))
unfolding rows_from table
rows_counted zero h g = refl
rows_counted (suc n) h g =
    let e = rows_counted n (suc h) (λ i. g (suc i)) in
    let x = head_for (g 0) in
    omega (
      arith,
      sum_by-cons (λ (k : ℕ). k) (1 + length (g 0).checkpoints) (table n (λ i. 1 + length (g (suc i)).checkpoints)),
      length-append (head_rows h x) (rows_from (suc h) (table n (λ i. head_for (g (suc i))))),
      length-map (x.now ∷ x.marks.items) (row_of h),
      length-map (g 0).checkpoints snapshot_of,
    )

row : (H : Histories) (c : Call) → Sound H → Row H c (call_number H c)
unfolding call_number
row H (opening s) S = (checked s).sheets
row H (writing out) S = (write_by_rows (library_of H.sheet) (entries_of H.sheet) S.sheet.held out).number
row H (loading h e) S =
    exactly
    (by_head (elim [ ])
    (by_test (leb (entries_of H.sheet) e) (λ q. no_entry (leb-true _ _ q)) (λ q. entry_there (leb-false _ _ q)) (λ q. none)))
row H (at h a) S = exactly (by_head (not_head a) (head_by_rows (H.heads h) a (S.each h)).is)
row H beginning S = exactly (begin_row (length H.left) (library_of H.sheet) (entries_of H.sheet) S.sheet.held)
row H (taking out) S = exactly (take_row (length H.left))
row H (at_rota c) S = rota_row H.rota c
row H (saving_heads out) S =
    subst (λ (n : ℕ). Exactly (SaveCase n (length out)) (12 ∷ []) (save_number (heads_of H) out)) (rows_counted 12 0 H.heads)
    (saved_heads_by_rows.saves (heads_of H) out)
row H (restoring_heads b) S = saved_heads_by_rows.restores b

pub numbers_by_rows : NumbersByRows
unfolding NumbersByRows
numbers_by_rows cs c = row (advance_all no_histories cs) c (sound_all no_histories cs sound_none)
