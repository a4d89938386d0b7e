-- Bytes are accepted where every rule of a saved frame holds, and refused with 20 where one is broken. Assumes nothing.
use Prim.Native.Nat.{ℕ, ◌+◌, ◌*◌, ◌≤◌}
use mathlib.Core.Path.{◌≡◌, refl, sym, ap, subst, ◌∙◌}
use mathlib.Core.Bool.{Bool, true, false, cond}
use mathlib.Core.List.{List, [], ◌∷◌}
use native.Mathlib.Omega.{arith}
use borrow.Author.Tests.{ltb-true, ltb-false}
use lib.Dec.{ltb}
use lib.ListN.{length, replicate}
use Rattle.std.specs.Prelude.{bytes_eq}
use Rattle.std.specs.List.{fold}
use Rattle.heads.specs.Head.{empty_head}
use Rattle.heads.specs.declared.Head.{Head}
use Rattle.saved_heads.specs.Bytes.{rows_from, rows_said, row_at, rows_bytes, bytes_of, with_row, heads_in}
use Rattle.saved_heads.specs.Saved.{saved_length, restore_refusal}
use Rattle.saved_heads.specs.Rules.{Saved}
use Rattle.filter_core.specs.Rows.{First, none, here, later}
use Rattle.filter_core.proofs.Rows.{exactly, by_test}
use Rattle.saved_heads.specs.Rows.{SaveCase, short, RestoreCase, broken, SavedHeadsByRows}
use Rattle.saved_heads.specs.RoundTrip.{ValidHeads}
use Rattle.lists.proofs.Tables.{all_table}
use Rattle.words.specs.Word.{Bytes}
use Rattle.saved_heads.proofs.Bytes.{Shaped, long_written, shaped_at, bytes_back}
use Rattle.saved_heads.proofs.Heads.{heads_back, rows_right, rows_many, rows_eight, in_turn, grouped}
use Rattle.saved_heads.proofs.RoundTrip.{accepted_of, accepted_is, accepted_bytes, valid, all_read, few, rows_of_bytes, said_of_bytes}

-- ---- what is accepted keeps the rules: it is what heads are written as

written_saved : (xs : List Head) → ValidHeads xs → Bytes (bytes_of xs) → Saved (bytes_of xs)
written_saved xs k bytes =
    let s = said_of_bytes xs k in
    let r = rows_of_bytes xs k in
    record {
      bytes = bytes;
      some = rw s (omega (arith, rows_many 0 xs, k.twelve));
      most = rw s (few xs k);
      long = rw s (long_written (rows_from 0 xs) (rows_eight 0 xs));
      rows = rw r (rows_right 0 xs k.heads);
      turns = rw r (in_turn 0 xs (omega (arith, k.twelve)) k.heads);
    }

accepted : (b : List ℕ) → restore_refusal b ≡ 0 → Saved b
accepted b z =
    let e = accepted_is b z in
    subst Saved e (written_saved (heads_in b) (valid b z) (subst Bytes (sym e) (accepted_bytes b z)))

-- ---- and what keeps the rules is accepted

saved : (b : List ℕ) → Saved b → restore_refusal b ≡ 0
saved b h =
    let g = grouped h.turns h.rows (all_table Shaped (rows_said b) (row_at b) (λ i l. shaped_at b h.bytes i)) in
    let k : ValidHeads g.heads = record { twelve = omega (arith, g.count); heads = g.valid } in
    let e : heads_in b ≡ g.heads = all_read b h.most ∙ ap (fold with_row (replicate 12 empty_head)) (sym g.rows) ∙ heads_back g.heads k in
    accepted_of b (ap bytes_of e ∙ ap rows_bytes g.rows ∙ bytes_back b h.bytes h.long h.most)

-- ---- row by row

not_zero : {n : ℕ} → n ≡ 20 → n ≡ 0 → ⊥
not_zero p q = omega arith

restored_row : (b : List ℕ) → First (RestoreCase b) (20 ∷ []) (restore_refusal b)
restored_row b = go (bytes_eq (bytes_of (heads_in b)) b) refl
  where
    go : (t : Bool) → bytes_eq (bytes_of (heads_in b)) b ≡ t → First (RestoreCase b) (20 ∷ []) (cond t 0 20)
    go true q = later (λ p. elim p [ broken n ↦ n (accepted b (ap (λ (t : Bool). cond t 0 20) q)) ]) none
    go false q = here (broken (λ h. not_zero (ap (λ (t : Bool). cond {A = ℕ} t 0 20) q) (saved b h)))

has_room : {n m : ℕ} → 2 + 38 * n ≤ m → SaveCase n m 12 → ⊥
has_room l (short s) = omega arith

pub saved_heads_by_rows : SavedHeadsByRows
saved_heads_by_rows =
    record {
      saves = λ xs out. exactly (by_test (ltb (length out) (saved_length xs)) (λ q. short (ltb-true _ _ q)) (λ q. has_room (ltb-false _ _ q)) (λ q. none));
      restores = λ b. exactly (restored_row b);
      accepted = λ b. (accepted b, saved b);
    }
