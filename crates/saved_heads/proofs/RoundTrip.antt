-- Heads and their saved form come back from each other. Assumes nothing.
use Prim.Native.Nat.{ℕ, ◌≤◌}
use mathlib.Core.Path.{◌≡◌, refl, sym, ap, subst, ◌∙◌}
use mathlib.Core.Bool.{Bool, true, false, cond}
use mathlib.Core.List.{List}
use native.Mathlib.Omega.{arith}
use lib.ListN.{length, take, replicate}
use lib.Seq.{take_all}
use Rattle.std.specs.Prelude.{bytes_eq}
use Rattle.std.specs.List.{fold}
use Rattle.std.proofs.lemmas.List.Elements.{All-replicate, All-take}
use Rattle.std.proofs.lemmas.Slice.Eq.{bytes_eq-Decides}
use Rattle.lists.proofs.Tables.{length_table, all_table}
use Rattle.heads.specs.Head.{empty_head}
use Rattle.heads.specs.declared.Head.{Head}
use Rattle.saved_heads.specs.Bytes.{rows_from, rows_said, row_at, rows_in, bytes_of, with_row, heads_in}
use Rattle.saved_heads.specs.Saved.{saved_length, restore_refusal}
use Rattle.heads.specs.Valid.{ValidHead}
use Rattle.saved_heads.specs.RoundTrip.{ValidHeads, HeadsReturn}
use Rattle.words.specs.Word.{Bytes}
use Rattle.saved_heads.proofs.Bytes.{Shaped, rows_read, said_written, long_written, shaped_at, written_below}
use Rattle.saved_heads.proofs.Heads.{heads_back, rows_shaped, rows_few, rows_valid, rows_length, rows_eight, rows_tagged, empty_valid}

-- ---- bytes are accepted where they are those of the heads that they say

pub accepted_of : (b : List ℕ) → bytes_of (heads_in b) ≡ b → restore_refusal b ≡ 0
accepted_of b e = ap (λ (t : Bool). cond t 0 20) ((bytes_eq-Decides (bytes_of (heads_in b)) b).1 e)

pub accepted_is : (b : List ℕ) → restore_refusal b ≡ 0 → bytes_of (heads_in b) ≡ b
accepted_is b z = go (bytes_eq (bytes_of (heads_in b)) b) refl z
  where
    go : (t : Bool) → bytes_eq (bytes_of (heads_in b)) b ≡ t → cond {A = ℕ} t 0 20 ≡ 0 → bytes_of (heads_in b) ≡ b
    go true q z = (bytes_eq-Decides (bytes_of (heads_in b)) b).0 q
    go false q z = absurd (omega arith)

-- where no more than 60 rows are said, all are read
pub all_read : (b : List ℕ) → rows_said b ≤ 60 → heads_in b ≡ fold with_row (replicate 12 empty_head) (rows_in b)
all_read b l = ap (fold with_row (replicate 12 empty_head)) (take_all 60 (rows_in b) (rw (length_table (rows_said b) (row_at b)) l))

-- ---- heads are restored

long : (xs : List Head) → length (bytes_of xs) ≡ saved_length xs
long xs = long_written (rows_from 0 xs) (rows_eight 0 xs)

module _ (xs : List Head) (k : ValidHeads xs) where
  pub few : length (rows_from 0 xs) ≤ 60
  few = omega (arith, rows_few 0 xs k.heads, k.twelve)

  pub rows_of_bytes : rows_in (bytes_of xs) ≡ rows_from 0 xs
  rows_of_bytes = rows_read (rows_from 0 xs) few (rows_shaped 0 xs k.heads)

  pub said_of_bytes : rows_said (bytes_of xs) ≡ length (rows_from 0 xs)
  said_of_bytes = said_written (rows_from 0 xs) few (rows_shaped 0 xs k.heads)

  same_heads : heads_in (bytes_of xs) ≡ xs
  same_heads =
      all_read (bytes_of xs) (rw said_of_bytes few)
      ∙ ap (fold with_row (replicate 12 empty_head)) rows_of_bytes
      ∙ heads_back xs k

  restored : (restore_refusal (bytes_of xs) ≡ 0) × (heads_in (bytes_of xs) ≡ xs)
  restored = (accepted_of (bytes_of xs) (ap bytes_of same_heads), same_heads)

-- ---- what is restored is valid

length_in : (b : List ℕ) → length (heads_in b) ≡ 12
length_in b = rows_length (replicate 12 empty_head) (take 60 (rows_in b))

module _ (b : List ℕ) (z : restore_refusal b ≡ 0) where
  pub accepted_bytes : Bytes b
  accepted_bytes = subst Bytes (accepted_is b z) (written_below (rows_from 0 (heads_in b)) (rows_tagged (heads_in b) (length_in b)))

  pub valid : ValidHeads (heads_in b)
  valid =
      record {
        twelve = length_in b;
        heads =
            rows_valid (replicate 12 empty_head) (take 60 (rows_in b)) (All-take Shaped 60 (rows_in b) (all_table Shaped (rows_said b) (row_at b) (λ i l. shaped_at b accepted_bytes i)))
            (All-replicate ValidHead 12 empty_head empty_valid);
      }

one_form : (b c : List ℕ) → restore_refusal b ≡ 0 → restore_refusal c ≡ 0 → heads_in b ≡ heads_in c → b ≡ c
one_form b c y z e = sym (accepted_is b y) ∙ ap bytes_of e ∙ accepted_is c z

pub heads_return : HeadsReturn
heads_return = record { long = long; restored = restored; saved = accepted_is; valid = valid; one_form = one_form }
