-- The words of a sheet come back from binary32. Assumes nothing.
use Prim.Native.Nat.{ℕ, zero, suc, ◌+◌, ◌*◌, ◌%◌, ◌<◌}
use mathlib.Core.Path.{◌≡◌, refl}
use mathlib.Core.Bool.{Bool, true, false}
use mathlib.Core.List.{List}
use native.Mathlib.Omega.{arith}
use borrow.Author.Tests.{eqb-false}
use lib.Dec.{eqb}
use lib.Ieee.{is_nan}
use lib.ListN.{drop}
use Rattle.filter_core.specs.Arithmetic.{word}
use Rattle.words.specs.Word.{written_nan, other_nan}
use Rattle.words.proofs.Words.{comes_back, word_small, bytes_take, bytes_drop}
use Rattle.filter_core.proofs.Rows.{passed}
use Rattle.sheets.specs.Sheet.{entries_of, setting_at, word_at, entry_in}
use Rattle.sheets.specs.Rows.{WordWrong, another_nan, WordsWrong, wrong_a, wrong_b, wrong_c, words_used, wrong_words, RowAt, WordsReturn}

no_other_nan : (u k w : ℕ) → (WordWrong u k w → ⊥) → other_nan w ≡ false
no_other_nan u k w n = go (eqb w written_nan) (is_nan (word w)) refl refl
  where
    go : (a b : Bool) → eqb w written_nan ≡ a → is_nan (word w) ≡ b → other_nan w ≡ false
    go true b p q = rw p refl
    go false true p q = absurd (n (another_nan q (eqb-false w written_nan p)))
    go false false p q = rw (p, q) refl

module _ (s : List ℕ) (e : ℕ) (r : RowAt s e 0) where
  abbrev u : ℕ
  u = words_used ((entry_in s e).kind % 16)

  no_wrong_words : WordsWrong u (entry_in s e) → ⊥
  no_wrong_words w = (passed (passed r (λ z. omega arith)).1 (λ z. omega arith)).0 (wrong_words w)

  no_nan_at : (k : ℕ) → k < 3 → other_nan (word_at s e k) ≡ false
  no_nan_at zero m = no_other_nan u 0 (word_at s e 0) (λ w. no_wrong_words (wrong_a w))
  no_nan_at (suc zero) m = no_other_nan u 1 (word_at s e 1) (λ w. no_wrong_words (wrong_b w))
  no_nan_at (suc (suc zero)) m = no_other_nan u 2 (word_at s e 2) (λ w. no_wrong_words (wrong_c w))
  no_nan_at (suc (suc (suc k))) m = absurd (omega arith)

pub words_return : WordsReturn
words_return s b h e k l m =
    comes_back (word_at s e k) (word_small (setting_at s e) (4 * k) (bytes_take 12 (drop (2 + entries_of s + 12 * e) s) (bytes_drop (2 + entries_of s + 12 * e) s b)))
    (no_nan_at s e (h.entries e l) k m)
