-- The number of an entry is that of its row. Assumes nothing.
use Prim.Native.Nat.{ℕ, ◌%◌, ◌/◌, ◌≤◌}
use mathlib.Core.Path.{◌≡◌, refl}
use mathlib.Core.Bool.{Bool, true, false}
use native.Mathlib.Omega.{arith}
use borrow.Author.Tests.{eqb-true, eqb-false, ltb-true, ltb-false}
use lib.Dec.{eqb, ltb}
use lib.Ieee.{is_nan}
use Rattle.std.specs.Prelude.{Option}
use Rattle.filter_core.specs.Arithmetic.{word}
use Rattle.words.specs.Word.{written_nan}
use Rattle.filter_core.specs.Rows.{◌then◌, here, later}
use Rattle.words.proofs.Words.{nan_test}
use Rattle.filter_core.proofs.Rows.{Step, yes, no, step_to, first_then, first_last}
use Rattle.sheets.specs.Edition.{edition_of}
use Rattle.sheets.specs.Refusal.{word_refusal, words_refusal, refusal_by, entry_refusal}
use Rattle.sheets.specs.Rows.{KindWrong, WordWrong, unused, another_nan, WordsWrong, wrong_a, wrong_b, wrong_c, FrequencyWrong, words_used, EntryCase, wrong_kind, wrong_words, wrong_frequency, EntryRow}
use Rattle.sheets.specs.declared.entry.Entry.{Entry}
use Rattle.sheets.specs.declared.setter.Setter.{Setter}
use Rattle.sheets.proofs.KindRows.{Kind, wrong, right, kind_of}

-- ---- words

module _ (u k w : ℕ) where
  word_right : (u ≤ k → w ≡ 0) → (is_nan (word w) ≡ true → w ≡ written_nan) → WordWrong u k w → ⊥
  word_right f g (unused l z) = z (f l)
  word_right f g (another_nan n z) = z (g n)

  zero_no_nan : w ≡ 0 → is_nan (word w) ≡ true → ⊥
  zero_no_nan e n = let z : is_nan (word 0) ≡ false = nan_test 0 in cc

  word_step : Step (WordWrong u k w) 4 (word_refusal u k w)
  word_step = go (ltb k u) (eqb w 0) (eqb w written_nan) (is_nan (word w)) refl refl refl refl
    where
      go : (a b c d : Bool) → ltb k u ≡ a → eqb w 0 ≡ b → eqb w written_nan ≡ c → is_nan (word w) ≡ d → Step (WordWrong u k w) 4 (word_refusal u k w)
      go true b true d p q r s = rw (p, r) (no (word_right (λ l. absurd (omega (arith, ltb-true k u p))) (λ n. eqb-true w written_nan r)))
      go true b false true p q r s = rw (p, r, s) (yes (another_nan s (eqb-false w written_nan r)))
      go true b false false p q r s = rw (p, r, s) (no (word_right (λ l. absurd (omega (arith, ltb-true k u p))) (λ n. cc)))
      go false true c d p q r s = rw (p, q) (no (word_right (λ l. eqb-true w 0 q) (λ n. absurd (zero_no_nan (eqb-true w 0 q) n))))
      go false false c d p q r s = rw (p, q) (yes (unused (ltb-false k u p) (eqb-false w 0 q)))

words_step : (u : ℕ) (t : Entry) → Step (WordsWrong u t) 4 (words_refusal u t)
words_step u t = go (word_step u 0 t.a) (word_step u 1 t.b) (word_step u 2 t.c)
  where
    all : (WordWrong u 0 t.a → ⊥) → (WordWrong u 1 t.b → ⊥) → (WordWrong u 2 t.c → ⊥) → WordsWrong u t → ⊥
    all x y z (wrong_a w) = x w
    all x y z (wrong_b w) = y w
    all x y z (wrong_c w) = z w

    go : {a b c : ℕ} → Step (WordWrong u 0 t.a) 4 a → Step (WordWrong u 1 t.b) 4 b → Step (WordWrong u 2 t.c) 4 c → Step (WordsWrong u t) 4 (a then b then c)
    go (yes w) y z = yes (wrong_a w)
    go (no x) (yes w) z = yes (wrong_b w)
    go (no x) (no y) (yes w) = yes (wrong_c w)
    go (no x) (no y) (no z) = no (all x y z)

-- ---- a case, by its number

module _ {b : ℕ} {t : Entry} where
  kind_case : {r : ℕ} → r ≡ 3 → EntryCase b t r → KindWrong b (t.kind % 16) (t.kind / 16)
  kind_case e (wrong_kind w) = w
  kind_case e (wrong_words w) = absurd (omega arith)
  kind_case e (wrong_frequency w) = absurd (omega arith)

  words_case : {r : ℕ} → r ≡ 4 → EntryCase b t r → WordsWrong (words_used (t.kind % 16)) t
  words_case e (wrong_kind w) = absurd (omega arith)
  words_case e (wrong_words w) = w
  words_case e (wrong_frequency w) = absurd (omega arith)

  frequency_case : {r : ℕ} → r ≡ 11 → EntryCase b t r → FrequencyWrong (t.kind % 16) (t.kind / 16) t.a
  frequency_case e (wrong_kind w) = absurd (omega arith)
  frequency_case e (wrong_words w) = absurd (omega arith)
  frequency_case e (wrong_frequency w) = w

pub entry_row : (b : ℕ) (t : Entry) → EntryRow b t (entry_refusal (edition_of b) t)
unfolding entry_refusal
entry_row b t = go (kind_of b (t.kind % 16) (t.kind / 16))
  where
    go : {o : Option Setter} → Kind b (t.kind % 16) (t.kind / 16) o → EntryRow b t (refusal_by o t)
    go (wrong w) = here (wrong_kind w)
    go (right n u f) =
        rw u
        (later (λ c. n (kind_case refl c))
        (first_then (λ z. omega arith) (step_to wrong_words (words_case refl) (words_step (words_used (t.kind % 16)) t))
        (λ z. first_last (step_to wrong_frequency (frequency_case refl) (f t.a)))))
