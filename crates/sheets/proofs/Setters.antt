-- What the check takes for a frequency's number is the setter's. Assumes nothing.
use Prim.Native.Nat.{ℕ}
use Rattle.std.specs.Prelude.{Some}
use mathlib.Core.Path.{◌≡◌, refl, sym, ◌∙◌}
use Rattle.filter_core.specs.Arithmetic.{word}
use Rattle.filter_core.specs.Refusal.{frequency_refusal}
use Rattle.filter_core.specs.declared.FrequencyApproximation.{FrequencyApproximation}
use Rattle.filter_core.proofs.Rows.{then_zero}
use Rattle.sheets.specs.Kind.{setter_in}
use Rattle.sheets.specs.Refusal.{used, words_refusal, word_frequency_refusal, setting_refusal, refusal_by, entry_refusal}
use Rattle.sheets.specs.Setters.{FrequencySetter, one_pole, svf, naive, AsSetters}
use Rattle.sheets.specs.declared.edition.Edition.{Edition}
use Rattle.sheets.specs.declared.entry.Entry.{Entry}
use Rattle.sheets.specs.declared.setter.Setter.{Setter}

pub by_setter : (a : ℕ) (p : FrequencyApproximation) → word_frequency_refusal a p ≡ frequency_refusal (word a) p
by_setter a p = refl

-- a setter that takes a frequency: its refusal is the frequency's
by_frequency : {s : Setter} {p : FrequencyApproximation} (a : ℕ) → FrequencySetter s p → setting_refusal s a ≡ frequency_refusal (word a) p
by_frequency {p = p} a one_pole = by_setter a p
by_frequency {p = p} a svf = by_setter a p
by_frequency {p = p} a naive = by_setter a p

module _ (v : Edition) (t : Entry) (s : Setter) (p : FrequencyApproximation) (q : setter_in v t.kind ≡ Some s) (f : FrequencySetter s p) where
  same : words_refusal (used s) t ≡ 0 → entry_refusal v t ≡ frequency_refusal (word t.a) p
  unfolding entry_refusal
  same w = rw (q, w) (by_frequency t.a f)

  taken : entry_refusal v t ≡ 0 → frequency_refusal (word t.a) p ≡ 0
  unfolding entry_refusal
  taken z =
      let w : refusal_by (Some s) t ≡ 0 = rw q at z in
      sym (by_frequency t.a f) ∙ (then_zero (words_refusal (used s) t) (setting_refusal s t.a) w).1

pub as_setters : AsSetters
as_setters = record { same = same; taken = taken }
