-- The number that an entry is refused with: `kind` 3, then `word` 4, then `frequency` 11 of the refusal table; 0 where it is not.
use Rattle.std.specs.Prelude.{ℕ, zero, suc, cond, eqb, ltb, Option, Some, None}
use Rattle.filter_core.specs.Arithmetic.{word}
use Rattle.filter_core.specs.Refusal.{frequency_refusal}
use Rattle.filter_core.specs.declared.FrequencyApproximation.{FrequencyApproximation}
use Rattle.words.specs.Word.{other_nan}
use Rattle.filter_core.specs.Rows.{◌then◌}
use Rattle.sheets.specs.Kind.{setter_in, kind_refusal}
use Rattle.sheets.specs.declared.edition.Edition.{Edition}
use Rattle.sheets.specs.declared.entry.Entry.{Entry}
use Rattle.sheets.specs.declared.setter.Setter.{Setter}
use Rattle.sheets.specs.declared.setter.Setter.TheVariants.{DcBlocker, OnePole, SvfFrequency, SvfCoefficients, NaiveSvf, ModifiedSvf, CrossoverSvf}

-- the first refusal of f 0, f 1, .., f (n - 1)
unfoldable pub first_refusal : ℕ → (ℕ → ℕ) → ℕ
first_refusal zero f = 0
first_refusal (suc n) f = first_refusal n f then f n

-- how many of the words a, b, c a setter uses
abbrev pub used : Setter → ℕ
used DcBlocker = 1
used (OnePole p) = 1
used (SvfFrequency p) = 2
used SvfCoefficients = 3
used (NaiveSvf p) = 2
used ModifiedSvf = 2
used CrossoverSvf = 2

-- the word at the place k (a 0, b 1, c 2) of a setter that uses the first u: another NaN, or unused and not zero
abbrev pub word_refusal : ℕ → ℕ → ℕ → ℕ
word_refusal u k w = cond (ltb k u) (cond (other_nan w) 4 0) (cond (eqb w 0) 0 4)

abbrev pub words_refusal : ℕ → Entry → ℕ
words_refusal u t = word_refusal u 0 t.a then word_refusal u 1 t.b then word_refusal u 2 t.c

-- `frequency`: the number of a word that stands for an f
abbrev pub word_frequency_refusal : ℕ → FrequencyApproximation → ℕ
word_frequency_refusal a p = frequency_refusal (word a) p

-- a is an f where the setter takes an approximation
abbrev pub setting_refusal : Setter → ℕ → ℕ
setting_refusal DcBlocker a = 0
setting_refusal (OnePole p) a = word_frequency_refusal a p
setting_refusal (SvfFrequency p) a = word_frequency_refusal a p
setting_refusal SvfCoefficients a = 0
setting_refusal (NaiveSvf p) a = word_frequency_refusal a p
setting_refusal ModifiedSvf a = 0
setting_refusal CrossoverSvf a = 0

-- an entry with the setter s: 3, then 4, then 11
abbrev pub refusal_by : Option Setter → Entry → ℕ
refusal_by (Some s) t = words_refusal (used s) t then setting_refusal s t.a
refusal_by None t = kind_refusal None

-- an entry of a sheet of the edition v
unfoldable pub entry_refusal : Edition → Entry → ℕ
entry_refusal v t = refusal_by (setter_in v t.kind) t
