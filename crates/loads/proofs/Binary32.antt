-- Binary32 holds every field of a filter that a setter makes of words: each is a word or a result of the arithmetic. Assumes nothing.
use Prim.Native.Nat.{ℕ}
use lib.Ieee.{Float}
use lib.Ieee.Fits.{mul-fits, div-fits, neg-fits, cond-fits}
use lib.Ieee.Bits.{of_bits-fits}
use Rattle.std.specs.Prelude.{unwrap_or}
use Rattle.std.proofs.lemmas.List.Elements.{All-from_recursion}
use Rattle.filter_core.specs.Arithmetic.{word}
use Rattle.filter_core.specs.Refusal.{frequency_refusal}
use Rattle.filter_core.specs.declared.FrequencyApproximation.{FrequencyApproximation}
use Rattle.filter_core.specs.declared.FrequencyApproximation.TheVariants.{Exact, Accurate, Fast, Dirty, Series}
use Rattle.one_pole.specs.Tangent.{tan_of}
use Rattle.naive_svf.specs.Sine.{naive_frequency}
use Rattle.any_filter.specs.Binary32.{IsBinary32, Representable}
use Rattle.any_filter.specs.declared.Filter.TheVariants as type
use Rattle.sheets.specs.Kind.{setter_of}
use Rattle.sheets.specs.declared.entry.Entry.{Entry}
use Rattle.sheets.specs.declared.setter.Setter.{Setter}
use Rattle.sheets.specs.declared.setter.Setter.TheVariants.{DcBlocker, OnePole, SvfFrequency, SvfCoefficients, NaiveSvf, ModifiedSvf, CrossoverSvf}
use Rattle.loads.specs.Load.{filter_for, filter_of}
use Rattle.any_filter.proofs.Binary32.{FieldsHeld}
use Rattle.loads.proofs.Rest.{either}

-- each is a product, but that of Exact can be a quotient or be negated
tan_held : (f : Float) (m : FrequencyApproximation) → IsBinary32 (tan_of f m)
tan_held f Exact = search (mul-fits, div-fits, neg-fits, cond-fits)
tan_held f Accurate = search mul-fits
tan_held f Fast = search mul-fits
tan_held f Dirty = search mul-fits
tan_held f Series = search mul-fits

naive_held : (f : Float) (m : FrequencyApproximation) → IsBinary32 (naive_frequency f m)
naive_held f Exact = search mul-fits
naive_held f Accurate = search mul-fits
naive_held f Fast = search mul-fits
naive_held f Dirty = search mul-fits
naive_held f Series = search mul-fits

ruleset set = (tan_held, naive_held, div-fits, of_bits-fits)

held : (s : Setter) (a b c : ℕ) → FieldsHeld (filter_for s (word a) (word b) (word c))
unfolding filter_for
held DcBlocker a b c = search set
held (OnePole m) a b c = either FieldsHeld type.OnePole (frequency_refusal (word a) m) _ _ (search set) (search set)
held (SvfFrequency m) a b c = either FieldsHeld type.Svf (frequency_refusal (word a) m) _ _ (search set) (search set)
held SvfCoefficients a b c = search set
held (NaiveSvf m) a b c = either FieldsHeld type.NaiveSvf (frequency_refusal (word a) m) _ _ (search set) (search set)
held ModifiedSvf a b c = search set
held CrossoverSvf a b c = search set

pub loaded_held : (e : Entry) → Representable (filter_of e)
loaded_held e = All-from_recursion IsBinary32 _ (held (unwrap_or (setter_of e.kind) DcBlocker) e.a e.b e.c)
