-- No run leaves a field that binary32 does not hold: a sample leaves a field as it is, or makes it the sample itself or a result of the
-- arithmetic, which always is one that binary32 holds. Assumes nothing.
use mathlib.Core.List.{List}
use lib.Ieee.{Float}
use lib.Ieee.Fits.{add-fits, sub-fits, mul-fits}
use Rattle.std.proofs.lemmas.List.Elements.{All-from_recursion, recursion_from_All}
use Rattle.filter_core.specs.Mode.{by_mode}
use Rattle.filter_core.specs.declared.FilterMode.{FilterMode}
use Rattle.filter_core.specs.declared.FilterMode.TheVariants.{LowPass, BandPass, BandPassNormalized, HighPass}
use Rattle.svf.specs.Svf.{svf_next}
use Rattle.naive_svf.specs.NaiveSvf.{naive_next}
use Rattle.modified_svf.specs.ModifiedSvf.{modified_next, modified_out}
use Rattle.crossover_svf.specs.CrossoverSvf.{crossover_next}
use Rattle.any_filter.specs.Binary32.{IsBinary32, AllBinary32, Representable}
use Rattle.any_filter.specs.declared.Filter.{Filter}
use Rattle.runs.specs.Run.{through}
use Rattle.runs.specs.declared.form.RunForm.{RunForm}
use Rattle.any_filter.proofs.Binary32.{FieldsHeld}
use Rattle.runs.proofs.Steps.{Steps, through_upholds}

by_mode_held : (m : FilterMode) (a b c d : Float) → IsBinary32 a → IsBinary32 b → IsBinary32 c → IsBinary32 d → IsBinary32 (by_mode m a b c d)
by_mode_held LowPass a b c d p q r s = p
by_mode_held BandPass a b c d p q r s = q
by_mode_held BandPassNormalized a b c d p q r s = r
by_mode_held HighPass a b c d p q r s = s

ruleset results = (add-fits, sub-fits, mul-fits, by_mode_held)

steps : Steps FieldsHeld IsBinary32
unfolding svf_next naive_next modified_next modified_out crossover_next
steps =
    record {
      dc = λ s x q h. search results;
      one_pole = λ s x q h. search results;
      svf = λ s x q h. search results;
      naive = λ s x q h. search results;
      modified = λ mode s x q h. search results;
      crossover = λ mode s x q h. search results;
    }

pub through_held : (f : Filter) (form : RunForm) (us : List Float) → Representable f → AllBinary32 us → Representable (through f form us)
through_held f form us h us-held = All-from_recursion IsBinary32 _ (through_upholds FieldsHeld IsBinary32 steps f form us us-held (recursion_from_All IsBinary32 _ h))
