-- An entry that the check takes is set: its setter's number is 0. Assumes nothing.
use Prim.Native.Nat.{ℕ}
use Rattle.std.specs.Prelude.{Some}
use mathlib.Core.Path.{◌≡◌, refl, ◌∙◌}
use Rattle.filter_core.specs.Arithmetic.{word}
use Rattle.filter_core.specs.Refusal.{frequency_refusal, unless_refused}
use borrow.Author.Tests.{eq-eqb}
use Rattle.any_filter.specs.declared.Filter.TheVariants as type
use Rattle.any_filter.specs.declared.Filter.{Filter}
use Rattle.sheets.specs.Kind.{setter_of}
use Rattle.sheets.specs.Setters.{FrequencySetter, one_pole, svf, naive}
use Rattle.sheets.specs.declared.setter.Setter.{Setter}
use Rattle.sheets.proofs.Editions.{entry_setter}
use Rattle.sheets.proofs.Setters.{as_setters}
use Rattle.loads.specs.Load.{filter_for}
use Rattle.loads.specs.Set.{LoadsAreSet}

-- a setter whose number is 0 sets
accepted : {S : Type 0} (of : S → Filter) {n : ℕ} (new set : S) → n ≡ 0 → of (unless_refused n new set) ≡ of set
accepted of {n} new set z = rw (eq-eqb n 0 z) refl

pub loads_are_set : LoadsAreSet
unfolding filter_for
loads_are_set v t p z =
    record {
      one_pole = λ e. rw e (accepted type.OnePole _ _ (taken e one_pole));
      svf = λ e. rw e (accepted type.Svf _ _ (taken e svf));
      naive = λ e. rw e (accepted type.NaiveSvf _ _ (taken e naive));
    }
  where
    taken : {s : Setter} → setter_of t.kind ≡ Some s → FrequencySetter s p → frequency_refusal (word t.a) p ≡ 0
    taken {s} e f = as_setters.taken v t s p (entry_setter v t z ∙ e) f z
