-- Every setter leaves a new filter at rest. Assumes nothing.
use Prim.Native.Nat.{ℕ}
use mathlib.Core.Path.{◌≡◌, refl}
use Rattle.std.specs.Prelude.{unwrap_or}
use lib.Dec.{eqb}
use Rattle.std.proofs.lemmas.Bool.{cond_both}
use lib.Ieee.{Float}
use Rattle.filter_core.specs.Arithmetic.{word}
use Rattle.filter_core.specs.Refusal.{frequency_refusal, unless_refused}
use Rattle.one_pole.specs.OnePole.{one_pole_new, one_pole_set_f}
use Rattle.svf.specs.Svf.{svf_new, svf_set_f_q}
use Rattle.naive_svf.specs.NaiveSvf.{naive_new, naive_set_f_q}
use Rattle.any_filter.specs.Cases.{rested}
use Rattle.any_filter.specs.declared.Filter.{Filter}
use Rattle.any_filter.specs.declared.Filter.TheVariants as type
use Rattle.sheets.specs.Kind.{setter_of}
use Rattle.sheets.specs.declared.setter.Setter.{Setter}
use Rattle.sheets.specs.declared.setter.Setter.TheVariants.{DcBlocker, OnePole, SvfFrequency, SvfCoefficients, NaiveSvf, ModifiedSvf, CrossoverSvf}
use Rattle.loads.specs.Load.{filter_for}
use Rattle.loads.specs.Rest.{LoadsAtRest}

abbrev Still : Filter → Type 0
Still f = rested f ≡ f

-- whether its number refuses it or not
pub either : {S : Type 0} (P : Filter → Type 0) (of : S → Filter) (n : ℕ) (new set : S) → P (of new) → P (of set) → P (of (unless_refused n new set))
either P of n new set p q = cond_both (eqb n 0) set new (λ s. P (of s)) (λ e. q) (λ e. p)

still : (s : Setter) (a b c : Float) → Still (filter_for s a b c)
unfolding filter_for
still DcBlocker a b c = refl
still (OnePole p) a b c = either Still type.OnePole (frequency_refusal a p) one_pole_new (one_pole_set_f one_pole_new a p) refl refl
still (SvfFrequency p) a b c = either Still type.Svf (frequency_refusal a p) svf_new (svf_set_f_q svf_new a b p) refl refl
still SvfCoefficients a b c = refl
still (NaiveSvf p) a b c = either Still type.NaiveSvf (frequency_refusal a p) naive_new (naive_set_f_q naive_new a b p) refl refl
still ModifiedSvf a b c = refl
still CrossoverSvf a b c = refl

pub loads_at_rest : LoadsAtRest
loads_at_rest e = still (unwrap_or (setter_of e.kind) DcBlocker) (word e.a) (word e.b) (word e.c)
