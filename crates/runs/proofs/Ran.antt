-- What a run leaves of a filter of any type, from what it leaves of its own type's. Assumes nothing.
use Prim.Native.Nat.{ℕ}
use mathlib.Core.Path.{◌≡◌, refl}
use mathlib.Core.Bool.{true, false, cond}
use mathlib.Core.List.{List}
use lib.Dec.{eqb}
use lib.Ieee.{Float}
use Rattle.filter_core.specs.Refusal.{unless_refused}
use Rattle.any_filter.specs.Cases.{type_of}
use Rattle.any_filter.specs.declared.Filter.{Filter}
use Rattle.any_filter.specs.declared.Filter.TheVariants.{DcBlocker, OnePole, Svf, NaiveSvf, ModifiedSvf, CrossoverSvf}
use Rattle.runs.specs.Form.{run_refusal, run_two_refusal}
use Rattle.runs.specs.Run.{machine_of, RanBy, Ran, RanTwoBy, RanTwo, through, first_output, second_output}
use Rattle.runs.specs.declared.form.RunForm.{RunForm}

carried : {S : Type 0} (of : S → Filter) (n : ℕ) (a b : S) {t : S} → t ≡ unless_refused n a b → of t ≡ unless_refused n (of a) (of b)
carried of n a b e = rw e (elim (eqb n 0) as (λ c. of (cond c b a) ≡ cond c (of b) (of a)) [ true ↦ refl | false ↦ refl ])

-- a filter is what its machine makes of what it starts from
starts : (f : Filter) (form : RunForm) → (machine_of f form).filter (machine_of f form).start ≡ f
starts (DcBlocker s) form = refl
starts (OnePole s) form = refl
starts (Svf s) form = refl
starts (NaiveSvf s) form = refl
starts (ModifiedSvf s) form = refl
starts (CrossoverSvf p) form = refl

module _ {f : Filter} (g : Filter) (form : RunForm) (e : f ≡ g) {us ys ys' : List Float} {t : (machine_of g form).State} where
  pub ran_case : RanBy (run_refusal (type_of g) form) (machine_of g form).form (machine_of g form).start us ys t ys' → Ran f form us ys ((machine_of g form).filter t) ys'
  unfolding through first_output
  ran_case p =
      rw e
      (record {
        filter_is = rw (starts g form) at (carried (machine_of g form).filter (run_refusal (type_of g) form) _ _ p.filter_is);
        output_is = p.output_is;
      })

  pub ran_two_case : {zs zs' : List Float} → RanTwoBy (run_two_refusal (type_of g) form) (machine_of g form).form (machine_of g form).start us ys zs t ys' zs'
      → RanTwo f form us ys zs ((machine_of g form).filter t) ys' zs'
  unfolding through first_output second_output
  ran_two_case p =
      rw e
      (record {
        filter_is = rw (starts g form) at (carried (machine_of g form).filter (run_two_refusal (type_of g) form) _ _ p.filter_is);
        first_is = p.first_is;
        second_is = p.second_is;
      })
