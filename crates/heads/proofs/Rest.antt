-- From a rest on, a head's filter is what it would be if the head had just been loaded. Assumes nothing.
use mathlib.Core.Path.{◌≡◌, refl, ap, sym, ◌∙◌}
use mathlib.Core.List.{List, [], ◌∷◌, ◌++◌}
use lib.Ieee.{Float}
use Rattle.any_filter.specs.Cases.{type_of, rested}
use Rattle.any_filter.specs.Rest.{coefficients_of}
use Rattle.any_filter.specs.declared.Filter.{Filter}
use Rattle.any_filter.specs.declared.Filter.TheVariants.{DcBlocker, OnePole, Svf, NaiveSvf, ModifiedSvf, CrossoverSvf}
use Rattle.runs.specs.Run.{through}
use Rattle.runs.specs.declared.form.RunForm.{RunForm}
use Rattle.heads.specs.History.{Event, load_event, run_event, rest_event, restored_event, filter_with, snapshot_with, snapshot_from, snapshot_of}
use Rattle.heads.specs.Rest.{load_with, last_load_from, RestIsLoad}
use Rattle.any_filter.proofs.Laws.{comes_back, clears}
use Rattle.runs.proofs.Kept.{runs_keep}
use Rattle.loads.proofs.Rest.{loads_at_rest}
use Rattle.heads.proofs.Sound.{snapshot_append, type_through, type_rested}
use Rattle.std.specs.Prelude.{Option, None, Some}
use Rattle.heads.specs.declared.Snapshot.{Snapshot}

-- ---- filters of one type with the same coefficients rest the same

same_rest : (f g : Filter) → type_of f ≡ type_of g → coefficients_of f ≡ coefficients_of g → rested f ≡ rested g
same_rest f g t c =
    let f-is = comes_back (rested f) in
    let g-is = comes_back (rested g) in
    let f-fields = clears f in
    let g-fields = clears g in
    let f-type = type_rested f in
    let g-type = type_rested g in
    cc

rest_run : (f : Filter) (form : RunForm) (us : List Float) → rested (through f form us) ≡ rested f
rest_run f form us = same_rest (through f form us) f (type_through f form us) (runs_keep f form us)

rest_again : (f : Filter) → rested (rested f) ≡ rested f
rest_again (DcBlocker s) = refl
rest_again (OnePole s) = refl
rest_again (Svf s) = refl
rest_again (NaiveSvf s) = refl
rest_again (ModifiedSvf s) = refl
rest_again (CrossoverSvf p) = refl

-- ---- what a head holds, after a rest

abbrev rested_in : Option Filter → Option Filter
rested_in s = filter_with s rest_event

run_in : (s : Option Filter) (form : RunForm) (us : List Float) → rested_in (filter_with s (run_event form us)) ≡ rested_in s
run_in None form us = refl
run_in (Some f) form us = ap Some (rest_run f form us)

rest_in : (s : Option Filter) → rested_in (rested_in s) ≡ rested_in s
rest_in None = refl
rest_in (Some f) = ap Some (rest_again f)

-- what is held, and whose rest is what a history leads to; one event later, it is what that history's last load leads to
after_event : (s : Option Filter) (l : List Event) (i : Event) → rested_in s ≡ (snapshot_of l).filter → rested_in (filter_with s i) ≡ (snapshot_of (load_with l i)).filter
unfolding snapshot_from
after_event s l (load_event e) h = ap Some (loads_at_rest e)
after_event s l (run_event form us) h = run_in s form us ∙ h
after_event s l rest_event h = rest_in s ∙ h
after_event s l (restored_event f n) h = refl

-- ---- histories

-- from equal filters on, equal filters
filters : (s t : Snapshot) (l : List Event) → s.filter ≡ t.filter → (snapshot_from s l).filter ≡ (snapshot_from t l).filter
unfolding snapshot_from
filters s t [] e = e
filters s t (i ∷ l) e = filters (snapshot_with s i) (snapshot_with t i) l (ap (λ (x : Option Filter). filter_with x i) e)

passed : (s : Snapshot) (l before after : List Event) → rested_in s.filter ≡ (snapshot_of l).filter
    → (snapshot_from s (before ++ rest_event ∷ after)).filter ≡ (snapshot_of (last_load_from l before ++ after)).filter
unfolding snapshot_from last_load_from
passed s l [] after h = filters (snapshot_with s rest_event) (snapshot_of l) after h ∙ sym (ap (λ (x : Snapshot). x.filter) (snapshot_append _ l after))
passed s l (i ∷ before) after h = passed (snapshot_with s i) (load_with l i) before after (after_event s.filter l i h)

pub rest_is_load : RestIsLoad
unfolding snapshot_from
rest_is_load before after = passed _ [] before after refl
