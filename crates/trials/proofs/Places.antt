-- The routine at a place, by the lengths in turn. Assumes nothing.
use Prim.Native.Nat.{ℕ, ◌+◌, ◌-◌, ◌≤◌, ◌<◌}
use mathlib.Core.Path.{◌≡◌, refl, sym, ◌∙◌}
use mathlib.Core.List.{List, [], ◌∷◌, ◌++◌}
use native.Mathlib.Omega.{arith}
use lib.ListN.{length, get_or, drop}
use Rattle.std.specs.Prelude.{true, Option, None, Some, filter, flat_map, leb}
use Rattle.std.specs.List.{slice_get}
use Rattle.std.proofs.lemmas.Bool.{leb-true}
use Rattle.std.proofs.lemmas.List.{drop_more, drop_all}
use Rattle.std.proofs.lemmas.List.Sums.{AllPass-from_list_all}
use Rattle.lists.proofs.Pieces.{all_get_or}
use Rattle.std.proofs.lemmas.Option.{slice_get-get_or}
use Rattle.trials.specs.Calls.{trial_sheet, opened, none_refused}
use Rattle.trials.specs.Routines.{lists_of, lengths, routines, routine_at}
use Rattle.trials.specs.Counting.{empty, routines_from}
use Rattle.trials.specs.declared.TrialCall.{TrialCall}
use Rattle.trials.proofs.Lists.{slice_get-append_left, slice_get-append_right, filter-flat_map}
use Rattle.trials.proofs.Agree.{opened_agrees, trial_sheet_accepted}

-- the routines of n calls
abbrev pub of_length : ℕ → List (List TrialCall)
of_length n = routines_from (Some empty) n

pub routines_are : routines ≡ flat_map of_length lengths
unfolding routines
routines_are = filter-flat_map (none_refused (opened trial_sheet)) lists_of lengths ∙ each lengths
  where
    each : (ns : List ℕ) → flat_map (λ n. filter (none_refused (opened trial_sheet)) (lists_of n)) ns ≡ flat_map of_length ns
    each [] = refl
    each (n ∷ ns) = rw (opened_agrees trial_sheet trial_sheet_accepted refl n, each ns) refl

-- as the loop of `routine_at` goes, from the i-th length on

pub few_calls : (i : ℕ) → get_or lengths i 0 ≤ 5
few_calls i = leb-true (get_or lengths i 0) 5 (all_get_or (λ n. leb n 5 ≡ true) lengths i 0 refl (AllPass-from_list_all (λ n. leb n 5) lengths refl))

abbrev pub among : ℕ → ℕ → Option (List TrialCall)
among i p = slice_get (flat_map of_length (drop i lengths)) p

pub among_all : (p : ℕ) → among 0 p ≡ routine_at p
unfolding routine_at
among_all p = rw routines_are refl

module _ (p : ℕ) {i m : ℕ} {r : Option (List TrialCall)} (w : among i p ≡ r) (h : i < length lengths) (f : m ≡ length (of_length (get_or lengths i 0))) where
  more : slice_get (of_length (get_or lengths i 0) ++ flat_map of_length (drop (i + 1) lengths)) p ≡ r
  more = rw (drop_more lengths i 0 h) at w

  pub among_here : {cs : List TrialCall} → p < m → cs ≡ get_or (of_length (get_or lengths i 0)) p [] → Some cs ≡ r
  among_here l g =
      let n = get_or lengths i 0 in
      rw g (sym (slice_get-get_or (of_length n) p [] (omega arith)) ∙ sym (slice_get-append_left (of_length n) _ p (omega arith)) ∙ more)

  pub among_later : m ≤ p → among (i + 1) (p - m) ≡ r
  among_later l = rw f (sym (slice_get-append_right (of_length (get_or lengths i 0)) _ p (omega arith)) ∙ more)

pub among_none : (i p : ℕ) (r : Option (List TrialCall)) → among i p ≡ r → length lengths ≤ i → None ≡ r
among_none i p r w h = rw (drop_all i lengths h) at w
