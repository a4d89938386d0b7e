-- The trial routines at their places (02 l): all lists of up to five calls, less those with a refused call. The code makes only the one
-- that is asked for.
use Rattle.std.specs.Prelude.{ℕ, zero, suc, List, [], ◌∷◌, map, filter, flat_map, Option}
use Rattle.std.specs.List.{slice_get}
use Rattle.trials.specs.Calls.{calls, trial_sheet, opened, none_refused}
use Rattle.trials.specs.declared.TrialCall.{TrialCall}

-- of n calls: the lists that begin with a load, then those with a mark, and so on
unfoldable pub lists_of : ℕ → List (List TrialCall)
lists_of zero = [] ∷ []
lists_of (suc n) = flat_map (λ c. map (λ cs. c ∷ cs) (lists_of n)) calls

-- how many calls they have, in the order of their places
abbrev pub lengths : List ℕ
lengths = 0 ∷ 1 ∷ 2 ∷ 3 ∷ 4 ∷ 5 ∷ []

unfoldable pub routines : List (List TrialCall)
routines = filter (none_refused (opened trial_sheet)) (flat_map lists_of lengths)

-- None past the end
unfoldable pub routine_at : ℕ → Option (List TrialCall)
routine_at p = slice_get routines p
