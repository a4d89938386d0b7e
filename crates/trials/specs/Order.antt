-- What 02 l says of all places and all lists.
use Rattle.std.specs.Prelude.{ℕ, ◌<◌, ◌≤◌, ◌≡◌, ◌↔◌, Bool, true, false, ◌&&◌, ◌||◌, eqb, ltb, List, [], ◌∷◌, map, filter, length, None, Some}
use Rattle.sheets.specs.Kind.{setter_of}
use Rattle.sheets.specs.Sheet.{entries_of, kind_at, check_of}
use Rattle.sheets.specs.declared.setter.Setter.TheVariants.{DcBlocker}
use Rattle.frame.specs.Call.{Reply, number_in, opening}
use Rattle.frame.specs.Calls.{fresh_frame}
use Rattle.frame.specs.Demand.{replies_from}
use Rattle.trials.specs.Calls.{frame_call, trial_sheet, opened, none_refused}
use Rattle.trials.specs.Routines.{lists_of, routines, routine_at}
use Rattle.trials.specs.Counting.{empty, routines_from}
use Rattle.trials.specs.declared.TrialCall.{TrialCall}
use Rattle.trials.specs.declared.TrialCall.TheVariants.{Load, Mark, Back, Drop, Rest}

-- ---- the order of lists

abbrev pub rank : TrialCall → ℕ
rank Load = 0
rank Mark = 1
rank Back = 2
rank Drop = 3
rank Rest = 4

-- of lists with as many calls: the rank decides where they first differ
abbrev pub earlier : List TrialCall → List TrialCall → Bool
earlier [] ds = false
earlier (c ∷ cs) [] = false
earlier (c ∷ cs) (d ∷ ds) = ltb (rank c) (rank d) || (eqb (rank c) (rank d) && earlier cs ds)

-- the one with fewer calls; of as many, the earlier one
abbrev pub smaller : List TrialCall → List TrialCall → Bool
smaller cs ds = ltb (length cs) (length ds) || (eqb (length cs) (length ds) && earlier cs ds)

-- ---- the theorems

-- the lists that are to stand somewhere
pub record Trial (cs : List TrialCall) : Type 0 where
  pub at_most_five : length cs ≤ 5
  pub accepted : none_refused (opened trial_sheet) cs ≡ true

pub record InOrder : Type 0 where
  -- nothing else stands anywhere
  pub sound : (p : ℕ) (cs : List TrialCall) → routine_at p ≡ Some cs → Trial cs
  -- each of them does, once
  pub complete : (cs : List TrialCall) → Trial cs → (p : ℕ) × (routine_at p ≡ Some cs)
  pub once : (p q : ℕ) (cs : List TrialCall) → routine_at p ≡ Some cs → routine_at q ≡ Some cs → p ≡ q
  pub ordered : (p q : ℕ) (cs ds : List TrialCall) → routine_at p ≡ Some cs → routine_at q ≡ Some ds → p < q → smaller cs ds ≡ true
  -- of two lists one is the smaller and not the other too, unless they are the same: so no other arrangement is in order
  pub one_way : (cs ds : List TrialCall) → smaller cs ds ≡ true → smaller ds cs ≡ false
  pub total : (cs ds : List TrialCall) → smaller cs ds ≡ false → smaller ds cs ≡ false → cs ≡ ds
  -- where they end
  pub past_end : (p : ℕ) → (routine_at p ≡ None) ↔ (length routines ≤ p)

abbrev pub all_accepted : List Reply → Bool
all_accepted [] = true
all_accepted (r ∷ rs) = eqb (number_in r) 0 && all_accepted rs

pub record OnTrialFrame : Type 0 where
  -- the states of the code accept the lists that the histories accept
  pub counted : (n : ℕ) → routines_from (Some empty) n ≡ filter (none_refused (opened trial_sheet)) (lists_of n)
  -- and these are the lists that the frame takes, whichever sheet it has opened
  pub accepted :
      (s : List ℕ) → check_of s ≡ 0
      → (cs : List TrialCall)
      → none_refused (opened s) cs ≡ all_accepted (replies_from fresh_frame (opening s ∷ map frame_call cs))
  -- opening the trial sheet is accepted; its only entry is a DC blocker
  pub sheet : check_of trial_sheet ≡ 0
  pub one_entry : entries_of trial_sheet ≡ 1
  pub dc_entry : setter_of (kind_at trial_sheet 0) ≡ Some DcBlocker
  -- another single entry makes no difference
  pub any_sheet : (s : List ℕ) → check_of s ≡ 0 → entries_of s ≡ 1 → (cs : List TrialCall) → none_refused (opened s) cs ≡ none_refused (opened trial_sheet) cs
