-- By what the code goes: a head's state, and how many lists are accepted from there.
use Rattle.std.specs.Prelude.{ℕ, zero, suc, ◌+◌, ◌-◌, Bool, true, false, ◌&&◌, not, cond, ltb, List, [], ◌∷◌, map, length, flat_map, Option, None, Some, option_map}
use Rattle.trials.specs.Calls.{calls}
use Rattle.trials.specs.declared.TrialCall.{TrialCall}
use Rattle.trials.specs.declared.TrialCall.TheVariants.{Load, Mark, Back, Drop, Rest}
use Rattle.trials.specs.declared.State.{State}
use Rattle.trials.specs.declared.Step.{Step}

-- whether the head has a filter, and how many marks stand
abbrev pub state : Bool → ℕ → State
state b m = record { loaded = b; marks = m }

-- a fresh frame's
abbrev pub empty : State
empty = state false 0

-- None for a refused call
abbrev pub after : State → TrialCall → Option State
after s Load = Some (state true s.marks)
after s Mark = cond (s.loaded && not (ltb 3 s.marks)) (Some (state true (s.marks + 1))) None
after s Back = cond (ltb 0 s.marks) (Some (state true 1)) None
after s Drop = cond (ltb 0 s.marks) (Some (state s.loaded 0)) None
after s Rest = cond s.loaded (Some s) None

-- lists that begin with one of cs, and go on as f says
abbrev pub begun : (TrialCall → List (List TrialCall)) → List TrialCall → List (List TrialCall)
begun f cs = flat_map (λ c. map (λ l. c ∷ l) (f c)) cs

-- the lists of n calls that are accepted from a state on
unfoldable pub routines_from : Option State → ℕ → List (List TrialCall)
routines_from None n = []
routines_from (Some s) zero = [] ∷ []
routines_from (Some s) (suc n) = begun (λ c. routines_from (after s c) n) calls

-- which step the place p takes: the first call is one of cs, and n more follow; None where p is past them
unfoldable pub step_among : State → ℕ → List TrialCall → ℕ → Option Step
step_among s n [] p = None
step_among s n (c ∷ cs) p =
    let m = length (routines_from (after s c) n) in
    cond (ltb p m) (option_map (λ t. record { call = c; next = t; place = p }) (after s c)) (step_among s n cs (p - m))
