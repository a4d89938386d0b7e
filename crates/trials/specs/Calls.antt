-- The calls of a trial routine (02 l). The frame's histories say whether one of them is refused; no rule of refusal stands here.
use Rattle.std.specs.Prelude.{ℕ, Bool, true, ◌&&◌, eqb, List, [], ◌∷◌, replicate}
use Rattle.heads.specs.Act.{mark, back, drop, rest}
use Rattle.frame.specs.Call.{Call, opening, loading, at}
use Rattle.frame.specs.History.{Histories, no_histories, call_number, advance}
use Rattle.trials.specs.declared.TrialCall.{TrialCall}
use Rattle.trials.specs.declared.TrialCall.TheVariants.{Load, Mark, Back, Drop, Rest}

-- in 02's order, by which lists are compared
abbrev pub calls : List TrialCall
calls = Load ∷ Mark ∷ Back ∷ Drop ∷ Rest ∷ []

abbrev pub frame_call : TrialCall → Call
frame_call Load = loading 0 0
frame_call Mark = at 0 mark
frame_call Back = at 0 (back 0)
frame_call Drop = at 0 (drop 0)
frame_call Rest = at 0 rest

-- a DC blocker alone; 3f000000 is its pole, 0.5
abbrev pub trial_sheet : List ℕ
trial_sheet = 0x01 ∷ 0x00 ∷ 0x01 ∷ 0x00 ∷ 0x00 ∷ 0x00 ∷ 0x3f ∷ replicate 8 0

-- a fresh frame that has opened the sheet s
unfoldable pub opened : List ℕ → Histories
opened s = advance no_histories (opening s)

-- from the histories H on
unfoldable pub none_refused : Histories → List TrialCall → Bool
none_refused H [] = true
none_refused H (c ∷ cs) = eqb (call_number H (frame_call c)) 0 && none_refused (advance H (frame_call c)) cs
