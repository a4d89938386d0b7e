-- The frame refuses as the histories do: demand 3, of these calls. Assumes nothing.
use Prim.Native.Nat.{ℕ}
use mathlib.Core.Path.{◌≡◌, refl, sym}
use mathlib.Core.Bool.{Bool, true, false, cond}
use mathlib.Core.List.{List, [], ◌∷◌, map}
use Rattle.std.specs.Prelude.{eqb}
use Rattle.sheets.specs.Sheet.{check_of}
use Rattle.frame.specs.Call.{opening, number_in, refused}
use Rattle.frame.specs.Calls.{fresh_frame}
use Rattle.frame.specs.Demand.{replies_from, Demand3}
use Rattle.frame.specs.History.{Histories, call_number, advance, accepted, reply_to, replies_to}
use Rattle.frame.proofs.Upholds.{demand3}
use Rattle.trials.specs.Calls.{frame_call, trial_sheet, opened, none_refused}
use Rattle.trials.specs.Order.{all_accepted, OnTrialFrame}
use Rattle.trials.specs.declared.TrialCall.{TrialCall}
use Rattle.trials.specs.declared.TrialCall.TheVariants.{Load, Mark, Back, Drop, Rest}
use Rattle.trials.proofs.Agree.{opened_agrees, trial_sheet_accepted, any_sheet}

accepted_number : (H : Histories) (c : TrialCall) → number_in (accepted H (frame_call c)) ≡ 0
accepted_number H Load = refl
accepted_number H Mark = refl
accepted_number H Back = refl
accepted_number H Drop = refl
accepted_number H Rest = refl

refused_number : (n : ℕ) (c : TrialCall) → number_in (refused n (frame_call c)) ≡ n
refused_number n Load = refl
refused_number n Mark = refl
refused_number n Back = refl
refused_number n Drop = refl
refused_number n Rest = refl

reply_number : (H : Histories) (c : TrialCall) → eqb (number_in (reply_to H (frame_call c))) 0 ≡ eqb (call_number H (frame_call c)) 0
unfolding reply_to
reply_number H c = go (eqb (call_number H (frame_call c)) 0) refl
  where
    go : (b : Bool) → eqb (call_number H (frame_call c)) 0 ≡ b → eqb (number_in (cond b (accepted H (frame_call c)) (refused (call_number H (frame_call c)) (frame_call c)))) 0 ≡ b
    go true e = rw (accepted_number H c) refl
    go false e = rw (refused_number (call_number H (frame_call c)) c) e

by_replies : (H : Histories) (cs : List TrialCall) → none_refused H cs ≡ all_accepted (replies_to H (map frame_call cs))
unfolding none_refused replies_to
by_replies H [] = refl
by_replies H (c ∷ cs) = rw (reply_number H c, by_replies (advance H (frame_call c)) cs) refl

on_frame : (s : List ℕ) → check_of s ≡ 0 → (cs : List TrialCall) → none_refused (opened s) cs ≡ all_accepted (replies_from fresh_frame (opening s ∷ map frame_call cs))
unfolding Demand3 replies_to reply_to call_number opened
on_frame s z cs = rw (demand3 (opening s ∷ map frame_call cs)).replies (rw z (by_replies (opened s) cs))

pub on_trial_frame : OnTrialFrame
on_trial_frame =
    record {
      counted = λ n. sym (opened_agrees trial_sheet trial_sheet_accepted refl n);
      accepted = on_frame;
      sheet = trial_sheet_accepted;
      one_entry = refl;
      dc_entry = refl;
      any_sheet = any_sheet;
    }
