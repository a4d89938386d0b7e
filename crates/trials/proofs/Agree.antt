-- A state says of head 0's history what the numbers of these calls go by, and keeps saying it from call to call. Assumes nothing.
use Prim.Native.Nat.{ℕ, zero, suc, ◌+◌}
use mathlib.Core.Path.{◌≡◌, refl, sym, subst, ◌∙◌}
use mathlib.Core.Bool.{Bool, true, false, cond}
use mathlib.Core.List.{List, [], ◌∷◌, ◌++◌, map}
use native.Mathlib.Omega.{arith}
use lib.ListN.{length, length-append}
use lib.Dec.{leb-suc-zero}
use Rattle.std.proofs.lemmas.Bool.{lt-ltb}
use Rattle.std.specs.Prelude.{Option, None, Some, filter, flat_map, eqb, ltb, not}
use lib.Ieee.{of_bits, is_nan, lt, le, neg}
use Rattle.sheets.specs.Refusal.{first_refusal, entry_refusal}
use Rattle.sheets.specs.Sheet.{entries_of, entry_in, check_of}
use Rattle.heads.specs.Act.{mark, back, drop, rest}
use Rattle.heads.specs.History.{Event, load_event, HeadHistory, no_history, act_number, adding, grown_by}
use Rattle.frame.specs.History.{Histories, no_histories, load_number, call_number, grown, advance}
use Rattle.trials.specs.Calls.{calls, frame_call, trial_sheet, opened, none_refused}
use Rattle.trials.specs.Routines.{lists_of}
use Rattle.trials.specs.Counting.{state, empty, after, begun, routines_from}
use Rattle.trials.specs.declared.TrialCall.{TrialCall}
use Rattle.trials.specs.declared.TrialCall.TheVariants.{Load, Mark, Back, Drop, Rest}
use Rattle.trials.specs.declared.State.{State}
use Rattle.trials.proofs.Counts.{behind}
use Rattle.trials.proofs.Lists.{filter_none, filter-map, filter-flat_map}

-- ---- the histories that a state stands for

-- no event; some
abbrev pub has_filter : List Event → Bool
has_filter [] = false
has_filter (e ∷ es) = true

-- the first mark, if there is one, has an event to go back to
pub data Standing : List (List Event) → Type 0 where
  none : Standing []
  some : {e : Event} {es : List Event} {ks : List (List Event)} → Standing ((e ∷ es) ∷ ks)

-- what a state says of a head's history
pub record Says (s : State) (x : HeadHistory) : Type 0 where
  pub loaded : s.loaded ≡ has_filter x.history
  pub marks : s.marks ≡ length x.checkpoints
  pub standing : Standing x.checkpoints

-- of a fresh head's
says_empty : Says empty no_history
says_empty = record { loaded = refl; marks = refl; standing = none }

-- what becomes of a call with the number n: it is refused, or accepted, and the state behind it says the same of the head's history y then
data Became (n : ℕ) (y : HeadHistory) : Option State → Type 0 where
  refused : eqb n 0 ≡ false → Became n y None
  went_on : {t : State} → eqb n 0 ≡ true → Says t y → Became n y (Some t)

abbrev head : List Event → List (List Event) → HeadHistory
head l ks = record { history = l; checkpoints = ks }

module _ (s : State) (l : List Event) (b : s.loaded ≡ has_filter l) where
  load_of : {ks : List (List Event)} → s.marks ≡ length ks → (e : Event) → Standing ks → Says (state true s.marks) (adding (head l ks) e)
  load_of m e S = record { loaded = some_event l; marks = m; standing = S }
    where
      some_event : (l : List Event) → true ≡ has_filter (l ++ e ∷ [])
      some_event [] = refl
      some_event (f ∷ fs) = refl

  back_of : {ks : List (List Event)} → s.marks ≡ length ks → Standing ks → Became (act_number (head l ks) (back 0)) (grown_by (head l ks) (back 0)) (after s Back)
  back_of m none = rw m (refused refl)
  back_of m (some {ks = ks}) = rw (m, leb-suc-zero (length ks), lt-ltb 0 (suc (length ks)) (omega arith)) (went_on refl (record { loaded = refl; marks = refl; standing = some }))

  drop_of : {ks : List (List Event)} → s.marks ≡ length ks → Standing ks → Became (act_number (head l ks) (drop 0)) (grown_by (head l ks) (drop 0)) (after s Drop)
  drop_of m none = rw m (refused refl)
  drop_of m (some {ks = ks}) = rw (m, leb-suc-zero (length ks), lt-ltb 0 (suc (length ks)) (omega arith)) (went_on refl (record { loaded = b; marks = refl; standing = none }))

module _ (s : State) {ks : List (List Event)} (m : s.marks ≡ length ks) (S : Standing ks) where
  mark_of : (l : List Event) → s.loaded ≡ has_filter l → Became (act_number (head l ks) mark) (grown_by (head l ks) mark) (after s Mark)
  mark_of [] b = rw b (refused refl)
  mark_of (e ∷ es) b = rw (b, m) (go (ltb 3 (length ks)))
    where
      one_more : {ks : List (List Event)} → Standing ks → Standing (ks ++ (e ∷ es) ∷ [])
      one_more none = some
      one_more some = some

      go : (full : Bool) → Became (cond full 8 0) (head (e ∷ es) (ks ++ (e ∷ es) ∷ [])) (cond (not full) (Some (state true (length ks + 1))) None)
      go true = refused refl
      go false = went_on refl (record { loaded = refl; marks = omega (arith, length-append ks ((e ∷ es) ∷ [])); standing = one_more S })

  rest_of : (l : List Event) → s.loaded ≡ has_filter l → Became (act_number (head l ks) rest) (grown_by (head l ks) rest) (after s Rest)
  rest_of [] b = rw b (refused refl)
  rest_of (e ∷ es) b =
      subst (λ (x : Bool). Became 0 (grown_by (head (e ∷ es) ks) rest) (cond x (Some s) None)) (sym b)
      (went_on refl (record { loaded = b; marks = m; standing = S }))

-- there is an entry 0
load_accepted : (s : List ℕ) → entries_of s ≡ 1 → load_number s 0 ≡ 0
load_accepted s o = rw o refl

became : (s : State) (H : Histories) (c : TrialCall) → entries_of H.sheet ≡ 1 → Says s (H.heads 0) → Became (call_number H (frame_call c)) ((grown H (frame_call c)).heads 0) (after s c)
unfolding call_number
became s H Load o S =
    let x = H.heads 0 in
    let e = load_event (entry_in H.sheet 0) in
    subst (λ (n : ℕ). Became n (adding x e) (Some (state true s.marks))) (sym (load_accepted H.sheet o)) (went_on refl (load_of s x.history S.loaded S.marks e S.standing))
became s H Mark o S = mark_of s S.marks S.standing (H.heads 0).history S.loaded
became s H Back o S = back_of s (H.heads 0).history S.loaded S.marks S.standing
became s H Drop o S = drop_of s (H.heads 0).history S.loaded S.marks S.standing
became s H Rest o S = rest_of s S.marks S.standing (H.heads 0).history S.loaded

-- no call opens another sheet
same_sheet : (H : Histories) (c : TrialCall) → (grown H (frame_call c)).sheet ≡ H.sheet
same_sheet H Load = refl
same_sheet H Mark = refl
same_sheet H Back = refl
same_sheet H Drop = refl
same_sheet H Rest = refl

-- ---- then the lists are the same

module _ (n : ℕ) where
  -- what is to be shown of n calls
  abbrev pub Same : Type 0
  Same = (s : State) (H : Histories) → entries_of H.sheet ≡ 1 → Says s (H.heads 0) → filter (none_refused H) (lists_of n) ≡ routines_from (Some s) n

  behind_call :
      (H : Histories) (c : TrialCall) (o : Option State)
      → entries_of H.sheet ≡ 1
      → Became (call_number H (frame_call c)) ((grown H (frame_call c)).heads 0) o
      → Same
      → filter (none_refused H) (map (λ l. c ∷ l) (lists_of n)) ≡ map (λ l. c ∷ l) (routines_from o n)
  unfolding none_refused routines_from advance
  behind_call H c None f (refused e) h = filter-map (none_refused H) (λ l. c ∷ l) (lists_of n) ∙ rw (e, filter_none (lists_of n)) refl
  behind_call H c (Some t) f (went_on e S) h = filter-map (none_refused H) (λ l. c ∷ l) (lists_of n) ∙ rw (e, h t (grown H (frame_call c)) (rw (same_sheet H c) f) S) refl

pub agree : (n : ℕ) → Same n
unfolding lists_of routines_from none_refused
agree zero s H o S = refl
agree (suc n) s H o S = filter-flat_map (none_refused H) (λ c. map (λ l. c ∷ l) (lists_of n)) calls ∙ all (agree n) calls
  where
    all : Same n → (cs : List TrialCall) → flat_map (λ c. filter (none_refused H) (map (λ l. c ∷ l) (lists_of n))) cs ≡ begun (behind s n) cs
    all h [] = refl
    all h (c ∷ cs) = rw (behind_call n H c (after s c) o (became s H c o S) h, all h cs) refl

-- ---- and no call is refused from one of two histories alone, where a state says the same of both

alone :
    (c : TrialCall) (cs : List TrialCall) (H G : Histories) (o : Option State)
    → Became (call_number H (frame_call c)) ((grown H (frame_call c)).heads 0) o
    → Became (call_number G (frame_call c)) ((grown G (frame_call c)).heads 0) o
    → ((t : State) → Says t ((grown H (frame_call c)).heads 0) → Says t ((grown G (frame_call c)).heads 0) → none_refused (grown H (frame_call c)) cs ≡ none_refused (grown G (frame_call c)) cs)
    → none_refused H (c ∷ cs) ≡ none_refused G (c ∷ cs)
unfolding none_refused advance
alone c cs H G None (refused e) (refused f) h = rw (e, f) refl
alone c cs H G (Some t) (went_on e S) (went_on f T) h = rw (e, f) (h t S T)

none_refused_alone :
    (cs : List TrialCall) (s : State) (H G : Histories)
    → entries_of H.sheet ≡ 1
    → entries_of G.sheet ≡ 1
    → Says s (H.heads 0)
    → Says s (G.heads 0)
    → none_refused H cs ≡ none_refused G cs
unfolding none_refused advance
none_refused_alone [] s H G o u S T = refl
none_refused_alone (c ∷ cs) s H G o u S T =
    alone c cs H G (after s c) (became s H c o S) (became s G c u T)
    (λ t. none_refused_alone cs t (grown H (frame_call c)) (grown G (frame_call c)) (rw (same_sheet H c) o) (rw (same_sheet G c) u))

-- ---- from the opening of a sheet on

module _ (s : List ℕ) (z : check_of s ≡ 0) (o : entries_of s ≡ 1) where
  opened_is : opened s ≡ record no_histories { sheet = s }
  unfolding opened advance call_number
  opened_is = rw z refl

  pub opened_agrees : (n : ℕ) → filter (none_refused (opened s)) (lists_of n) ≡ routines_from (Some empty) n
  opened_agrees n = rw opened_is (agree n empty (record no_histories { sheet = s }) o says_empty)

pub trial_sheet_accepted : check_of trial_sheet ≡ 0
unfolding first_refusal entry_refusal of_bits is_nan lt le neg
trial_sheet_accepted = refl

pub any_sheet : (s : List ℕ) → check_of s ≡ 0 → entries_of s ≡ 1 → (cs : List TrialCall) → none_refused (opened s) cs ≡ none_refused (opened trial_sheet) cs
any_sheet s z o cs =
    rw (opened_is s z o, opened_is trial_sheet trial_sheet_accepted refl)
    (none_refused_alone cs empty (record no_histories { sheet = s }) (record no_histories { sheet = trial_sheet }) o refl says_empty says_empty)
