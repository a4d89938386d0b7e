-- That every routine has one place, in order: all are looked at once, each with those behind it, and each is found among all lists. Assumes
-- nothing.
use Prim.Native.Nat.{ℕ, zero, suc, ◌≤◌, ◌<◌}
use mathlib.Core.Path.{◌≡◌, refl, ap, sym, subst, ◌∙◌}
use mathlib.Core.Bool.{Bool, true, false, true≢false, ◌&&◌, ◌||◌, and-false}
use mathlib.Core.List.{List, [], ◌∷◌, map}
use mathlib.Core.Logic.{⊎_elim}
use native.Mathlib.Omega.{arith}
use lib.ListN.{length, get_or}
use Rattle.std.specs.Prelude.{None, Some, eqb, ltb, leb, filter, flat_map, Contains}
use Rattle.std.specs.List.{slice_get, list_all}
use Rattle.std.proofs.lemmas.Bool.{or_parts, or_cases, and_parts, eq-eqb, ne_eqb, eqb-true, le-ltb, leb-true, ltb-true, ltb-false}
use Rattle.std.proofs.lemmas.List.Elements.{filter_passes}
use Rattle.std.proofs.lemmas.List.Sums.{AllPass-from_list_all}
use Rattle.std.proofs.lemmas.Option.{none-some, slice_get_past, slice_get_within, slice_get_read, slice_get_cases, get_or_from_slice_get}
use Rattle.trials.specs.Calls.{calls, trial_sheet, opened, none_refused}
use Rattle.trials.specs.Routines.{lists_of, lengths, routines, routine_at}
use Rattle.trials.specs.Counting.{routines_from}
use Rattle.trials.specs.Order.{rank, earlier, smaller, Trial, InOrder}
use Rattle.trials.specs.declared.TrialCall.{TrialCall}
use Rattle.trials.specs.declared.TrialCall.TheVariants.{Load, Mark, Back, Drop, Rest}
use Rattle.trials.proofs.Lists.{contains_filter, contains_map, contains_flat_map, pairs_pass, AllPairs-from_pairs_pass}
use Rattle.trials.proofs.Places.{of_length, routines_are}

-- ---- what a look at all of them shows

abbrev counted : List (List TrialCall)
counted = flat_map of_length lengths

abbrev short : List TrialCall → Bool
short cs = leb (length cs) 5

all_short : list_all short counted ≡ true
unfolding routines_from
all_short = refl

all_ordered : pairs_pass smaller counted ≡ true
unfolding routines_from
all_ordered = refl

-- ---- a place has a routine, or is past their end

-- what holds of all holds of the one at a place
at_place : (P : List TrialCall → Type 0) (l : List (List TrialCall)) (p : ℕ) (cs : List TrialCall) → slice_get l p ≡ Some cs → ((k : ℕ) (d : List TrialCall) → k < length l → P (get_or l k d)) → P cs
at_place P l p cs e h = subst P (get_or_from_slice_get l p cs cs e) (h p cs (slice_get_within l p cs e))

sound : (p : ℕ) (cs : List TrialCall) → routine_at p ≡ Some cs → Trial cs
unfolding routine_at routines
sound p cs e =
    let f = none_refused (opened trial_sheet) in
    record {
      at_most_five = leb-true (length cs) 5 (at_place (λ l. short l ≡ true) counted p cs (rw routines_are at e) (AllPass-from_list_all short counted all_short));
      accepted = at_place (λ l. f l ≡ true) (filter f (flat_map lists_of lengths)) p cs e (filter_passes f (flat_map lists_of lengths));
    }

past_end : (p : ℕ) → slice_get routines p ≡ None → length routines ≤ p
past_end p n = ⊎_elim (λ k. absurd (none-some k.0 (sym n ∙ k.2))) (λ k. k.0) (slice_get_cases routines p).1

-- ---- a routine has a place

has_call : (c : TrialCall) → Contains calls c
has_call Load = (0, omega arith, refl)
has_call Mark = (1, omega arith, refl)
has_call Back = (2, omega arith, refl)
has_call Drop = (3, omega arith, refl)
has_call Rest = (4, omega arith, refl)

has_length : (n : ℕ) → n ≤ 5 → Contains lengths n
has_length zero l = (0, omega arith, refl)
has_length (suc zero) l = (1, omega arith, refl)
has_length (suc (suc zero)) l = (2, omega arith, refl)
has_length (suc (suc (suc zero))) l = (3, omega arith, refl)
has_length (suc (suc (suc (suc zero)))) l = (4, omega arith, refl)
has_length (suc (suc (suc (suc (suc zero))))) l = (5, omega arith, refl)
has_length (suc (suc (suc (suc (suc (suc n)))))) l = absurd (omega arith)

has_list : (cs : List TrialCall) → Contains (lists_of (length cs)) cs
unfolding lists_of
has_list [] = (0, omega arith, refl)
has_list (c ∷ cs) =
    contains_flat_map (λ d. map (λ l. d ∷ l) (lists_of (length cs))) calls c (c ∷ cs) (has_call c)
    (contains_map (λ l. c ∷ l) (lists_of (length cs)) cs (has_list cs))

complete : (cs : List TrialCall) → Trial cs → (p : ℕ) × (routine_at p ≡ Some cs)
unfolding routine_at routines
complete cs t =
    let k = contains_filter (none_refused (opened trial_sheet)) (flat_map lists_of lengths) cs t.accepted (contains_flat_map lists_of lengths (length cs) cs (has_length (length cs) t.at_most_five) (has_list cs)) in
    (k.0, slice_get_read routines (length routines) k.0 cs refl k.1 (sym k.2))

-- ---- the order

ordered : (p q : ℕ) (cs ds : List TrialCall) → routine_at p ≡ Some cs → routine_at q ≡ Some ds → p < q → smaller cs ds ≡ true
unfolding routine_at
ordered p q cs ds e f h =
    let i = rw routines_are at e in
    let j = rw routines_are at f in
    rw (get_or_from_slice_get counted p cs [] i, get_or_from_slice_get counted q ds [] j) at
    (AllPairs-from_pairs_pass smaller counted all_ordered p q [] h (slice_get_within counted q ds j))

-- one of two numbers is the smaller, or they are equal and what comes behind decides
decided : (m n : ℕ) (a b : Bool) → ltb m n || (eqb m n && a) ≡ true → (a ≡ true → b ≡ false) → ltb n m || (eqb n m && b) ≡ false
decided m n a b e h = ⊎_elim less same (or_cases (ltb m n) (eqb m n && a) e)
  where
    less : ltb m n ≡ true → ltb n m || (eqb n m && b) ≡ false
    less l = let k = ltb-true m n l in rw (le-ltb n m (omega arith), ne_eqb n m (omega arith)) refl

    same : eqb m n && a ≡ true → ltb n m || (eqb n m && b) ≡ false
    same s = let k = and_parts (eqb m n) a s in rw (le-ltb n m (omega (arith, eqb-true m n k.0)), h k.1) (and-false (eqb n m))

earlier_one_way : (cs ds : List TrialCall) → earlier cs ds ≡ true → earlier ds cs ≡ false
earlier_one_way [] ds e = absurd (true≢false (sym e))
earlier_one_way (c ∷ cs) [] e = refl
earlier_one_way (c ∷ cs) (d ∷ ds) e = decided (rank c) (rank d) (earlier cs ds) (earlier ds cs) e (earlier_one_way cs ds)

one_way : (cs ds : List TrialCall) → smaller cs ds ≡ true → smaller ds cs ≡ false
one_way cs ds e = decided (length cs) (length ds) (earlier cs ds) (earlier ds cs) e (earlier_one_way cs ds)

with_rank : (c : TrialCall) → get_or calls (rank c) Load ≡ c
with_rank Load = refl
with_rank Mark = refl
with_rank Back = refl
with_rank Drop = refl
with_rank Rest = refl

same_rank : (c d : TrialCall) → rank c ≡ rank d → c ≡ d
same_rank c d e = sym (with_rank c) ∙ ap (λ (n : ℕ). get_or calls n Load) e ∙ with_rank d

-- neither of two numbers is the smaller, so they are equal, and what comes behind decides
neither : (m n : ℕ) (a b : Bool) → ltb m n || (eqb m n && a) ≡ false → ltb n m || (eqb n m && b) ≡ false → (m ≡ n) × (a ≡ false) × (b ≡ false)
neither m n a b e f =
    let x = or_parts (ltb m n) (eqb m n && a) e in
    let y = or_parts (ltb n m) (eqb n m && b) f in
    let s : m ≡ n = omega (arith, ltb-false m n x.0, ltb-false n m y.0) in
    (s, rw (eq-eqb m n s) at x.1, rw (eq-eqb n m (sym s)) at y.1)

neither_earlier : (cs ds : List TrialCall) → length cs ≡ length ds → earlier cs ds ≡ false → earlier ds cs ≡ false → cs ≡ ds
neither_earlier [] [] l e f = refl
neither_earlier [] (d ∷ ds) l e f = absurd (omega arith)
neither_earlier (c ∷ cs) [] l e f = absurd (omega arith)
neither_earlier (c ∷ cs) (d ∷ ds) l e f =
    let k = neither (rank c) (rank d) (earlier cs ds) (earlier ds cs) e f in
    (λ t. same_rank c d k.0 t ∷ neither_earlier cs ds (omega arith) k.1 k.2 t)

total : (cs ds : List TrialCall) → smaller cs ds ≡ false → smaller ds cs ≡ false → cs ≡ ds
total cs ds e f = let k = neither (length cs) (length ds) (earlier cs ds) (earlier ds cs) e f in neither_earlier cs ds k.0 k.1 k.2

-- whichever of two places is the lower, its list would be smaller than itself
once : (p q : ℕ) (cs : List TrialCall) → routine_at p ≡ Some cs → routine_at q ≡ Some cs → p ≡ q
once p q cs e f = go (ltb p q) (ltb q p) refl refl
  where
    never : (i j : ℕ) → routine_at i ≡ Some cs → routine_at j ≡ Some cs → i < j → ⊥
    never i j g h l = let s = ordered i j cs cs g h l in true≢false (sym s ∙ one_way cs cs s)

    go : (a b : Bool) → ltb p q ≡ a → ltb q p ≡ b → p ≡ q
    go true b g h = absurd (never p q e f (ltb-true p q g))
    go false true g h = absurd (never q p f e (ltb-true q p h))
    go false false g h = omega (arith, ltb-false p q g, ltb-false q p h)

pub in_order : InOrder
unfolding routine_at
in_order =
    record {
      sound = sound;
      complete = complete;
      once = once;
      ordered = ordered;
      one_way = one_way;
      total = total;
      past_end = λ p. (past_end p, slice_get_past routines p);
    }
