-- How many lists go on from a state, counted call by call. Assumes nothing.
use Prim.Native.Nat.{◌*◌, ℕ, zero, suc, ◌+◌, ◌-◌, ◌≤◌, ◌<◌}
use mathlib.Core.Path.{◌≡◌, refl, ap, sym}
use mathlib.Core.List.{List, [], ◌∷◌, map}
use native.Mathlib.Omega.{arith}
use lib.ListN.{length, get_or, drop, length-append, length-map}
use Rattle.std.specs.Prelude.{Option, None, Some, ◌^◌}
use Rattle.std.proofs.lemmas.List.{drop_more}
use Rattle.trials.specs.Calls.{calls}
use Rattle.trials.specs.Counting.{after, begun, routines_from}
use Rattle.trials.specs.declared.TrialCall.{TrialCall}
use Rattle.trials.specs.declared.State.{State}

-- the lists of n calls that go on behind a call
abbrev pub behind : State → ℕ → TrialCall → List (List TrialCall)
behind s n c = routines_from (after s c) n

-- how many lists of n + 1 calls begin with the i-th call or a later one
abbrev pub left_from : State → ℕ → ℕ → ℕ
left_from s n i = length (begun (behind s n) (drop i calls))

-- as the code finds it
pub left_more : (s : State) (n i : ℕ) (d : TrialCall) (o : Option State) → i < 5 → o ≡ after s (get_or calls i d) → left_from s n i ≡ length (routines_from o n) + left_from s n (i + 1)
left_more s n i d o h e =
    let c = get_or calls i d in
    rw (e, drop_more calls i d h, length-append (map (λ l. c ∷ l) (routines_from (after s c) n)), length-map (routines_from (after s c) n))

-- at most m lists behind each call are at most m for each
begun_most : (s : State) (n m : ℕ) → ((o : Option State) → length (routines_from o n) ≤ m) → (cs : List TrialCall) → length (begun (behind s n) cs) ≤ length cs * m
begun_most s n m h [] = omega arith
begun_most s n m h (c ∷ cs) =
    omega (
      arith,
      length-append (map (λ l. c ∷ l) (behind s n c)) (begun (behind s n) cs),
      length-map (behind s n c) (λ l. c ∷ l),
      h (after s c),
      begun_most s n m h cs,
    )

most : (n : ℕ) (o : Option State) → length (routines_from o n) ≤ 5 ^ n
unfolding routines_from
most n None = omega arith
most zero (Some s) = omega arith
most (suc n) (Some s) = omega (arith, begun_most s n (5 ^ n) (most n) calls)

small : (n : ℕ) → n ≤ 5 → 5 ^ n ≤ 3125
small zero l = omega arith
small (suc zero) l = omega arith
small (suc (suc zero)) l = omega arith
small (suc (suc (suc zero))) l = omega arith
small (suc (suc (suc (suc zero)))) l = omega arith
small (suc (suc (suc (suc (suc zero))))) l = omega arith
small (suc (suc (suc (suc (suc (suc n)))))) l = absurd (omega arith)

pub few : (o : Option State) (n : ℕ) → n ≤ 5 → length (routines_from o n) ≤ 3125
few o n l = omega (arith, most n o, small n l)

-- ---- as `count` finds it

pub none_behind : (o : Option State) (n : ℕ) → o ≡ None → 0 ≡ length (routines_from o n)
unfolding routines_from
none_behind o n e = rw e

module _ (o : Option State) (n : ℕ) (s : State) (e : o ≡ Some s) where
  pub one_empty : n ≡ 0 → 1 ≡ length (routines_from o n)
  unfolding routines_from
  one_empty z = rw (e, z)

pub routines_more : (s : State) (n : ℕ) → 0 < n → routines_from (Some s) n ≡ begun (behind s (n - 1)) calls
unfolding routines_from
routines_more s zero h = absurd (omega arith)
routines_more s (suc n) h = let e : suc n - 1 ≡ n = omega arith in rw e refl

pub all_left : (s : State) (n : ℕ) → 0 < n → left_from s (n - 1) 0 ≡ length (routines_from (Some s) n)
all_left s n h = ap length (sym (routines_more s n h))
