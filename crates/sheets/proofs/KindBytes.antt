-- A kind byte, judged by the limits of its halves: what `setter_in` comes to by them. No other proof goes by this. Assumes nothing.
use Prim.Native.Nat.{ℕ, zero, suc, ◌%◌, ◌/◌, ◌-◌, ◌≤◌, ◌<◌}
use mathlib.Core.Path.{◌≡◌, refl, sym, ◌∙◌}
use mathlib.Core.Bool.{cond}
use mathlib.Core.List.{List}
use mathlib.Core.Logic.{◌⊎◌, inl, inr}
use native.Mathlib.Omega.{arith}
use borrow.Author.Tests.{lt-ltb, le-ltb}
use lib.Dec.{ltb}
use lib.ListN.{length, get_or}
use Rattle.std.specs.Prelude.{Option, Some, None, IsSome, slice_get}
use Rattle.std.specs.Option.{option_and_then}
use Rattle.std.proofs.lemmas.Bool.{cases_lt}
use Rattle.std.proofs.lemmas.Option.{slice_get_past, slice_get-get_or}
use Rattle.filter_core.specs.declared.FrequencyApproximation.{FrequencyApproximation}
use Rattle.filter_core.specs.declared.FrequencyApproximation.TheVariants.{Series}
use Rattle.sheets.specs.Edition.{approximations_in}
use Rattle.sheets.specs.Kind.{setter_for, setter_in}
use Rattle.sheets.specs.declared.edition.Edition.{Edition}
use Rattle.sheets.specs.declared.edition.Edition.TheVariants.{One, Two}
use Rattle.sheets.specs.declared.setter.Setter.{Setter}
use Rattle.sheets.proofs.Editions.{named}

-- up to the approximation l there is what s says, past it there is nothing
abbrev UpTo : ℕ → (ℕ → Option Setter) → (ℕ → Option Setter) → Type 0
UpTo l s of = (p : ℕ) → of p ≡ cond (ltb l p) None (s p)

-- a list of approximations has a last one
of_list : (s : FrequencyApproximation → Option Setter) (ps : List FrequencyApproximation) (l : ℕ) → length ps ≡ suc l
    → UpTo l (λ p. s (get_or ps p Series)) (λ p. option_and_then s (slice_get ps p))
of_list s ps l e p = go (cases_lt l p)
  where
    go : (l < p) ⊎ (p ≤ l) → option_and_then s (slice_get ps p) ≡ cond (ltb l p) None (s (get_or ps p Series))
    go (inl h) = rw (lt-ltb l p h, slice_get_past ps p (omega arith)) refl
    go (inr h) = rw (le-ltb l p h, slice_get-get_or ps p Series (omega arith)) refl

-- l is the last approximation that the kind k takes
abbrev Last : Edition → ℕ → ℕ → Type 0
Last v k l = UpTo l (λ p. setter_for k (get_or (approximations_in v) p Series)) (named v k)

pub only_0 : (v : Edition) (k : ℕ) → ((p : ℕ) → named v k (suc p) ≡ None) → Last v k 0
only_0 One k h zero = refl
only_0 Two k h zero = refl
only_0 v k h (suc p) = rw (lt-ltb 0 (suc p) (omega arith)) (h p)

pub kinds_2_3_5 : (v : Edition) (l : ℕ) → length (approximations_in v) ≡ suc l → (k : ℕ) → 2 ≤ k → (k ≡ 4 → ⊥) → k ≤ 5 → Last v k l
kinds_2_3_5 v l e k x y z = of_list (setter_for k) (approximations_in v) l e

-- both editions number the approximations alike
numbered : (v : Edition) (n : ℕ) → get_or (approximations_in Two) n Series ≡ get_or (approximations_in v) n Series
numbered Two n = refl
numbered One zero = refl
numbered One (suc zero) = refl
numbered One (suc (suc zero)) = refl
numbered One (suc (suc (suc zero))) = refl
numbered One (suc (suc (suc (suc zero)))) = refl
numbered One (suc (suc (suc (suc (suc n))))) = refl

-- ---- the kinds that take approximation 0 alone do take it

-- the kind k takes the approximations up to l
abbrev pub Takes : ℕ → ℕ → Type 0
Takes k l = (p : ℕ) → p ≤ l → IsSome (setter_for k (get_or (approximations_in Two) p Series))

pub takes_1 : (k : ℕ) → 0 < k → k < 2 → Takes k 0
takes_1 k x y p h = let e : k ≡ 1 = omega arith in let z : p ≡ 0 = omega arith in rw (e, z) refl

pub takes_4 : (k : ℕ) → k ≡ 4 → Takes k 0
takes_4 k e p h = let z : p ≡ 0 = omega arith in rw (e, z) refl

pub takes_6_7 : (k : ℕ) → 5 < k → k < 8 → Takes k 0
takes_6_7 k x y p h = go (cases_lt k 7)
  where
    go : (k < 7) ⊎ (7 ≤ k) → IsSome (setter_for k (get_or (approximations_in Two) p Series))
    go (inl l) = let e : k ≡ 6 = omega arith in let z : p ≡ 0 = omega arith in rw (e, z) refl
    go (inr l) = let e : k ≡ 7 = omega arith in let z : p ≡ 0 = omega arith in rw (e, z) refl

-- ---- the byte by its halves

no_kind : (s : FrequencyApproximation → Option Setter) → ((q : FrequencyApproximation) → s q ≡ None) → (o : Option FrequencyApproximation)
    → None ≡ option_and_then s o
no_kind s h None = refl
no_kind s h (Some q) = sym (h q)

module _ (v : Edition) (b : ℕ) where
  abbrev o : Option FrequencyApproximation
  o = slice_get (approximations_in v) (b / 16)

  pub below_kinds : b % 16 < 1 → None ≡ setter_in v b
  below_kinds h = let e : b % 16 ≡ 0 = omega arith in no_kind (setter_for (b % 16)) (λ q. rw e refl) o

  pub above_kinds : 7 < b % 16 → None ≡ setter_in v b
  above_kinds h =
      let e : b % 16 ≡ suc (suc (suc (suc (suc (suc (suc (suc (b % 16 - 8)))))))) = omega arith in
      no_kind (setter_for (b % 16)) (λ q. rw e refl) o

  pub past_last : {l : ℕ} → Last v (b % 16) l → l < b / 16 → None ≡ setter_in v b
  past_last {l} u h = sym (u (b / 16) ∙ rw (lt-ltb l (b / 16) h) refl)

  pub up_to_last : {l : ℕ} {q : FrequencyApproximation} {s : Option Setter} → Last v (b % 16) l → b / 16 ≤ l
      → q ≡ get_or (approximations_in Two) (b / 16) Series → s ≡ setter_for (b % 16) q → s ≡ setter_in v b
  up_to_last {l} u h i j = j ∙ rw (i, numbered v (b / 16)) (sym (u (b / 16) ∙ rw (le-ltb l (b / 16) h) refl))
