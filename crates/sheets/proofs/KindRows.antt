-- What the check takes from a kind's setter is what the table says of the kind. Assumes nothing.
use Prim.Native.Nat.{ℕ, zero, suc, ◌≤◌, ◌<◌}
use mathlib.Core.Path.{◌≡◌, refl}
use mathlib.Core.Bool.{Bool, true, false, cond}
use mathlib.Core.Logic.{◌⊎◌, inl, inr, ⊎_elim}
use native.Mathlib.Omega.{arith}
use borrow.Author.Tests.{eqb-true, eqb-false}
use lib.Dec.{eqb}
use Rattle.std.specs.Prelude.{Option, Some, None, slice_get}
use Rattle.std.specs.Option.{option_and_then}
use Rattle.filter_core.specs.Arithmetic.{word}
use Rattle.filter_core.specs.Refusal.{frequency_refusal}
use Rattle.filter_core.specs.declared.FrequencyApproximation.{FrequencyApproximation}
use Rattle.filter_core.specs.declared.FrequencyApproximation.TheVariants.{Exact, Accurate, Fast, Dirty, Series}
use Rattle.filter_core.proofs.Rows.{Step, no, step_to, exact_step}
use Rattle.sheets.specs.Edition.{edition_of, approximations_in}
use Rattle.sheets.specs.Kind.{exact, setter_for}
use Rattle.sheets.specs.Refusal.{used, setting_refusal}
use Rattle.sheets.specs.Rows.{KindWrong, no_kind, past_kinds, past_approximations, past_edition_1, not_exact, words_used, FrequencyWrong}
use Rattle.sheets.specs.declared.edition.Edition.{Edition}
use Rattle.sheets.specs.declared.edition.Edition.TheVariants.{One, Two}
use Rattle.sheets.specs.declared.setter.Setter.{Setter}
use Rattle.sheets.specs.declared.setter.Setter.TheVariants.{DcBlocker, OnePole, SvfFrequency, SvfCoefficients, NaiveSvf, ModifiedSvf, CrossoverSvf}
use Rattle.sheets.proofs.Setters.{by_setter}

-- a kind k with the approximation p is wrong, and names no setter; or right, and its setter goes by the table
pub data Kind (b k p : ℕ) : Option Setter → Type 0 where
  wrong : KindWrong b k p → Kind b k p None
  right : {s : Setter} → (KindWrong b k p → ⊥) → used s ≡ words_used k → ((a : ℕ) → Step (FrequencyWrong k p a) 11 (setting_refusal s a)) → Kind b k p (Some s)

-- b is the byte of an edition
abbrev Is : Edition → ℕ → Type 0
Is One b = b ≡ 2 → ⊥
Is Two b = b ≡ 2

is_edition : (b : ℕ) → Is (edition_of b) b
is_edition b = go (eqb b 2) refl
  where
    go : (t : Bool) → eqb b 2 ≡ t → Is (cond t Two One) b
    go true q = eqb-true b 2 q
    go false q = eqb-false b 2 q

abbrev TakesF : ℕ → Type 0
TakesF k = (k ≡ 2) ⊎ ((k ≡ 3) ⊎ (k ≡ 5))

-- an approximation that every sheet has, or that a sheet with the byte 2 has
abbrev Has : ℕ → ℕ → Type 0
Has b p = (p ≤ 3) ⊎ ((b ≡ 2) × (p ≤ 4))

not_wrong : (b k p : ℕ) → 1 ≤ k → k ≤ 7 → Has b p → TakesF k ⊎ (p ≡ 0) → KindWrong b k p → ⊥
not_wrong b k p x y h d (no_kind e) = omega arith
not_wrong b k p x y h d (past_kinds l) = omega arith
not_wrong b k p x y (inl h) d (past_approximations l) = omega arith
not_wrong b k p x y (inr h) d (past_approximations l) = let m = h.1 in omega arith
not_wrong b k p x y (inl h) d (past_edition_1 n l) = omega arith
not_wrong b k p x y (inr h) d (past_edition_1 n l) = n h.0
not_wrong b k p x y h d (not_exact u v w l) = ⊎_elim (λ o. ⊎_elim u (λ q. ⊎_elim v w q) o) (λ e. omega arith) d

-- the number of an approximation
abbrev number_of : FrequencyApproximation → ℕ
number_of Exact = 0
number_of Accurate = 1
number_of Fast = 2
number_of Dirty = 3
number_of Series = 4

-- the number p is wrong in every kind, or that of an approximation that the sheet has
data Approximated (b p : ℕ) : Option FrequencyApproximation → Type 0 where
  no_number : ((k : ℕ) → KindWrong b k p) → Approximated b p None
  numbers : (q : FrequencyApproximation) → number_of q ≡ p → Has b p → Approximated b p (Some q)

approximated_kind : (b : ℕ) (v : Edition) → Is v b → (p : ℕ) → Approximated b p (slice_get (approximations_in v) p)
approximated_kind b One i zero = numbers Exact refl (inl (omega arith))
approximated_kind b One i (suc zero) = numbers Accurate refl (inl (omega arith))
approximated_kind b One i (suc (suc zero)) = numbers Fast refl (inl (omega arith))
approximated_kind b One i (suc (suc (suc zero))) = numbers Dirty refl (inl (omega arith))
approximated_kind b One i (suc (suc (suc (suc p)))) = no_number (λ k. past_edition_1 i (omega arith))
approximated_kind b Two i zero = numbers Exact refl (inl (omega arith))
approximated_kind b Two i (suc zero) = numbers Accurate refl (inl (omega arith))
approximated_kind b Two i (suc (suc zero)) = numbers Fast refl (inl (omega arith))
approximated_kind b Two i (suc (suc (suc zero))) = numbers Dirty refl (inl (omega arith))
approximated_kind b Two i (suc (suc (suc (suc zero)))) = numbers Series refl (inr (i, omega arith))
approximated_kind b Two i (suc (suc (suc (suc (suc p))))) = no_number (λ k. past_approximations (omega arith))

-- in an approximation that the sheet has
module _ (b p : ℕ) (h : Has b p) where
  module _ (k : ℕ) (s : Setter) (x : 1 ≤ k) (y : k ≤ 7) (n : TakesF k → ⊥) (u : used s ≡ words_used k) (f : (a : ℕ) → setting_refusal s a ≡ 0) where
    past_exact : 0 < p → KindWrong b k p
    past_exact l = not_exact (λ e. n (inl e)) (λ e. n (inr (inl e))) (λ e. n (inr (inr e))) l

    exact_kind : (q : FrequencyApproximation) → number_of q ≡ p → Kind b k p (exact s q)
    exact_kind Exact e = right (not_wrong b k p x y h (inr (omega arith))) u (λ a. rw (f a) (no (λ w. n w.takes_f)))
    exact_kind Accurate e = wrong (past_exact (omega arith))
    exact_kind Fast e = wrong (past_exact (omega arith))
    exact_kind Dirty e = wrong (past_exact (omega arith))
    exact_kind Series e = wrong (past_exact (omega arith))

  module _ (k : ℕ) (s : FrequencyApproximation → Setter) (x : 1 ≤ k) (y : k ≤ 7) (o : TakesF k)
      (u : (q : FrequencyApproximation) → used (s q) ≡ words_used k) (f : (q : FrequencyApproximation) (a : ℕ) → setting_refusal (s q) a ≡ frequency_refusal (word a) q) where
    -- in one that refuses no frequency
    in_other : (q : FrequencyApproximation) → 0 < p → ((a : ℕ) → frequency_refusal (word a) q ≡ 0) → Kind b k p (Some (s q))
    in_other q d z = right (not_wrong b k p x y h (inl o)) (u q) (λ a. rw (f q a, z a) (no (λ w. let e = w.exact in omega arith)))

    frequency_kind : (q : FrequencyApproximation) → number_of q ≡ p → Kind b k p (Some (s q))
    frequency_kind Exact e =
        right (not_wrong b k p x y h (inl o)) (u Exact)
        (λ a. rw (f Exact a) (step_to (λ c. record { takes_f = o; exact = omega arith; refused = c }) (λ w. w.refused) (exact_step (word a))))
    frequency_kind Accurate e = in_other Accurate (omega arith) (λ a. refl)
    frequency_kind Fast e = in_other Fast (omega arith) (λ a. refl)
    frequency_kind Dirty e = in_other Dirty (omega arith) (λ a. refl)
    frequency_kind Series e = in_other Series (omega arith) (λ a. refl)

  none_of : (k : ℕ) → (k ≡ 2 → ⊥) → (k ≡ 3 → ⊥) → (k ≡ 5 → ⊥) → TakesF k → ⊥
  none_of k x y z o = ⊎_elim x (λ q. ⊎_elim y z q) o

  by_kind : (q : FrequencyApproximation) → number_of q ≡ p → (k : ℕ) → Kind b k p (setter_for k q)
  by_kind q e zero = wrong (no_kind refl)
  by_kind q e (suc zero) = exact_kind 1 DcBlocker (omega arith) (omega arith) (none_of 1 (λ z. omega arith) (λ z. omega arith) (λ z. omega arith)) refl (λ a. refl) q e
  by_kind q e (suc (suc zero)) = frequency_kind 2 OnePole (omega arith) (omega arith) (inl refl) (λ r. refl) (λ r a. by_setter a r) q e
  by_kind q e (suc (suc (suc zero))) = frequency_kind 3 SvfFrequency (omega arith) (omega arith) (inr (inl refl)) (λ r. refl) (λ r a. by_setter a r) q e
  by_kind q e (suc (suc (suc (suc zero)))) =
      exact_kind 4 SvfCoefficients (omega arith) (omega arith) (none_of 4 (λ z. omega arith) (λ z. omega arith) (λ z. omega arith)) refl (λ a. refl) q e
  by_kind q e (suc (suc (suc (suc (suc zero))))) = frequency_kind 5 NaiveSvf (omega arith) (omega arith) (inr (inr refl)) (λ r. refl) (λ r a. by_setter a r) q e
  by_kind q e (suc (suc (suc (suc (suc (suc zero)))))) =
      exact_kind 6 ModifiedSvf (omega arith) (omega arith) (none_of 6 (λ z. omega arith) (λ z. omega arith) (λ z. omega arith)) refl (λ a. refl) q e
  by_kind q e (suc (suc (suc (suc (suc (suc (suc zero))))))) =
      exact_kind 7 CrossoverSvf (omega arith) (omega arith) (none_of 7 (λ z. omega arith) (λ z. omega arith) (λ z. omega arith)) refl (λ a. refl) q e
  by_kind q e (suc (suc (suc (suc (suc (suc (suc (suc k)))))))) = wrong (past_kinds (omega arith))

pub kind_of : (b k p : ℕ) → Kind b k p (option_and_then (setter_for k) (slice_get (approximations_in (edition_of b)) p))
kind_of b k p = go (approximated_kind b (edition_of b) (is_edition b) p)
  where
    go : {o : Option FrequencyApproximation} → Approximated b p o → Kind b k p (option_and_then (setter_for k) o)
    go (no_number w) = wrong (w k)
    go (numbers q e h) = by_kind b p h q e k
