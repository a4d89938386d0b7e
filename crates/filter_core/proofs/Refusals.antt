-- What a call's number says of its refusal: n is the number that the code has, r the refusal that it equals. Assumes nothing.
use mathlib.Core.Path.{◌≡◌, refl, ◌∙◌}
use Prim.Native.Nat.{ℕ}
use borrow.Author.Tests.{ne_eqb}
use Rattle.filter_core.specs.Refusal.{unless_refused}

-- what a refused call leaves
pub stays : {A : Type 0} {n r : ℕ} (was made : A) → n ≡ r → (n ≡ 0 → ⊥) → was ≡ unless_refused r was made
stays {r = r} was made e z = rw (ne_eqb r 0 (λ h. z (e ∙ h))) refl
