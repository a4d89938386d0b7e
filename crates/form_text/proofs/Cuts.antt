-- A text cut at its first separator. Assumes nothing.
use Prim.Native.Nat.{ℕ, suc, ◌+◌, ◌-◌, ◌≤◌}
use mathlib.Core.Path.{◌≡◌, refl}
use mathlib.Core.Bool.{Bool, true, false, cond}
use mathlib.Core.List.{List, [], ◌∷◌}
use native.Mathlib.Omega.{arith}
use native.Mathlib.Numerals.{add-one}
use lib.Dec.{eqb}
use lib.ListN.{take, drop}
use Rattle.std.specs.Prelude.{Option, Some, None, MatchOption}
use Rattle.std.specs.List.{position_from}
use Rattle.std.proofs.Common.{Bor}
use Rattle.form_text.specs.Field.{fields_of, fields_left}
use Rattle.form_text.specs.declared.field.Fields.{Fields}

module _ (b : ℕ) where
  -- what the first place of a separator, counted from i, says of the fields
  abbrev Cut : ℕ → List ℕ → Option ℕ → Type 0
  Cut i s r = MatchOption r (fields_of b s ≡ s ∷ []) (λ k. (i ≤ k) × (fields_of b s ≡ take (k - i) s ∷ fields_of b (drop (suc (k - i)) s)))

  cut : (i : ℕ) (s : List ℕ) → Cut i s (position_from (λ x. eqb x b) i s)
  unfolding fields_of
  cut i [] = refl
  cut i (x ∷ s) = go (eqb x b) refl (position_from (λ x. eqb x b) (i + 1) s) (cut (i + 1) s)
    where
      go : (t : Bool) → eqb x b ≡ t → (r : Option ℕ) → Cut (i + 1) s r → Cut i (x ∷ s) (cond t (Some i) r)
      go true e r c =
          let z : i - i ≡ 0 = omega arith in
          (omega arith, rw (e, z) refl)
      go false e None c = rw (e, c) refl
      go false e (Some k) c =
          let l = c.0 in
          let z : k - i ≡ suc (k - (i + 1)) = omega arith in
          (omega arith, rw (e, z, c.1) refl)

  module _ (s : List ℕ) where
    pub cut_at : (k : ℕ) → Some k ≡ position_from (λ x. eqb x b) 0 s → fields_of b s ≡ take k s ∷ fields_of b (drop (k + 1) s)
    cut_at k e =
        let c : Cut 0 s (Some k) = rw (← e) at (cut 0 s) in
        let z : k - 0 ≡ k = omega arith in
        rw (add-one k) (rw z at c.1)

    pub cut_nowhere : None ≡ position_from (λ x. eqb x b) 0 s → fields_of b s ≡ s ∷ []
    cut_nowhere e = let c : Cut 0 s None = rw (← e) at (cut 0 s) in c

  -- there is at least one field
  some_field : (s : List ℕ) → (f : List ℕ) × (fs : List (List ℕ)) × (fields_of b s ≡ f ∷ fs)
  some_field s = go (position_from (λ x. eqb x b) 0 s) (cut 0 s)
    where
      go : (r : Option ℕ) → Cut 0 s r → (f : List ℕ) × (fs : List (List ℕ)) × (fields_of b s ≡ f ∷ fs)
      go None c = (s, [], c)
      go (Some k) c = (take (k - 0) s, fields_of b (drop (suc (k - 0)) s), c.1)

pub some_left : (f : Fields) (s : Bor (List ℕ)) → f.rest ≡ Some s → (field : List ℕ) × (fields : List (List ℕ)) × (fields_left f ≡ field ∷ fields)
some_left f s e = rw e (some_field f.separator s.now)
