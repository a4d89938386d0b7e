-- What the crate's theorems say, case by case, and what `map` makes of an array. Assumes nothing.
use Prim.Native.Nat.{ℕ, zero, suc, ◌≤◌}
use mathlib.Core.Path.{◌≡◌, refl, sym, ◌∙◌}
use mathlib.Core.List.{List, [], ◌∷◌, map}
use native.Mathlib.Omega.{arith}
use lib.ListN.{length, length-map}
use denote.Param.Members.{Mut}
use Rattle.std.specs.Prelude.{Option, None, Some}
use Rattle.std.specs.Fn.{Called}
use Rattle.std.proofs.Math.ListN.{get_or-map}
use Rattle.std.proofs.lemmas.List.{ext_get_or}
use Rattle.std.specs.Array.{IsMapOf}
use Rattle.any_filter.specs.Fields.{type_number, type_numbered, fields_of, FieldsReturn}
use Rattle.any_filter.specs.declared.FilterType.{FilterType}
use Rattle.any_filter.specs.declared.FilterType.TheVariants as type
use Rattle.any_filter.specs.Rest.{RestClears}
use Rattle.any_filter.specs.declared.Filter.{Filter}
use Rattle.any_filter.specs.declared.Filter.TheVariants.{DcBlocker, OnePole, Svf, NaiveSvf, ModifiedSvf, CrossoverSvf}

pub comes_back : FieldsReturn
comes_back (DcBlocker s) = refl
comes_back (OnePole s) = refl
comes_back (Svf s) = refl
comes_back (NaiveSvf s) = refl
comes_back (ModifiedSvf s) = refl
comes_back (CrossoverSvf p) = refl

pub clears : RestClears
clears (DcBlocker s) = refl
clears (OnePole s) = refl
clears (Svf s) = refl
clears (NaiveSvf s) = refl
clears (ModifiedSvf s) = refl
clears (CrossoverSvf p) = refl

-- ---- types and their numbers

pub numbered : (k : FilterType) → type_numbered (type_number k) ≡ Some k
numbered type.DcBlocker = refl
numbered type.OnePole = refl
numbered type.Svf = refl
numbered type.NaiveSvf = refl
numbered type.ModifiedSvf = refl
numbered type.CrossoverSvf = refl

-- the number of a type that a byte names, and 0 where it names none
abbrev pub number_by : Option FilterType → ℕ
number_by None = 0
number_by (Some k) = type_number k

pub number_back : (n : ℕ) → n ≤ 6 → number_by (type_numbered n) ≡ n
number_back zero l = refl
number_back (suc zero) l = refl
number_back (suc (suc zero)) l = refl
number_back (suc (suc (suc zero))) l = refl
number_back (suc (suc (suc (suc zero)))) l = refl
number_back (suc (suc (suc (suc (suc zero))))) l = refl
number_back (suc (suc (suc (suc (suc (suc zero)))))) l = refl
number_back (suc (suc (suc (suc (suc (suc (suc n))))))) l = absurd (omega arith)

pub number_known : (k : FilterType) → (1 ≤ type_number k) × (type_number k ≤ 6)
number_known type.DcBlocker = (omega arith, omega arith)
number_known type.OnePole = (omega arith, omega arith)
number_known type.Svf = (omega arith, omega arith)
number_known type.NaiveSvf = (omega arith, omega arith)
number_known type.ModifiedSvf = (omega arith, omega arith)
number_known type.CrossoverSvf = (omega arith, omega arith)

-- there are eight fields
pub eight : (f : Filter) → length (fields_of f) ≡ 8
eight (DcBlocker s) = refl
eight (OnePole s) = refl
eight (Svf s) = refl
eight (NaiveSvf s) = refl
eight (ModifiedSvf s) = refl
eight (CrossoverSvf p) = refl

-- an array's `map` by a function that answers h of each element
module _ {F A B : Type 0} {g : Mut F (A × Unit {0}) B} (h : A → B) (gives : (p q : F) (x : A) (y : B) → Called g p (x, tt) y q → y ≡ h x) where
  pub map_is : {f : F} {xs : List A} {ys : List B} {n : ℕ} → length xs ≡ n → IsMapOf g f xs ys n → ys ≡ map h xs
  map_is {xs = []} {ys = []} e m = refl
  map_is {xs = []} {ys = y ∷ ys} e m = absurd (omega (arith, m.long))
  map_is {xs = x ∷ xs} {ys = ys} e m =
      ext_get_or (h x) ys (map h (x ∷ xs)) (m.long ∙ sym e ∙ sym (length-map (x ∷ xs) h))
      (λ i l. gives _ _ _ _ (m.at i x (h x) (omega (arith, m.long))).2 ∙ sym (get_or-map h (x ∷ xs) i x))
