-- 02 g: how true the polynomials for tan (π f) are, the source's three and 02 a's. Each is held against its own exact value at the same f, with
-- the coefficients that are stored; how far that is from the tangent itself is another matter.
use Rattle.std.specs.Prelude.{◌≡◌, ◌≤◌, ℕ, Bool, true, ◌&&◌, List, [], ◌∷◌, Float}
use Rattle.std.specs.Float.Ieee.{le}
use Rattle.filter_core.specs.Arithmetic.{word, πᶠ}
use Rattle.filter_core.specs.declared.FrequencyApproximation.TheVariants.{Exact, Accurate, Fast, Dirty, Series}
use Rattle.one_pole.specs.Tangent.{dirty_a, fast_a, fast_b, accurate_a, accurate_b, accurate_c, accurate_d, accurate_e, tangent_row, tan_of}
use Rattle.precision.specs.Scaled.{Scaled, ◌⊕◌, ◌⊗◌, exact, within}

-- the span, by its words: from 2 ^ -20 to 0.5
abbrev pub first : ℕ
first = 0x3580_0000

abbrev pub last : ℕ
last = 0x3f00_0000

abbrev pub lowest : Float
lowest = word first

abbrev pub highest : Float
highest = word last

abbrev pub in_span : Float → Bool
in_span f = le lowest f && le f highest

-- ---- the exact values, beside `tan_dirty`, `tan_fast`, `tan_accurate` and `tan_by_series`: a stored coefficient is what the code multiplies by

abbrev pub exact_dirty : Scaled → Scaled
exact_dirty f = f ⊗ (exact πᶠ ⊕ exact dirty_a ⊗ f ⊗ f)

abbrev pub exact_fast : Scaled → Scaled
exact_fast f = let y = f ⊗ f in f ⊗ (exact πᶠ ⊕ y ⊗ (exact fast_a ⊕ exact fast_b ⊗ y))

abbrev pub exact_accurate : Scaled → Scaled
exact_accurate f =
    let y = f ⊗ f in
    f ⊗ (exact πᶠ ⊕ y ⊗ (exact accurate_a ⊕ y ⊗ (exact accurate_b ⊕ y ⊗ (exact accurate_c ⊕ y ⊗ (exact accurate_d ⊕ y ⊗ exact accurate_e)))))

-- beside `horner`: c₀ + y * (c₁ + y * (c₂ + ..)), and 0 for no coefficient
abbrev pub exact_horner : Scaled → List Float → Scaled
exact_horner y [] = record { whole = 0; places = 0 }
exact_horner y (c ∷ []) = exact c
exact_horner y (c ∷ (d ∷ cs)) = exact c ⊕ y ⊗ exact_horner y (d ∷ cs)

abbrev pub exact_series : Scaled → Scaled
exact_series f = let x = exact πᶠ ⊗ f in x ⊗ exact_horner (x ⊗ x) tangent_row

-- ---- the bounds

pub record Precision : Type 0 where
  -- every word of the span is in it
  pub words : (n : ℕ) → first ≤ n → n ≤ last → in_span (word n) ≡ true
  -- and for every float in it
  pub dirty : (f : Float) → in_span f ≡ true → within 5 (tan_of f Dirty) (exact_dirty (exact f)) ≡ true
  pub fast : (f : Float) → in_span f ≡ true → within 8 (tan_of f Fast) (exact_fast (exact f)) ≡ true
  pub accurate : (f : Float) → in_span f ≡ true → within 17 (tan_of f Accurate) (exact_accurate (exact f)) ≡ true
  pub series : (f : Float) → in_span f ≡ true → within 33 (tan_of f Series) (exact_series (exact f)) ≡ true
  -- the setting Exact, which up to 0.25 answers what Series does
  pub setting_exact_to_quarter : (f : Float) → in_span f ≡ true → le f (word 0x3e80_0000) ≡ true → within 33 (tan_of f Exact) (exact_series (exact f)) ≡ true
