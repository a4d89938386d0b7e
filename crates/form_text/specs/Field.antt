-- A text split at a separator, and what is made of several fields that are read.
use Rattle.std.specs.Prelude.{ℕ, cond, List, [], ◌∷◌, Option, Some, None, eqb, option_map}
use Rattle.form_text.specs.declared.field.Fields.{Fields}

-- the fields with x before the first
abbrev pub on_first : ℕ → List (List ℕ) → List (List ℕ)
on_first x [] = (x ∷ []) ∷ []
on_first x (field ∷ fields) = (x ∷ field) ∷ fields

-- the fields of a text: one more than there are separators
unfoldable pub fields_of : ℕ → List ℕ → List (List ℕ)
fields_of separator [] = [] ∷ []
fields_of separator (x ∷ s) = cond (eqb x separator) ([] ∷ fields_of separator s) (on_first x (fields_of separator s))

-- those that are not taken yet
abbrev pub fields_left : Fields → List (List ℕ)
fields_left f = elim f.rest [ None ↦ [] | Some s ↦ fields_of f.separator s.now ]

-- the fields where there are exactly as many
abbrev pub one_field : List (List ℕ) → Option (List ℕ)
one_field (f ∷ []) = Some f
one_field _ = None

abbrev pub two_fields : List (List ℕ) → Option (List ℕ × List ℕ)
two_fields (f ∷ g ∷ []) = Some (f, g)
two_fields _ = None

abbrev pub three_fields : List (List ℕ) → Option (List ℕ × List ℕ × List ℕ)
three_fields (f ∷ g ∷ h ∷ []) = Some (f, g, h)
three_fields _ = None

-- f of the values, where each is there
abbrev pub of_two : {A B C : Type 0} → (A → B → C) → Option A → Option B → Option C
of_two f None b = None
of_two f (Some a) b = option_map (f a) b

abbrev pub of_three : {A B C D : Type 0} → (A → B → C → D) → Option A → Option B → Option C → Option D
of_three f None b c = None
of_three f (Some a) b c = of_two (f a) b c

abbrev pub of_four : {A B C D E : Type 0} → (A → B → C → D → E) → Option A → Option B → Option C → Option D → Option E
of_four f None b c d = None
of_four f (Some a) b c d = of_three (f a) b c d

abbrev pub of_five : {A B C D E F : Type 0} → (A → B → C → D → E → F) → Option A → Option B → Option C → Option D → Option E → Option F
of_five f None b c d e = None
of_five f (Some a) b c d e = of_four (f a) b c d e
