-- What stands beside a name in a table.
use Rattle.std.specs.Prelude.{ℕ, cond, List, [], ◌∷◌, Option, Some, None, bytes_eq}

abbrev pub look_up : {A : Type 0} → List ℕ → List (List ℕ × A) → Option A
look_up s [] = None
look_up s ((name, a) ∷ rows) = cond (bytes_eq s name) (Some a) (look_up s rows)
