-- Where a byte stands in a text.
use Rattle.std.specs.Prelude.{ℕ, List, Option, drop, eqb}
use Rattle.std.specs.List.{position_from}

-- the first place of a byte in a text, from the place `from` on
abbrev pub first_from : ℕ → ℕ → List ℕ → Option ℕ
first_from from b s = position_from (λ x. eqb x b) from (drop from s)
