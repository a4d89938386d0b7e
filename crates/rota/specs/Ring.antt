-- The ring of the twelve heads (02 b), in which head 0 comes after head 11.
use Rattle.std.specs.Prelude.{ℕ, Bool, ◌+◌, ◌-◌, ◌%◌, List, map, Option}
use Rattle.std.specs.List.{find, range_with_len}

-- the heads in ring order after head p, of which p is the last itself. A rota made by hand may have any number for p
unfoldable pub ring_after : ℕ → List ℕ
ring_after p = map (λ k. (p % 12 + k) % 12) (range_with_len 1 12)

-- the first of them for which the test holds
abbrev pub first_after : ℕ → (ℕ → Bool) → Option ℕ
first_after p test = find test (ring_after p)

-- how many places behind head p head h stands: 1 where it is the next, 12 where it is p
abbrev pub places : ℕ → ℕ → ℕ
places p h = (11 + h - p) % 12 + 1
