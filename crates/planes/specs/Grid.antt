-- A list that stands in rows, and its transpose.
use Rattle.std.specs.Prelude.{ℕ, zero, suc, ◌+◌, ◌*◌, List, [], ◌++◌, get_or}
use Rattle.lists.specs.Table.{table}

-- m rows of n values: f 0 0, .., f 0 (n - 1), then f 1 0, and so on
unfoldable pub rows : ℕ → ℕ → (ℕ → ℕ → ℕ) → List ℕ
rows zero n f = []
rows (suc m) n f = table n (f 0) ++ rows m n (λ r. f (suc r))

-- the value in column c of row r, where s stands in rows of n
abbrev pub cell : ℕ → List ℕ → ℕ → ℕ → ℕ
cell n s r c = get_or s (r * n + c) 0

-- the transpose of s, which stands in m rows of n: its n columns as rows of m
abbrev pub transpose : ℕ → ℕ → List ℕ → List ℕ
transpose m n s = rows n m (λ c r. cell n s r c)
