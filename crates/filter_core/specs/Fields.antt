-- A filter's fields in an array.
use Rattle.std.specs.Prelude.{ℕ, List, Float, get_or}
use Rattle.std.specs.Float.{nan}

-- what stands at the place k
abbrev pub field : List Float → ℕ → Float
field fields k = get_or fields k nan
