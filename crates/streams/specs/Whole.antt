-- What a write of a whole buffer does to the bytes that a writer holds, where those are known.
use Rattle.std.specs.Prelude.{ℕ, List, Option, Result, take, MatchResult}
use Rattle.std.specs.Io.KnownBytes.{Appends}
use Rattle.streams.specs.declared.Unwritten.{Unwritten}

-- it appended all of buf, or those bytes at the front that the failure counts
abbrev pub WritesFront : Option (List ℕ) → Option (List ℕ) → Result ℕ Unwritten → List ℕ → Type 0
WritesFront old new r buf = MatchResult r (λ _. Appends old new buf) (λ e. Appends old new (take e.count buf))
