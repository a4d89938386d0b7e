-- The count of a history (document 02, i): counted event by event, it is the sum of the samples since the last load, or since the last restored
-- filter with the count that it brought (02 k).
use Rattle.std.specs.Prelude.{◌≡◌, List}
use Rattle.heads.specs.History.{Event, count_of, snapshot_of}

-- for every list of events
abbrev pub CountsAreSums : Type 0
CountsAreSums = (l : List Event) → (snapshot_of l).count ≡ count_of l
