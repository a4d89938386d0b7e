-- What a rest is to a history (document 02, e): from it on, the head's filter is what it would be if the head had just been loaded; or, where a
-- filter was restored since its load (02 k), had just been restored at rest.
use Rattle.std.specs.Prelude.{◌≡◌, List, [], ◌∷◌, ◌++◌}
use Rattle.any_filter.specs.Cases.{rested}
use Rattle.heads.specs.History.{Event, load_event, run_event, rest_event, restored_event, snapshot_of}

-- the last load of a history alone, or nothing where it has none; of a filter that was restored since (02 k), whose load lies before the
-- closing, that filter at rest

abbrev pub load_with : List Event → Event → List Event
load_with l (load_event e) = load_event e ∷ []
load_with l (run_event form us) = l
load_with l rest_event = l
load_with l (restored_event f n) = restored_event (rested f) n ∷ []

unfoldable pub last_load_from : List Event → List Event → List Event
last_load_from l [] = l
last_load_from l (i ∷ is) = last_load_from (load_with l i) is

abbrev pub last_load : List Event → List Event
last_load l = last_load_from [] l

-- whatever came before the rest, and whatever comes after it. With nothing after it, that is the filter of the last load
abbrev pub RestIsLoad : Type 0
RestIsLoad = (before after : List Event) → (snapshot_of (before ++ rest_event ∷ after)).filter ≡ (snapshot_of (last_load before ++ after)).filter
