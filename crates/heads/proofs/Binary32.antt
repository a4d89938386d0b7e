-- Binary32 holds the filter that a history leads to, if it holds the samples and the restored filters in it. Assumes nothing.
use mathlib.Core.List.{List, [], ◌∷◌}
use Rattle.std.specs.Prelude.{Option, None, Some, IfSome}
use Rattle.std.proofs.lemmas.List.Elements.{All-head, All-tail}
use Rattle.any_filter.specs.Binary32.{Representable}
use Rattle.any_filter.specs.declared.Filter.{Filter}
use Rattle.any_filter.proofs.Binary32.{rested_held}
use Rattle.runs.proofs.Binary32.{through_held}
use Rattle.loads.proofs.Binary32.{loaded_held}
use Rattle.heads.specs.History.{Event, load_event, run_event, rest_event, restored_event, filter_with, snapshot_with, snapshot_from, snapshot_of}
use Rattle.heads.specs.Binary32.{RepresentableEvent, RepresentableEvents}
use Rattle.heads.specs.declared.Snapshot.{Snapshot}

abbrev Held : Option Filter → Type 0
Held s = IfSome s Representable

held_with : (s : Option Filter) (i : Event) → RepresentableEvent i → Held s → Held (filter_with s i)
held_with s (load_event e) q p = loaded_held e
held_with None (run_event form us) q p = tt
held_with (Some f) (run_event form us) q p = through_held f form us p q
held_with None rest_event q p = tt
held_with (Some f) rest_event q p = rested_held f p
held_with s (restored_event f n) q p = q

held_from : (s : Snapshot) (l : List Event) → RepresentableEvents l → Held s.filter → Held (snapshot_from s l).filter
unfolding snapshot_from
held_from s [] q p = p
held_from s (i ∷ l) q p = held_from (snapshot_with s i) l (All-tail RepresentableEvent i l q) (held_with s.filter i (All-head RepresentableEvent i l q) p)

pub held_of : (l : List Event) → RepresentableEvents l → IfSome (snapshot_of l).filter Representable
held_of l q = held_from _ l q tt
