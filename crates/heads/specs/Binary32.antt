-- What is asked of a history, so that binary32 holds the filter that it leads to: that it holds the samples of each run and each restored
-- filter. Of a load nothing is asked, since its entry has words, and binary32 holds every word's number.
use Rattle.std.specs.Prelude.{List, ⊤}
use Rattle.std.specs.List.{All}
use Rattle.any_filter.specs.Binary32.{AllBinary32, Representable}
use Rattle.heads.specs.Act.{Act, run, run_two, rest, mark, back, drop, count}
use Rattle.heads.specs.History.{Event, load_event, run_event, rest_event, restored_event}

abbrev pub RepresentableEvent : Event → Type 0
RepresentableEvent (load_event e) = ⊤
RepresentableEvent (run_event form us) = AllBinary32 us
RepresentableEvent rest_event = ⊤
RepresentableEvent (restored_event f n) = Representable f

abbrev pub RepresentableEvents : List Event → Type 0
RepresentableEvents = All RepresentableEvent

-- and of a call, whose samples go into its event
abbrev pub RepresentableSamples : Act → Type 0
RepresentableSamples (run form us ys) = AllBinary32 us
RepresentableSamples (run_two form us ys zs) = AllBinary32 us
RepresentableSamples rest = ⊤
RepresentableSamples mark = ⊤
RepresentableSamples (back m) = ⊤
RepresentableSamples (drop m) = ⊤
RepresentableSamples count = ⊤
