-- What a load makes is at rest: it has heard no sample yet.
use Rattle.std.specs.Prelude.{◌≡◌}
use Rattle.any_filter.specs.Cases.{rested}
use Rattle.sheets.specs.declared.entry.Entry.{Entry}
use Rattle.loads.specs.Load.{filter_of}

abbrev pub LoadsAtRest : Type 0
LoadsAtRest = (e : Entry) → rested (filter_of e) ≡ filter_of e
