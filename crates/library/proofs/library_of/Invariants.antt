use Rattle.std.proofs.Common.{◌≡◌}
use Rattle.lists.specs.Table.{table}
use Rattle.library.specs.Library.{stored_in}
use Rattle.sheets.specs.Sheet.{edition_in}
use Rattle.library.proofs.library_of.Given as goal

abbrev pub invariant-loop-e : goal.invariant-loop-e
invariant-loop-e l = (l.library.edition ≡ edition_in l.sheet) × (l.library.entries.items ≡ table l.e (stored_in l.sheet))
