use Rattle.std.proofs.Common.{◌≡◌, length}
use Rattle.form_text.specs.Name.{look_up}
use Rattle.call_text.specs.Keyword.{texts}
use Rattle.call_text.proofs.keyword.keyword_in.Given as goal

abbrev pub invariant-loop-table : goal.invariant-loop-table
invariant-loop-table l = look_up l.s (texts l.table) ≡ look_up l.s (texts l.initial.table)

abbrev pub decreases-loop-table : goal.decreases-loop-table
decreases-loop-table l = length l.table
