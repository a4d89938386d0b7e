use Rattle.std.proofs.Common.{◌≡◌, replicate}
use Rattle.std.specs.List.{fold}
use Rattle.lists.specs.Table.{table}
use Rattle.heads.specs.Head.{empty_head}
use Rattle.saved_heads.specs.Bytes.{row_at, with_row}
use Rattle.saved_heads.proofs.heads_in.Given as goal

abbrev pub invariant-loop-i : goal.invariant-loop-i
invariant-loop-i l = l.heads ≡ fold with_row (replicate 12 empty_head) (table l.i (row_at l.bytes))
