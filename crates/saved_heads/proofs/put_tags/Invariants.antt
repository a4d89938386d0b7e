use Rattle.std.proofs.Common.{take}
use Rattle.std.specs.List.{flat_map}
use Rattle.lists.specs.Over.{Puts}
use Rattle.saved_heads.specs.Bytes.{tag_bytes}
use Rattle.saved_heads.proofs.put_tags.Given as goal

abbrev pub invariant-loop-row : goal.invariant-loop-row
invariant-loop-row l = Puts l.from (flat_map tag_bytes (take l.row-index l.rows)) l.fn.output l.at l.output
