use Rattle.std.proofs.Common.{◌≡◌, ◌∷◌, ◌++◌, take, map}
use Rattle.saved_heads.specs.Row.{row_of}
use Rattle.saved_heads.proofs.push_head.Given as goal

abbrev pub invariant-loop-mark : goal.invariant-loop-mark
invariant-loop-mark l = l.rows.items ≡ l.fn.rows.items ++ map (row_of l.h) (l.head.now ∷ take l.mark-index l.head.marks.items)
