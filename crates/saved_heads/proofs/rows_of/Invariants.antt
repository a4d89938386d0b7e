use Rattle.std.proofs.Common.{◌≡◌, ◌≤◌, ◌*◌, length, take}
use Rattle.saved_heads.specs.Bytes.{rows_from}
use Rattle.saved_heads.proofs.rows_of.Given as goal

abbrev pub invariant-loop-h : goal.invariant-loop-h
invariant-loop-h l = (l.rows.items ≡ rows_from 0 (take l.h l.heads)) × (length l.rows.items ≤ 5 * l.h)
