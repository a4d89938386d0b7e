use Prim.Native.Nat.{ℕ, min}
use mathlib.Core.Path.{◌≡◌, sym, ap, ◌∙◌}
use mathlib.Core.List.{List}
use native.Mathlib.Omega.{arith}
use Rattle.std.specs.Prelude.{replicate}
use Rattle.std.specs.List.{fold}
use Rattle.lists.specs.Table.{table}
use Rattle.lists.proofs.Tables.{take_of_table}
use Rattle.heads.specs.Head.{empty_head}
use Rattle.saved_heads.specs.Bytes.{rows_said, row_at, with_row}
use Rattle.saved_heads.specs.declared.Row.{Row}
use Rattle.saved_heads.proofs.heads_in.Goals as goal

pub returns : goal.returns
returns c =
    let b = c.args.bytes.now in
    let e : c.loop-i.i ≡ min (rows_said b) 60 = omega (arith, c.loop-i-test.false, c.loop-i.auto.i-end, c.min-i-end.ensures, c.rows_said-said.ensures.said) in
    c.loop-i.invariant ∙ ap (λ (rs : List Row). fold with_row (replicate 12 empty_head) rs) (ap (λ (n : ℕ). table n (row_at b)) e ∙ sym (take_of_table 60 (rows_said b) (row_at b)))
