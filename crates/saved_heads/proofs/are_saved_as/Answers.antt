use mathlib.Core.Path.{subst, ap, ◌∙◌}
use mathlib.Core.List.{List}
use Prim.Native.Nat.{ℕ, ◌≤◌}
use native.Mathlib.Omega.{arith}
use lib.ListN.{length, length-replicate}
use Rattle.std.specs.Prelude.{bytes_eq, replicate}
use Rattle.lists.specs.Over.{Puts}
use Rattle.saved_heads.specs.Bytes.{rows_bytes, rows_from}
use Rattle.saved_heads.specs.declared.Row.{Row}
use Rattle.saved_heads.proofs.Bytes.{written_front}
use Rattle.saved_heads.proofs.Heads.{rows_eight}
use Rattle.saved_heads.proofs.are_saved_as.Goals as goal

pub returns : goal.returns
returns c =
    let xs = c.args.heads.now in
    let zeros : List ℕ = replicate 2282 0 in
    let e = c.as_slice.ensures.value ∙ c.rows_of-rows.ensures in
    let p = subst (λ (rs : List Row). Puts 0 (rows_bytes rs) zeros c.put_rows-length.result c.put_rows-length.new.output) e c.put_rows-length.ensures in
    let n : length (rows_from 0 xs) ≤ 60 = omega (arith, ap length e, c.as_slice.ensures.fits) in
    c.eq.ensures ∙ ap (λ (l : List ℕ). bytes_eq l c.args.bytes.now) (written_front (rows_from 0 xs) zeros (rows_eight 0 xs) n (length-replicate {A = ℕ} 2282 0) p)
