use Rattle.filter_core.specs.Buffer.{each, puts}
use Rattle.filter_core.proofs.Passes.{Going}
use Rattle.filter_core.proofs.form.filter_each.Given as goal

abbrev pub invariant-loop-i : goal.invariant-loop-i
invariant-loop-i g l =
    Going (each (g.F.Form.next l.fn.form)) (puts (g.F.Form.out l.fn.form)) l.input l.n l.fn.filter l.fn.output l.i l.filter l.output
