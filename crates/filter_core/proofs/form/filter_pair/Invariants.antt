use Rattle.filter_core.specs.Buffer.{each, puts}
use Rattle.filter_core.proofs.Passes.{Going}
use Rattle.filter_core.proofs.form.filter_pair.Given as goal

abbrev pub invariant-loop-i : goal.invariant-loop-i
invariant-loop-i g l =
    Going (each (g.F.PairForm.next l.fn.form)) (puts (g.F.PairForm.first l.fn.form)) l.input l.n l.fn.filter l.fn.first l.i l.filter l.first
    × Going (each (g.F.PairForm.next l.fn.form)) (puts (g.F.PairForm.second l.fn.form)) l.input l.n l.fn.filter l.fn.second l.i l.filter l.second
