use Rattle.filter_core.proofs.Passes.{Counting}
use Rattle.naive_svf.specs.NaiveSvf.{naive_next, naive_out}
use Rattle.naive_svf.proofs.NaiveSvf.decimate_buffer.Given as goal

abbrev pub invariant-loop-i : goal.invariant-loop-i
invariant-loop-i l = Counting l.decimate naive_next (naive_out l.mode) l.in_ l.n l.fn.self l.fn.out l.i l.left l.filter l.out
