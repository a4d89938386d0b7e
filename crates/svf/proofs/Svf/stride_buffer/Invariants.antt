use Rattle.filter_core.proofs.Passes.{Leaping}
use Rattle.svf.specs.Svf.{svf_next, svf_out}
use Rattle.svf.proofs.Svf.stride_buffer.Given as goal

abbrev pub invariant-loop-i : goal.invariant-loop-i
invariant-loop-i l = Leaping l.stride svf_next (svf_out l.mode) l.in_ l.n l.fn.self l.fn.out l.i l.filter l.out
