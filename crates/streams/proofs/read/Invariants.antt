use Rattle.std.specs.Io.KnownBytes.{Keeps}
use Rattle.streams.proofs.read.Given as goal

-- a read that failed took nothing; the turns are counted by the `for`, which
-- ends by itself, so that no measure stands here
abbrev pub invariant-reads : goal.invariant-reads
invariant-reads g l = Keeps (g.R.Read.remaining l.initial.from) (g.R.Read.remaining l.from)
