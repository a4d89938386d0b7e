use Rattle.std.proofs.Common.{◌≤◌, length, take}
use Rattle.std.specs.Io.KnownBytes.{Appends}
use Rattle.streams.proofs.write.Given as goal

abbrev pub invariant-loop : goal.invariant-loop
invariant-loop g l = record {
  in_bounds : l.count ≤ length l.buf;
  written : Appends (g.W.Write.contents l.initial.to) (g.W.Write.contents l.to) (take l.count l.buf);
}
