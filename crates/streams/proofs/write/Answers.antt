use Rattle.std.proofs.Common.{◌≡◌, ◌∙◌, ap, sym, ◌+◌, ◌-◌, ◌++◌, length, take, drop, arith}
use Rattle.std.proofs.Math.Seq.{take-add}
use Rattle.std.proofs.lemmas.List.{take_rest}
use Rattle.std.proofs.KnownBytes.{Appends-trans}
use Rattle.streams.proofs.write.Goals as goal

pub loop-preserved : goal.loop-preserved
loop-preserved g c =
    let buf = c.args.buf.now in
    let count = c.loop.count in
    let n = c.in-Ok.n in
    let e : take (count + n) buf ≡ take count buf ++ take n (take (length buf - count) (drop count buf)) =
    take-add count n buf ∙ ap (λ l. take count buf ++ take n l) (sym (take_rest buf count)) in
    record {
      in_bounds = let h = c.in-Ok.ensures.count_in_bounds in omega arith;
      written = rw e (Appends-trans _ _ _ _ _ c.loop.invariant.written c.in-Ok.ensures.bytes);
    }
