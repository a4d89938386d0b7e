use Rattle.std.proofs.Common.{◌≡◌, ◌-◌, ◌++◌, take, drop, replicate}
use Rattle.bounded_vec.proofs.blank_between.Given as goal

abbrev pub invariant-loop-place : goal.invariant-loop-place
invariant-loop-place g l = l.places ≡ take l.fn.start l.fn.places ++ replicate (l.place - l.fn.start) g.T.Blank.blank ++ drop l.place l.fn.places
