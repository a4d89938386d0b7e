-- A frequency, kept below a limit.
use Rattle.std.specs.Prelude.{cond, Float}
use Rattle.std.specs.Float.Ieee.{lt}

-- the limit where f is not below it, so at a NaN too
abbrev pub clip_at : Float → Float → Float
clip_at limit f = cond (lt f limit) f limit
