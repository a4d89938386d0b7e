-- A filter handed back after a run.
use Rattle.svf.specs.declared.Svf.{Svf}

-- the settings of s with the state of t: what a run leaves, since it keeps the settings
abbrev pub svf_retained : Svf → Svf → Svf
svf_retained s t = record { g = s.g; r = s.r; h = s.h; state_1 = t.state_1; state_2 = t.state_2 }
