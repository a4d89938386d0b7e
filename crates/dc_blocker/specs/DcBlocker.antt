-- The DC blocker, by the source's equations.
use Rattle.std.specs.Prelude.{Float}
use Rattle.filter_core.specs.Arithmetic.{◌+ᶠ◌, ◌-ᶠ◌, ◌*ᶠ◌, zeroᶠ}
use Rattle.dc_blocker.specs.declared.DcBlocker.{DcBlocker}

abbrev pub dc_new : DcBlocker
dc_new = record { pole = zeroᶠ; x = zeroᶠ; y = zeroᶠ }

abbrev pub dc_init : DcBlocker → Float → DcBlocker
dc_init s pole = record { pole = pole; x = zeroᶠ; y = zeroᶠ }

-- what the sample x puts out: the new y
abbrev pub dc_out : DcBlocker → Float → Float
dc_out s x = s.y *ᶠ s.pole +ᶠ x -ᶠ s.x

-- the filter after the sample x
abbrev pub dc_next : DcBlocker → Float → DcBlocker
dc_next s x = record { pole = s.pole; x = x; y = dc_out s x }
