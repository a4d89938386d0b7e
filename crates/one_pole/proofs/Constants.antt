-- The polynomials' coefficients, which the compiler folds to one word each. Assumes nothing.
use mathlib.Core.Path.{◌≡◌, refl}
use lib.Ieee.{mul, of_bits}
use Rattle.filter_core.specs.Arithmetic.{word}
use Rattle.one_pole.specs.Tangent.{dirty_a, fast_a, fast_b, accurate_a, accurate_b, accurate_c, accurate_d, accurate_e}

pub dirty_a_is : word 0x4139_57d8 ≡ dirty_a
unfolding dirty_a mul of_bits
dirty_a_is = refl

pub fast_a_is : word 0x4121_ba90 ≡ fast_a
unfolding fast_a mul of_bits
fast_a_is = refl

pub fast_b_is : word 0x425f_264b ≡ fast_b
unfolding fast_b mul of_bits
fast_b_is = refl

pub accurate_a_is : word 0x4125_5da9 ≡ accurate_a
unfolding accurate_a mul of_bits
accurate_a_is = refl

pub accurate_b_is : word 0x4223_4866 ≡ accurate_b
unfolding accurate_b mul of_bits
accurate_b_is = refl

pub accurate_c_is : word 0x4321_3491 ≡ accurate_c
unfolding accurate_c mul of_bits
accurate_c_is = refl

pub accurate_d_is : word 0x42ac_ec93 ≡ accurate_d
unfolding accurate_d mul of_bits
accurate_d_is = refl

pub accurate_e_is : word 0x452e_fe26 ≡ accurate_e
unfolding accurate_e mul of_bits
accurate_e_is = refl

pub ruleset dirty = dirty_a_is

pub ruleset fast = (fast_a_is, fast_b_is)

pub ruleset accurate = (accurate_a_is, accurate_b_is, accurate_c_is, accurate_d_is, accurate_e_is)
