-- `units_value` is X / 1024: the cast of a number up to 2 ^ 24 is exact, and so is its quotient by a power of two.
use mathlib.Core.Path.{refl}
use lib.Ieee.{of_bits}
use mir.Facts.{to_z-of_z}
use Rattle.readings.proofs.Laws.Exact.{castable, cast-divided}
use Rattle.readings.proofs.exact.units_value.Goals as goal

pub int_to_float-result : goal.int_to_float-result
int_to_float-result c = let start = c.before in simp (to_z-of_z, start.ranges.x) (castable start.args.x start.requires)

pub returns : goal.returns
unfolding of_bits
returns c = let start = c.before in simp (to_z-of_z, start.ranges.x) (cast-divided start.args.x 10 0x4480_0000 refl start.requires)
