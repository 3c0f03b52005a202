-- `decoded_value` is s·e / 2048: the product fits, its cast is exact, and so is its quotient by a power of two.
use mathlib.Core.Path.{refl}
use native.Mathlib.Omega.{arith}
use lib.IntN.{◌*ℤ◌}
use lib.Ieee.{of_bits}
use mir.Syntax.{w64}
use mir.Val.{SFits}
use mir.Facts.{to_z-of_z}
use Rattle.integers.specs.Laws.Sizes.{fits-abs}
use Rattle.readings.proofs.Laws.Exact.{castable, cast-divided}
use Rattle.readings.proofs.exact.decoded_value.Goals as goal
use Rattle.readings.proofs.exact.decoded_value.Goals.{Start}

product : (start : Start) → SFits w64 (start.args.s *ℤ start.args.e)
product start = fits-abs _ (omega (arith, start.requires))

pub overflow_mul-result : goal.overflow_mul-result
overflow_mul-result start = simp (to_z-of_z, start.ranges.s, start.ranges.e) (product start)

pub int_to_float-result : goal.int_to_float-result
int_to_float-result c = let start = c.before in simp (to_z-of_z, start.ranges.s, start.ranges.e, product start) (castable _ start.requires)

pub returns : goal.returns
unfolding of_bits
returns c = let start = c.before in simp (to_z-of_z, start.ranges.s, start.ranges.e, product start) (cast-divided _ 11 0x4500_0000 refl start.requires)
