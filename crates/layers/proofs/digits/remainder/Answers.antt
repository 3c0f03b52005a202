-- The floor's remainder is below q, so that it fits a byte.
use mathlib.Core.Path.{◌≡◌, ap}
use Prim.Native.Nat.{◌<◌}
use native.Mathlib.Omega.{arith}
use lib.IntN.{pos, nat_abs}
use lib.Signed.{◌≤ℤ◌}
use mir.Syntax.{w64}
use mir.Val.{SFits}
use mir.Facts.{to_z-of_z}
use Rattle.integers.specs.Floor.{floor_mod}
use Rattle.integers.specs.Laws.Floors.{floor_mod-lt, abs-pos}
use Rattle.integers.specs.Laws.Signed.{≤ℤ-trans}
use Rattle.layers.proofs.digits.remainder.Goals as goal
use Rattle.layers.proofs.digits.remainder.Goals.{After-remainder, Start}

module _ (s : Start) where
  least : pos 1 ≤ℤ s.args.q
  least = ≤ℤ-trans (pos 1) (pos 2) s.args.q (record { le = tt }) s.requires.0.least

  small : floor_mod s.args.x (nat_abs s.args.q) < 256
  small = omega (arith, floor_mod-lt s.args.x (nat_abs s.args.q) (abs-pos s.args.q least), s.requires.0.most)

pub remainder-requires : goal.remainder-requires
remainder-requires c = simp (to_z-of_z, c.ranges.x, c.ranges.q, c.ranges.w) (c.requires.0.least, omega (arith, c.requires.0.most), c.requires.1, c.requires.2)

module _ (c : After-remainder) where
  fits : SFits w64 c.remainder.result
  fits = record { sfits = c.remainder.type_inv }

  is : c.remainder.result ≡ pos (floor_mod c.before.args.x (nat_abs c.before.args.q))
  is = simp (to_z-of_z, c.before.ranges.x, c.before.ranges.q) at c.remainder.ensures

pub overflow_cast-result : goal.overflow_cast-result
overflow_cast-result c = simp (to_z-of_z, fits c) (rw (is c) tt, record { fits = omega (arith, ap nat_abs (is c), small c.before) })

pub returns : goal.returns
returns c = simp (to_z-of_z, fits c) (ap nat_abs (is c))
