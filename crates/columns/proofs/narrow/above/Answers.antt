-- `above` is 1 or 0: what its test says.
use mir.Facts.{to_z-of_z}
use Rattle.columns.proofs.narrow.above.Goals as goal

pub returns-then-x-y : goal.returns-then-x-y
returns-then-x-y c = let s = c.before in rw (simp (to_z-of_z, s.ranges.x, s.ranges.y) at c.if-x-y.true)

pub returns-else-x-y : goal.returns-else-x-y
returns-else-x-y c = let s = c.before in rw (simp (to_z-of_z, s.ranges.x, s.ranges.y) at c.if-x-y.false)
