-- `point_dot` adds the products up: after i turns t is the inner product of the first i entries of each.
use mathlib.Core.Path.{◌≡◌}
use lib.ListN.{take}
use Rattle.integers.specs.Vectors.{dot}
use Rattle.scores.proofs.inner.point_dot.Given as goal

abbrev pub invariant-loop-i : goal.invariant-loop-i
invariant-loop-i l = l.t ≡ dot (take l.i l.x) (take l.i l.e)
