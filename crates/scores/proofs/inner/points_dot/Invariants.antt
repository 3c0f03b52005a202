-- `points_dot` adds the products up: after i turns t is the inner product of the first i entries of each, and fits 32 bits.
use mathlib.Core.Path.{◌≡◌}
use lib.ListN.{take}
use Rattle.integers.specs.Vectors.{dot}
use Rattle.scores.proofs.inner.points_dot.Given as goal

abbrev pub invariant-loop-i : goal.invariant-loop-i
invariant-loop-i l = l.t ≡ dot (take l.i l.e) (take l.i l.f)
