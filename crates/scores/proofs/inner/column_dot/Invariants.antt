-- `column_dot` adds the products with the column's entries up: after j turns t is the inner product of the first j entries of each.
use mathlib.Core.Path.{◌≡◌}
use lib.IntN.{pos}
use lib.ListN.{take}
use Rattle.integers.specs.Vectors.{dot}
use Rattle.columns.specs.Columns.{column}
use Rattle.scores.proofs.inner.column_dot.Given as goal

abbrev pub invariant-loop-j : goal.invariant-loop-j
invariant-loop-j l = l.t ≡ dot (take l.j l.x) (take l.j (column (pos 0) l.b l.e))
