-- `put_columns` writes column after column, each into its row: after b turns the first b stand between the rows as found.
use mathlib.Core.Path.{◌≡◌}
use mathlib.Core.List.{◌++◌, map}
use Prim.Native.Nat.{ℕ, ◌+◌}
use lib.IntN.{pos}
use lib.ListN.{take, drop}
use Rattle.integers.specs.Vectors.{range}
use Rattle.columns.specs.Columns.{column}
use Rattle.points.proofs.put_columns.Given as goal

abbrev pub invariant-loop-b : goal.invariant-loop-b
invariant-loop-b l = l.rows ≡ (take l.i l.initial.rows ++ map (λ (t : ℕ). column (pos 0) t l.e) (range 0 l.b)) ++ drop (l.i + l.b) l.initial.rows
