-- `put_columns` writes column after column, each into its row: after b turns the first b stand between the rows as found.
use mathlib.Core.Path.{◌∙◌, ap₂}
use mathlib.Core.List.{List, []}
use Prim.Native.Nat.{ℕ, ◌+◌}
use native.Mathlib.Omega.{arith}
use lib.IntN.{ℤ, pos}
use lib.ListN.{set}
use Rattle.columns.specs.Columns.{column}
use Rattle.points.specs.Laws.Lanes.{columns-more}
use Rattle.points.proofs.put_columns.Goals as goal

pub loop-b-preserved : goal.loop-b-preserved
loop-b-preserved c =
    ap₂ (λ (r : List (List ℤ)) (x : List ℤ). set r (c.args.i + c.loop-b.b) x) c.loop-b.invariant (c.column.ensures (pos 0))
    ∙ columns-more (λ (t : ℕ). column (pos 0) t c.args.e.now) c.args.rows.now c.args.i c.loop-b.b [] (omega (arith, c.loop-b-test.true, c.requires.2, c.requires.3))
