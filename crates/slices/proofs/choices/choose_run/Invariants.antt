-- `choose_run` takes column after column: after t turns the first t choices are right.
use mathlib.Core.Path.{◌≡◌}
use Prim.Native.Nat.{ℕ, ◌+◌, ◌<◌}
use lib.IntN.{pos}
use lib.ListN.{get_or}
use Rattle.columns.specs.Columns.{column}
use Rattle.columns.specs.Narrow.{wide}
use Rattle.slices.specs.Lanes.{code_by}
use Rattle.slices.proofs.choices.choose_run.Given as goal

abbrev pub invariant-loop-t : goal.invariant-loop-t
invariant-loop-t l = ((u : ℕ) → u < l.t → get_or l.run u 0 ≡ code_by l.q (column (pos 0) (l.from + u) l.lanes) (wide l.high))
