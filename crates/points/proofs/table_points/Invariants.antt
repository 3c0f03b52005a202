-- `table_points` decodes block after block, each into its row: after i turns the points of the first i stand before the rows as found.
use mathlib.Core.Path.{◌≡◌}
use mathlib.Core.List.{◌++◌, map}
use lib.ListN.{drop}
use Rattle.layers.specs.Digits.{cut}
use Rattle.records.specs.Eight.Codes.{block_size, whole_point}
use Rattle.points.proofs.table_points.Given as goal

abbrev pub invariant-loop-i : goal.invariant-loop-i
invariant-loop-i l = l.rows ≡ map (whole_point 2 l.m) (cut (block_size l.m) l.i l.body) ++ drop l.i l.initial.rows
