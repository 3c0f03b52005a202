-- `table_point` goes from the top layer down: it holds what the layers from i on decode to, which is never large.
use mathlib.Core.Path.{◌≡◌}
use Prim.Native.Nat.{◌*◌, ◌-◌}
use lib.ListN.{drop}
use Rattle.layers.specs.E8.{decode8}
use Rattle.points.proofs.table_point.Given as goal

abbrev pub invariant-loop-i : goal.invariant-loop-i
invariant-loop-i l = l.e ≡ decode8 2 (l.m - l.i) (drop (8 * l.i) l.ds)
