-- `eight_points` has all layers after one pass, or goes from the top layer down, all columns at once: it holds the points of the layers from i on, which are never large.
use lib.IntN.{nat_abs}
use Rattle.points.specs.Lanes.{LanePoints}
use Rattle.points.proofs.eight_points.Given as goal

abbrev pub invariant-loop-i : goal.invariant-loop-i
invariant-loop-i l = LanePoints (nat_abs l.q) l.m l.n l.i l.body l.e
