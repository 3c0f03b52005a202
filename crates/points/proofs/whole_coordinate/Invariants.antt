-- `whole_coordinate` goes from the top layer down: it holds what the layers from i on give, which is never large.
use mathlib.Core.Path.{◌≡◌}
use Prim.Native.Nat.{◌+◌, ◌-◌}
use Rattle.points.specs.Lanes.{whole_coordinate}
use Rattle.points.proofs.whole_coordinate.Given as goal

abbrev pub invariant-loop-i : goal.invariant-loop-i
invariant-loop-i l = l.z ≡ whole_coordinate l.q (l.m - l.i) (l.t + l.i) l.l
