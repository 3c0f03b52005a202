-- `layer_points` writes column after column, each entry by entry: after t turns the first t columns are the points of their layers.
use Rattle.std.proofs.Common.{nat_abs}
use Rattle.columns.specs.Laws.Columns.{Pointed, Pointing}
use Rattle.columns.proofs.layer_points.Given as goal

abbrev pub invariant-loop-j : goal.invariant-loop-j
invariant-loop-j l = Pointing (nat_abs l.q) l.c l.t l.r l.j l.l

abbrev pub invariant-loop-t : goal.invariant-loop-t
invariant-loop-t l = Pointed (nat_abs l.q) l.c l.t l.l
