-- `eight_points` has all layers after one pass, or goes from the top layer down, all columns at once: it holds the points of the layers from i on, which are never large.
use mathlib.Core.Path.{◌≡◌, subst}
use Prim.Native.Nat.{ℕ, suc, ◌-◌, ◌<◌}
use native.Mathlib.Omega.{arith}
use lib.IntN.{nat_abs}
use mir.Facts.{to_z-of_z}
use Rattle.columns.specs.Columns.{PointColumns}
use Rattle.points.specs.Lanes.{LanePoints}
use Rattle.points.specs.Laws.Folded.{taken-layers, all-foldable, all-points}
use Rattle.points.specs.Laws.LanePoints.{lanes-summable, lanes-more}
use Rattle.points.proofs.eight_points.Goals as goal
use Rattle.points.proofs.eight_points.Goals.{In-loop-i, After-layer_points-l}

-- layer j = i - 1, and the layers above it
module _ (c : In-loop-i) where
  abbrev j : ℕ
  j = c.loop-i.i - 1

  within : j < c.args.m
  within = omega arith

  above : LanePoints (nat_abs c.args.q) c.args.m c.args.n (suc j) c.args.body.now c.loop-i.e
  above = let next : c.loop-i.i ≡ suc j = omega arith in subst (λ (k : ℕ). LanePoints (nat_abs c.args.q) c.args.m c.args.n k c.args.body.now c.loop-i.e) next (simp (to_z-of_z, c.ranges.q) at c.loop-i.invariant)

-- the points of what one pass took
module _ (c : After-layer_points-l) where
  points-are : PointColumns (nat_abs c.args.q) c.taken-c.result c.layer_points-l.result
  points-are = simp (to_z-of_z, c.ranges.q) at c.layer_points-l.ensures

pub layer_points-l-requires : goal.layer_points-l-requires
layer_points-l-requires c = let l = (goal.at.layer_points-l-requires c).In-loop-i in let a = c.args in let p = c.requires in
    simp (to_z-of_z, c.ranges.q) (p.0.base, p.0.digit, taken-layers a.q a.m a.n a.body.now p.0 p.1 c.taken-c.result (j l) (within l) c.taken-c.ensures)

pub folded-requires : goal.folded-requires
folded-requires c = let k = (goal.at.folded-requires c).After-layer_points-l in let a = c.args in let p = c.requires in
    simp (to_z-of_z, c.ranges.q) (p.2, all-foldable a.q a.m a.n a.body.now p.0 p.1 c.if-n-m-le8.true c.taken-c.result (c.taken-c.ensures.all c.if-n-m-le8.true) c.layer_points-l.result (points-are k))

pub returns-then-n-m-le8 : goal.returns-then-n-m-le8
returns-then-n-m-le8 c = let k = (goal.at.returns-then-n-m-le8 c).After-layer_points-l in let a = c.args in let p = c.requires in
    all-points a.q a.m a.n a.body.now p.0 p.1 c.if-n-m-le8.true c.taken-c.result (c.taken-c.ensures.all c.if-n-m-le8.true) c.layer_points-l.result (points-are k) c.folded.result p.2 (simp (to_z-of_z, c.ranges.q) at c.folded.ensures)

pub rows_plus_times-e-requires : goal.rows_plus_times-e-requires
rows_plus_times-e-requires c = let w = goal.at.rows_plus_times-e-requires c in let l = w.In-loop-i in let a = c.args in let p = c.requires in
    simp (to_z-of_z, c.ranges.q) (lanes-summable a.q a.m a.n a.body.now p.0 p.1 (j l) (within l) c.taken-c.result (c.taken-c.ensures.one (omega (arith, c.if-n-m-le8.false))) c.layer_points-l.result c.loop-i.e (points-are w.After-layer_points-l) (above l))

pub loop-i-preserved : goal.loop-i-preserved
loop-i-preserved c = let w = goal.at.loop-i-preserved c in let l = w.In-loop-i in let a = c.args in let p = c.requires in
    simp (to_z-of_z, c.ranges.q) (lanes-more a.q a.m a.n a.body.now p.0 p.1 (j l) (within l) c.taken-c.result (c.taken-c.ensures.one (omega (arith, c.if-n-m-le8.false))) c.layer_points-l.result c.loop-i.e (points-are w.After-layer_points-l) (above l)
    c.rows_plus_times-e.result (simp (to_z-of_z, c.ranges.q) at c.rows_plus_times-e.ensures))
