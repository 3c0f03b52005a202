-- `layer_points` writes column after column, each entry by entry: after t turns the first t columns are the points of their layers.
use Rattle.std.proofs.Common.{rules, ◌≡◌, ◌∙◌, ap, nat_abs, length, w16, to_z, of_z, to_z-of_z}
use mir.Val.{SFits}
use Rattle.integers.specs.Vectors.{«at»}
use Rattle.columns.specs.Columns.{column}
use Rattle.layers.proofs.Laws.Bases.{layer_point8-sized}
use Rattle.columns.specs.Laws.Columns.{pointing-more}
use Rattle.columns.proofs.layer_points.Goals as goal

pub loop-j-preserved : goal.loop-j-preserved
loop-j-preserved c = let t = c.loop-t.t in let r = c.layer_column-r.result in let w = nat_abs (to_z w16 (of_z w16 c.args.q)) in
    let fx : SFits w16 («at» r c.loop-j.j) = search rules in
    let long : length r ≡ 8 = ap length (simp (to_z-of_z, c.ranges.q) at c.layer_column-r.ensures) ∙ (layer_point8-sized c.args.q c.requires.0 (column 0 t c.args.c.now) (c.requires.2.each t c.loop-t-test.true)).long in
    simp (to_z-of_z, fx) (pointing-more w c.args.c.now t c.loop-t-test.true r long c.loop-j-test.true c.loop-j.invariant)
