-- `folded` goes row by row: after j turns the first j are right.
use mir.Facts.{to_z-of_z}
use Rattle.points.proofs.folded.Goals as goal

pub fold_row-requires : goal.fold_row-requires
fold_row-requires c = simp (to_z-of_z, c.ranges.q) (c.requires.0, c.requires.1.each c.loop-j.j c.loop-j-test.true, c.loop-j.invariant.square.rows c.loop-j.j c.loop-j-test.true)
