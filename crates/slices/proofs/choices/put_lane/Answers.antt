-- `put_lane` goes down the rows: after j turns the first j have their entry.
use Rattle.std.proofs.Common.{rules}
use mir.Syntax.{w16}
use mir.Val.{SFits}
use mir.Facts.{to_z-of_z}
use Rattle.integers.specs.Vectors.{«at»}
use Rattle.slices.specs.Laws.Lanes.{putting-more}
use Rattle.slices.proofs.choices.put_lane.Goals as goal

pub loop-j-preserved : goal.loop-j-preserved
loop-j-preserved c =
    let a = c.args in
    let fx : SFits w16 («at» a.l.now c.loop-j.j) = search rules in
    let more = putting-more a.t c.requires.1 a.l.now c.requires.2 a.lanes.now c.loop-j.j c.loop-j.lanes c.loop-j.invariant c.loop-j-test.true in
    simp (to_z-of_z, fx) more
