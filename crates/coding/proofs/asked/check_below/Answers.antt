-- `check_below` accepts at a glance where the greatest digit is below q; else the walk finds the first that is not.
use mathlib.Core.Path.{sym}
use Prim.Native.Nat.{suc}
use Rattle.coding.specs.Laws.Asked.{below-accepted}
use Rattle.layers.specs.Laws.Rows.{below_more}
use Rattle.coding.proofs.asked.check_below.Goals as goal

pub returns-then-greatest-q : goal.returns-then-greatest-q
returns-then-greatest-q c = let g = c.before in let s = g.before.before.args in
    sym (below-accepted s.q s.first s.ds.now (below_more (suc g.greatest.result) s.q c.if-greatest-q.true s.ds.now g.greatest.ensures))
