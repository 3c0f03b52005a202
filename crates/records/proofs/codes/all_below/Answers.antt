-- `all_below` counts faults and raises eight numbers, block by block and layer by layer: at the end no digit is past the greatest of them.
use Rattle.std.proofs.Common.{ℕ, suc, ◌*◌, ◌+◌, subst}
use borrow.Author.Tests.{ltb-true}
use Rattle.layers.specs.Laws.Rows.{below_more}
use Rattle.records.specs.Laws.Glance.{Glanced, raising-more, glanced-more, glanced-all}
use Rattle.records.proofs.codes.all_below.Goals as goal

pub loop-j-preserved : goal.loop-j-preserved
loop-j-preserved g c = raising-more c.args.body.now (c.block_size-n.result * c.loop-i.i + 1) c.loop-i.top c.loop-j.j c.loop-j.top c.raised-top.result c.raised-top.ensures c.loop-j.invariant

pub loop-i-preserved : goal.loop-i-preserved
loop-i-preserved g c = let a = c.args in
    glanced-more a.steps c.block_size-n.result g.row.M a.body.now c.loop-i.i c.loop-i.faults c.fault-faults.result c.loop-j.j c.loop-i.top c.loop-j.top c.fault-faults.ensures.0 c.fault-faults.ensures.1 c.loop-j-test.false c.loop-j.invariant c.loop-i.invariant

pub returns-then-faults-eq0 : goal.returns-then-faults-eq0
returns-then-faults-eq0 g c = λ e. let a = c.args in let o = c.loop-i in
    glanced-all a.steps a.q g.row.M a.k o.i a.body.now o.top c.requires.1 c.loop-i-test.false (below_more (suc c.greatest.result) a.q (ltb-true c.greatest.result a.q e) o.top c.greatest.ensures)
    (subst (λ (n : ℕ). Glanced a.steps n g.row.M a.body.now o.i 0 o.top) c.block_size-n.ensures (subst (λ (z : ℕ). Glanced a.steps c.block_size-n.result g.row.M a.body.now o.i z o.top) c.if-faults-eq0.true o.invariant))
