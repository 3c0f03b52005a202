-- `whole_blocks` is the rule test by test.
use Rattle.std.proofs.Common.{◌/◌, ◌%◌}
use borrow.Author.Tests.{eq-eqb, ne_eqb, le-leb, lt-leb}
use Rattle.records.specs.Frames.{whole_blocks}
use Rattle.records.proofs.frames.whole_blocks.Goals as goal

pub returns-then-n-size : goal.returns-then-n-size
unfolding whole_blocks
returns-then-n-size c = let a = c.args in rw (eq-eqb (a.n % a.size) 0 c.if-n-size-eq0.true, lt-leb a.least (a.n / a.size) c.if-n-size.true)

pub returns-else-n-size : goal.returns-else-n-size
unfolding whole_blocks
returns-else-n-size c = let a = c.args in rw (eq-eqb (a.n % a.size) 0 c.if-n-size-eq0.true, le-leb a.least (a.n / a.size) c.if-n-size.false)

pub returns-else-n-size-eq0 : goal.returns-else-n-size-eq0
unfolding whole_blocks
returns-else-n-size-eq0 c = rw (ne_eqb (c.args.n % c.args.size) 0 c.if-n-size-eq0.false)
