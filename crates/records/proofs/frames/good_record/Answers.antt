-- `good_record` is the rule test by test; a dimension of 32 bits is too small for the sum to overflow.
use Rattle.std.proofs.Common.{length, sym, ◌∙◌}
use borrow.Author.Tests.{le-leb, lt-leb}
use Rattle.records.specs.Frames.{good_record}
use Rattle.records.proofs.frames.good_record.Goals as goal

pub returns-then-b-lt4 : goal.returns-then-b-lt4
unfolding good_record
returns-then-b-lt4 c = rw (lt-leb 4 (length c.args.b.now) c.if-b-lt4.true)

pub returns-then-whole_blocks : goal.returns-then-whole_blocks
unfolding good_record
returns-then-whole_blocks c = rw (← c.word_at-n.ensures, le-leb 4 (length c.args.b.now) c.if-b-lt4.false, sym c.whole_blocks.ensures ∙ c.if-whole_blocks.true)

pub returns-else-whole_blocks : goal.returns-else-whole_blocks
unfolding good_record
returns-else-whole_blocks c = rw (← c.word_at-n.ensures, le-leb 4 (length c.args.b.now) c.if-b-lt4.false, sym c.whole_blocks.ensures ∙ c.if-whole_blocks.false)
