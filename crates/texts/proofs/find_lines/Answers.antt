-- `find_lines` finds the lines one after the other; where one is missing, or a fourth follows, the laws say that they are not three.
use Rattle.std.proofs.Common.{arith}
use Rattle.texts.specs.Laws.Texts.{one_line, two-lines, four-lines, three-lines}
use Rattle.texts.proofs.find_lines.Goals as goal

pub returns-then-a-n : goal.returns-then-a-n
returns-then-a-n c = one_line c.args.text.now _ c.line_end-a.ensures.is c.if-a-n.true

pub returns-then-b-n : goal.returns-then-b-n
returns-then-b-n c = two-lines c.args.text.now _ c.line_end-a.ensures.is _ c.line_end-b.ensures.is (omega (arith, c.if-a-n.false)) c.if-b-n.true

pub returns-then-c-n : goal.returns-then-c-n
returns-then-c-n c = four-lines c.args.text.now _ c.line_end-a.ensures.is _ c.line_end-b.ensures.is (omega (arith, c.if-a-n.false)) _ c.line_end-c.ensures.is (omega (arith, c.if-b-n.false)) c.if-c-n.true

pub returns : goal.returns
returns c =
    three-lines c.args.text.now _ c.line_end-a.ensures.is _ c.line_end-b.ensures.is (omega (arith, c.if-a-n.false)) _ c.line_end-c.ensures.is (omega (arith, c.if-b-n.false))
    c.if-n-gt-TEXT_MOST.false c.line_end-c.ensures.within.1 c.if-c-n.false
