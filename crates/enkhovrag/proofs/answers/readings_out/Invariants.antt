-- `readings_out` copies reading by reading: after i turns the first i entries are right.
use Rattle.integers.specs.Laws.Loops.{Filled}
use Rattle.enkhovrag.specs.Answers.{reading_out}
use Rattle.enkhovrag.proofs.answers.readings_out.Given as goal

abbrev pub invariant-loop-i : goal.invariant-loop-i
invariant-loop-i l = Filled reading_out 8 l.given l.i l.out
