-- `left` fills its result by what is left at each entry.
use Rattle.integers.specs.Laws.Loops.{Filled}
use Rattle.integers.specs.Vectors.{range}
use Rattle.columns.specs.Narrow.{left_at}
use Rattle.columns.proofs.narrow.left.Given as goal

abbrev pub invariant-loop-j : goal.invariant-loop-j
invariant-loop-j l = Filled (left_at l.s l.c l.a) 8 (range 0 8) l.j l.r
