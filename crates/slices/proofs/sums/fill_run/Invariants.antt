-- `fill_run` fills the entries one by one: after t turns the first t are right.
use lib.ListN.{length}
use Rattle.integers.specs.Vectors.{range}
use Rattle.integers.specs.Laws.Loops.{Filled}
use Rattle.slices.specs.Sums.{run_at}
use Rattle.slices.proofs.sums.fill_run.Given as goal

abbrev pub invariant-loop-t : goal.invariant-loop-t
invariant-loop-t l = Filled (run_at l.sums l.y l.choices) (length l.initial.run) (range 0 (length l.initial.run)) l.t l.run
