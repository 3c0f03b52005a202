-- `put_lane` goes down the rows: after j turns the first j have their entry.
use Rattle.slices.specs.Laws.Lanes.{Putting}
use Rattle.slices.proofs.choices.put_lane.Given as goal

abbrev pub invariant-loop-j : goal.invariant-loop-j
invariant-loop-j l = Putting l.t l.l l.initial.lanes l.j l.lanes
