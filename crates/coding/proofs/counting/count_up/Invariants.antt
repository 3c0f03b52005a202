-- `count_up` goes from the first digit on: those before the place are done, and it ends at the first that goes up.
use Rattle.coding.specs.Laws.Counting.{Carrying}
use Rattle.coding.proofs.counting.count_up.Given as goal

abbrev pub invariant-loop-x : goal.invariant-loop-x
invariant-loop-x l = Carrying l.q l.initial.ds l.x-index l.ds
