-- `fold_row` goes block by block: after b turns the first b are right.
use Rattle.points.specs.Lanes.{FoldedRow}
use Rattle.points.proofs.fold_row.Given as goal

abbrev pub invariant-loop-b : goal.invariant-loop-b
invariant-loop-b l = FoldedRow l.q l.m l.b l.l l.r
