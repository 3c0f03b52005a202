-- `all_below` counts faults and raises eight numbers, block by block and layer by layer: at the end no digit is past the greatest of them.
use Prim.Native.Nat.{◌+◌}
use Rattle.records.specs.Laws.Glance.{Raising, Glanced}
use Rattle.records.proofs.codes.all_below.Given as goal

abbrev pub invariant-loop-j : goal.invariant-loop-j
invariant-loop-j g l = Raising l.body (l.at + 1) l.initial.top l.j l.top

abbrev pub invariant-loop-i : goal.invariant-loop-i
invariant-loop-i g l = Glanced l.steps l.n g.row.M l.body l.i l.faults l.top
