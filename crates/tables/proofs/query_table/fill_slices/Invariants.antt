-- `fill_slices` fills the slice's entries of part after part: after b turns those of the first b blocks are right, and all else is as found.
use Rattle.slices.specs.Slices.{point_by}
use Rattle.tables.specs.Groups.{GroupFilled}
use Rattle.tables.proofs.query_table.fill_slices.Given as goal

abbrev pub invariant-loop-b : goal.invariant-loop-b
invariant-loop-b l = GroupFilled l.size l.first l.n (point_by l.q l.halves.choices l.halves.lows l.halves.highs) l.x l.initial.entries l.b l.entries
