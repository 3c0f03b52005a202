-- `rounds` fills f by the rounding of each entry, and a by what that leaves.
use lib.IntN.{pos, ◌*ℤ◌}
use Rattle.integers.specs.Laws.Loops.{Filled}
use Rattle.rounding.specs.Rounding.{round, left}
use Rattle.rounding.proofs.half.rounds.Given as goal

abbrev pub invariant-loop-i : goal.invariant-loop-i
invariant-loop-i l = record { whole : Filled (round (pos 2 *ℤ l.s)) 8 l.d l.i l.f; rest : Filled (left (pos 2 *ℤ l.s)) 8 l.d l.i l.a }
