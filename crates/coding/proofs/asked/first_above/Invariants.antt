-- `first_above` walks the digits: what is left of them gives the same verdict as all, until one is not below q.
use mathlib.Core.Path.{◌≡◌}
use Prim.Native.Nat.{◌+◌}
use lib.ListN.{drop}
use Rattle.coding.specs.Answers.{check_below}
use Rattle.coding.proofs.asked.first_above.Given as goal

abbrev pub invariant-loop-i : goal.invariant-loop-i
invariant-loop-i l = check_below l.q l.first l.ds ≡ check_below l.q (l.first + l.i) (drop l.i l.ds)
