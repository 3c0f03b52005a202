-- `half_sums` sums the products: after i turns the inner products of the first i readings with the first i coordinates, and with these lowered.
use mathlib.Core.Path.{◌≡◌}
use mathlib.Core.List.{map}
use lib.ListN.{take}
use Rattle.integers.specs.Vectors.{dot}
use Rattle.rounding.specs.Rounding.{lowered}
use Rattle.slices.proofs.sums.half_sums.Given as goal

abbrev pub invariant-loop-i : goal.invariant-loop-i
invariant-loop-i l = record { even : l.even ≡ dot (take l.i l.x) (take l.i l.a); odd : l.odd ≡ dot (take l.i l.x) (take l.i (map (lowered l.s) l.a)) }
