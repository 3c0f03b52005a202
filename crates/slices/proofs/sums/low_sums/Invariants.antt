-- `low_sums` goes row by row: after j turns the first j pairs are right.
use Prim.Native.Nat.{◌^◌}
use Rattle.integers.specs.Vectors.{Sized}
use Rattle.slices.specs.Sums.{even_at, odd_at, Paired}
use Rattle.slices.proofs.sums.low_sums.Given as goal

abbrev pub invariant-loop-j : goal.invariant-loop-j
invariant-loop-j l = Sized 512 (2 ^ 29) l.sums × Paired (even_at l.x l.lows) (odd_at l.s l.x l.lows) l.j l.sums
