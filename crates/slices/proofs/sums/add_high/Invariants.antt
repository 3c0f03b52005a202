-- `add_high` goes pair by pair: after c turns the first c pairs are right.
use Prim.Native.Nat.{ℕ, ◌+◌, ◌*◌, ◌^◌}
use lib.IntN.{◌+ℤ◌}
use Rattle.integers.specs.Vectors.{«at», Sized}
use Rattle.slices.specs.Sums.{Paired}
use Rattle.slices.proofs.sums.add_high.Given as goal

abbrev pub invariant-loop-c : goal.invariant-loop-c
invariant-loop-c l = Sized 48 (2 ^ 30) l.y × Paired (λ (i : ℕ). «at» l.z (2 * i) +ℤ l.even) (λ (i : ℕ). «at» l.z (2 * i + 1) +ℤ l.odd) l.c l.y
