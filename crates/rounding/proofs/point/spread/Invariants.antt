-- `spread` fills its result by twice each rounding and p times the way on.
use mathlib.Core.List.{List}
use Prim.Native.Nat.{ℕ}
use lib.IntN.{ℤ, pos, ◌+ℤ◌, ◌*ℤ◌}
use Rattle.integers.specs.Laws.Loops.{Filled}
use Rattle.integers.specs.Vectors.{«at», range}
use Rattle.rounding.specs.Rounding.{sign}
use Rattle.rounding.proofs.point.spread.Given as goal

-- an entry of the half of parity p
abbrev pub wide : ℤ → List ℤ → List ℤ → ℕ → ℤ
wide p f a i = pos 2 *ℤ «at» f i +ℤ p *ℤ sign («at» a i)

abbrev pub invariant-loop-i : goal.invariant-loop-i
invariant-loop-i l = Filled (wide l.p l.f l.a) 8 (range 0 8) l.i l.e
