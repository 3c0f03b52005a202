-- `fill_part` fills run after run: after g turns the first g are right.
use Prim.Native.Nat.{◌^◌}
use Rattle.integers.specs.Vectors.{Sized}
use Rattle.slices.specs.Laws.Runs.{Begun}
use Rattle.slices.proofs.Halves.fill_part.Given as goal

abbrev pub invariant-loop-g : goal.invariant-loop-g
invariant-loop-g l = Begun l.q l.self.choices l.self.lows l.self.highs l.x l.g l.part × Sized 48 (2 ^ 30) l.y
