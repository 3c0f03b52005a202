-- `row_sum` goes from the last entry down: it holds the sum of those from i on, which stays small whatever they are.
use mathlib.Core.List.{map}
use Prim.Native.Nat.{◌^◌}
use Rattle.integers.specs.Vectors.{«at»}
use Rattle.lookups.specs.Laws.Sums.{Summed}
use Rattle.lookups.proofs.pair_score.row_sum.Given as goal

abbrev pub invariant-loop-i : goal.invariant-loop-i
invariant-loop-i g l = Summed 2 (2 ^ 7) (map («at» l.row) l.numbers) l.i l.z
