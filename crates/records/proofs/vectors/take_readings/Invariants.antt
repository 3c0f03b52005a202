-- `take_readings` walks the readings: what is left of them gives the same verdict as all, and the units of those before stand in front.
use Rattle.readings.specs.Taking.{Measured}
use Rattle.std.proofs.Common.{List, map, ℕ, ◌+◌, ◌*◌, ◌-◌}
use Rattle.integers.specs.Vectors.{range}
use Rattle.readings.specs.Words.{measure_at}
use Rattle.records.specs.Vectors.{fvecs_readings}
use Rattle.records.proofs.Laws.Vectors.{Taking}
use Rattle.records.proofs.vectors.take_readings.Given as goal

-- the readings from i on, k of them
abbrev pub from : List ℕ → ℕ → ℕ → List Measured
from b i k = map (λ (j : ℕ). measure_at b (4 + 4 * j)) (range i k)

abbrev pub invariant-loop-i : goal.invariant-loop-i
invariant-loop-i l = Taking (fvecs_readings l.b) l.initial.x l.i-counter (from l.b l.i-counter (l.n - l.i-counter)) l.x
