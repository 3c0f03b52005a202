-- `check_units` walks the readings: what is left of them gives the same verdict as all, until one is none.
use Rattle.std.proofs.Common.{◌≡◌, map, drop}
use Rattle.readings.specs.Taking.{measure_units}
use Rattle.records.specs.Vectors.{check_readings}
use Rattle.records.proofs.vectors.check_units.Given as goal

abbrev pub invariant-loop-i : goal.invariant-loop-i
invariant-loop-i l = check_readings 0 (map measure_units l.x) ≡ check_readings l.i-counter (map measure_units (drop l.i-counter l.x))
