-- The report on one reading (01, Layers and steps).
use Rattle.std.specs.Prelude.{◌≤◌, ◌^◌, ℤ, pos, nat_abs, ◌*ℤ◌, ◌-ℤ◌, Float}
use Rattle.readings.specs.Fractions.{fraction}
use Rattle.readings.specs.Taking.{units_value}
use Rattle.readings.specs.declared.Reading.{Reading}

-- a reading as decoded, for a step s and a doubled coordinate e: s·e / 2048
abbrev pub decoded_value : ℤ → ℤ → Float
decoded_value s e = fraction (s *ℤ e) 2048

-- as taken, as decoded, and the first less the second
abbrev pub report_reading : ℤ → ℤ → ℤ → Reading
report_reading X s e = record { taken = units_value X; decoded = decoded_value s e; difference = fraction (pos 2 *ℤ X -ℤ s *ℤ e) 2048 }

-- each of the three is at most 2 ^ 24 of its unit, so that single precision holds it
pub record Reportable (X s e : ℤ) : Type 0 where
  pub taken : nat_abs X ≤ 2 ^ 24
  pub decoded : nat_abs (s *ℤ e) ≤ 2 ^ 24
  pub difference : nat_abs (pos 2 *ℤ X -ℤ s *ℤ e) ≤ 2 ^ 24
