-- The three numbers of a report are exact.
use Rattle.std.specs.Prelude.{◌≡◌, ℤ, pos, ◌*ℤ◌, ◌-ℤ◌}
use Rattle.std.proofs.Common.{lit<, lit≤}
use Rattle.std.specs.Float.{binary32}
use Rattle.std.specs.Float.Ieee.{sub}
use Rattle.readings.specs.Fractions.{Exactly}
use Rattle.readings.specs.Taking.{units_value}
use Rattle.readings.specs.Report.{decoded_value, report_reading, Reportable}
use Rattle.readings.proofs.Laws.Exact.{fraction-exact, exactly-doubled, sub-exact}

module _ (X s e : ℤ) (h : Reportable X s e) where
  pub report-taken : Exactly (report_reading X s e).taken X 1024
  report-taken = fraction-exact X 10 h.taken (lit≤ tt)

  pub report-decoded : Exactly (report_reading X s e).decoded (s *ℤ e) 2048
  report-decoded = fraction-exact (s *ℤ e) 11 h.decoded (lit≤ tt)

  pub report-difference : Exactly (report_reading X s e).difference (pos 2 *ℤ X -ℤ s *ℤ e) 2048
  report-difference = fraction-exact (pos 2 *ℤ X -ℤ s *ℤ e) 11 h.difference (lit≤ tt)

  -- the machine's difference of the first two is the third
  pub report-subtracts : sub binary32 (report_reading X s e).taken (report_reading X s e).decoded ≡ (report_reading X s e).difference
  report-subtracts = sub-exact (pos 2 *ℤ X) (s *ℤ e) 2048 (lit< tt) (units_value X) (decoded_value s e) (exactly-doubled (units_value X) X 1024 report-taken) report-decoded
