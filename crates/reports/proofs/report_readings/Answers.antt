-- `report_readings` asks for each report in turn, which is exact.
use Rattle.std.specs.Prelude.{pos}
use Rattle.std.proofs.Common.{rules}
use Rattle.integers.specs.Vectors.{«at»}
use Rattle.integers.specs.Laws.Arrays.{from_fn-range}
use Rattle.readings.specs.Report.{report_reading}
use Rattle.reports.proofs.report_readings.Goals as goal

pub returns : goal.returns
returns c = from_fn-range _ (λ i. report_reading («at» c.args.x.now i) c.args.s («at» c.args.e.now i)) (report_reading (pos 0) (pos 0) (pos 0)) c.from_fn.ensures.items (λ k y q l e. search rules)
