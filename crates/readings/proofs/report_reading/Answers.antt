-- `report_reading` takes its numbers from exact floats, whose difference the law `report-subtracts` gives.
use mathlib.Core.Path.{◌∙◌, ap, ap₂}
use lib.IntN.{◌*ℤ◌}
use lib.Ieee.{Float, binary32, sub}
use mir.Facts.{to_z-of_z}
use Rattle.readings.specs.Fractions.{fraction}
use Rattle.readings.specs.declared.Reading.{Reading}
use Rattle.readings.proofs.Laws.Report.{report-subtracts}
use Rattle.readings.proofs.report_reading.Goals as goal

abbrev reading : Float → Float → Float → Reading
reading x y z = record { taken = x; decoded = y; difference = z }

pub units_value-taken-requires : goal.units_value-taken-requires
units_value-taken-requires start = simp (to_z-of_z, start.ranges.x) start.requires.taken

pub decoded_value-decoded-requires : goal.decoded_value-decoded-requires
decoded_value-decoded-requires c = let start = c.before in simp (to_z-of_z, start.ranges.s, start.ranges.e) start.requires.decoded

pub returns : goal.returns
returns c =
    let start = c.before.before in let a = start.args in
    ap₂ (λ (x y : Float). reading x y (sub binary32 x y))
    (simp (to_z-of_z, start.ranges.x) at c.before.units_value-taken.ensures) (simp (to_z-of_z, start.ranges.s, start.ranges.e) at c.decoded_value-decoded.ensures)
    ∙ ap (reading (fraction a.x 1024) (fraction (a.s *ℤ a.e) 2048)) (report-subtracts a.x a.s a.e start.requires)
