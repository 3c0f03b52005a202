-- `take_units` hands out what `measure_units` finds, whose units are in range.
use mathlib.Core.Path.{sym, ◌∙◌, ap, subst}
use mir.Facts.{to_z-of_z}
use Rattle.readings.specs.Taking.{measure_units, taken_of, InRange}
use Rattle.readings.proofs.Laws.Taking.{units-in-range}
use Rattle.readings.proofs.take_units.Goals as goal

pub taken_of-requires : goal.taken_of-requires
taken_of-requires c = subst InRange (sym c.measure_units.ensures) (units-in-range _)

pub returns : goal.returns
returns c = c.taken_of.ensures ∙ ap taken_of (c.before.measure_units.ensures ∙ ap measure_units (to_z-of_z c.before.before.ranges.x))
