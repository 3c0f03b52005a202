-- `take_bits` hands out what `measure_bits` finds, whose units are in range.
use mathlib.Core.Path.{sym, ◌∙◌, ap, subst}
use Rattle.readings.specs.Taking.{taken_of, InRange}
use Rattle.readings.proofs.Laws.Taking.{float-in-range}
use Rattle.readings.proofs.take_bits.Goals as goal

pub taken_of-requires : goal.taken_of-requires
taken_of-requires c = subst InRange (sym c.measure_bits.ensures) (float-in-range _)

pub returns : goal.returns
returns c = c.taken_of.ensures ∙ ap taken_of c.before.measure_bits.ensures
