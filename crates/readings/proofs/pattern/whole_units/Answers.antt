-- `whole_units` rounds to the nearest units: 0 below half a unit, else twice the digits over a power of two.
use mathlib.Core.Path.{sym, ◌∙◌, ap}
use Prim.Native.Nat.{◌-◌, ◌/◌, ◌%◌}
use native.Mathlib.Omega.{arith}
use mir.Syntax.{w32}
use mir.Val.{SFits}
use mir.Facts.{to_z-of_z}
use Rattle.readings.specs.Taking.{measure_units}
use Rattle.readings.proofs.Laws.Patterns.{pattern-small, pattern-shifted}
use Rattle.readings.proofs.pattern.whole_units.Goals as goal

pub returns-then-exponent-lt116 : goal.returns-then-exponent-lt116
returns-then-exponent-lt116 c = sym (pattern-small c.before.args.bits (omega (arith, c.if-exponent-lt116.true)))

pub returns : goal.returns
returns c =
    let bits = c.before.before.before.args.bits in
    let fits : SFits w32 c.with_sign.result = record { sfits = c.with_sign.type_inv } in
    ap measure_units (to_z-of_z fits ∙ c.with_sign.ensures ∙ c.before.nearest_size.ensures.nearest)
    ∙ sym (pattern-shifted bits (141 - bits % 2147483648 / 8388608) (omega arith) (omega arith) (omega arith))
