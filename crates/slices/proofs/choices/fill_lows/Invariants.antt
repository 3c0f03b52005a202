-- `fill_lows` counts the low digits up: after t turns the first t columns hold what the passes over their roundings see, and the first t lists what is left.
use mathlib.Core.Path.{◌≡◌}
use lib.IntN.{nat_abs}
use lib.ListN.{length}
use Rattle.layers.specs.Digits.{digits_of}
use Rattle.slices.specs.Lanes.{Lows}
use Rattle.slices.proofs.choices.fill_lows.Given as goal

abbrev pub invariant-loop-t : goal.invariant-loop-t
invariant-loop-t l = (l.ds ≡ digits_of (nat_abs l.q) 4 l.t) × (length l.f ≡ 8) × (length l.a ≡ 8) × Lows l.q l.last l.t l.lanes l.lows
