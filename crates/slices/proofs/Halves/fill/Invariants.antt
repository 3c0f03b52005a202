-- `fill` counts the high digits up: after g turns the first g runs are chosen, and the first g lists what is left.
use mathlib.Core.Path.{◌≡◌}
use lib.IntN.{nat_abs}
use lib.ListN.{length}
use Rattle.layers.specs.Digits.{digits_of}
use Rattle.slices.specs.Laws.Choices.{Chosen}
use Rattle.slices.proofs.Halves.fill.Given as goal

abbrev pub invariant-loop-g : goal.invariant-loop-g
invariant-loop-g l = record {
  digits : l.ds ≡ digits_of (nat_abs l.q) 4 l.g;
  f_long : length l.f ≡ 8;
  a_long : length l.a ≡ 8;
  lows_stay : l.self.lows ≡ l.initial.self.lows;
  chosen : Chosen l.q l.last l.g l.self.choices l.self.highs;
}
