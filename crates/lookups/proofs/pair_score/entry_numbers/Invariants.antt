-- `entry_numbers` goes up: after i turns the numbers of the first i layers stand in front.
use Rattle.std.proofs.Common.{◌≡◌, map, length, take}
use Rattle.layers.specs.Digits.{cut, entry_of}
use Rattle.lookups.proofs.pair_score.entry_numbers.Given as goal

abbrev pub invariant-loop-i : goal.invariant-loop-i
invariant-loop-i g l = (length l.numbers ≡ g.row.M) × (take l.i l.numbers ≡ map (entry_of 2) (cut 8 l.i l.ds))
