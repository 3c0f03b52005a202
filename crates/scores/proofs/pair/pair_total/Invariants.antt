-- `pair_total` has the points of both made, then adds block after block: after i turns z is the total of the first i, which stays small.
use mathlib.Core.Path.{◌≡◌}
use lib.IntN.{nat_abs}
use Rattle.layers.specs.Digits.{cut}
use Rattle.records.specs.Eight.Codes.{block_size}
use Rattle.scores.specs.Eight.Scores.{total, block_pair}
use Rattle.scores.proofs.pair.pair_total.Given as goal

abbrev pub invariant-loop-i : goal.invariant-loop-i
invariant-loop-i l = l.z ≡ total (block_pair (nat_abs l.q) l.m l.steps l.steps2) (cut (block_size l.m) l.i l.body) (cut (block_size l.m) l.i l.body2)
