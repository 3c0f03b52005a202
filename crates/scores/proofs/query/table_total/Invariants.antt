-- `table_total` has the points made, then adds block after block: after i turns z is the total of the first i, which stays small.
use mathlib.Core.Path.{◌≡◌}
use lib.IntN.{nat_abs}
use Rattle.layers.specs.Digits.{cut}
use Rattle.records.specs.Eight.Codes.{block_size}
use Rattle.scores.specs.Eight.Scores.{total, block_query}
use Rattle.scores.proofs.query.table_total.Given as goal

abbrev pub invariant-loop-i : goal.invariant-loop-i
invariant-loop-i l = l.z ≡ total (block_query (nat_abs l.q) l.m l.steps) (cut 8 l.i l.x) (cut (block_size l.m) l.i l.body)
