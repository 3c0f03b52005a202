-- `total_by` adds block after block: after i turns z is the total of the first i, each of which is small whatever the table holds.
use Rattle.std.proofs.Common.{◌≡◌, ◌*◌, ◌^◌, ◌≤◌, nat_abs}
use Rattle.layers.specs.Digits.{cut}
use Rattle.records.specs.Eight.Codes.{block_size}
use Rattle.scores.specs.Scores.{total}
use Rattle.lookups.specs.Scoring.{block_pair_by}
use Rattle.lookups.proofs.pair_score.total_by.Given as goal

abbrev pub invariant-loop-i : goal.invariant-loop-i
invariant-loop-i g l = (l.z ≡ total (block_pair_by g.row.M l.steps l.steps2 l.table) (cut (block_size g.row.M) l.i l.body) (cut (block_size g.row.M) l.i l.body2)) × (nat_abs l.z ≤ l.i * 2 ^ 35)
