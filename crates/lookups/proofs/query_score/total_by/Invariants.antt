-- `total_by` adds block after block: after i turns z is the total of the first i, each of which is small whatever its part holds.
use Rattle.std.proofs.Common.{◌≡◌, ◌*◌, ◌^◌, ◌≤◌, nat_abs}
use Rattle.layers.specs.Digits.{cut}
use Rattle.records.specs.Eight.Codes.{block_size}
use Rattle.scores.specs.Scores.{total}
use Rattle.lookups.specs.Scoring.{block_query_by}
use Rattle.tables.specs.Tables.{part_size}
use Rattle.lookups.proofs.query_score.total_by.Given as goal

abbrev pub invariant-loop-i : goal.invariant-loop-i
invariant-loop-i g l = (l.z ≡ total (block_query_by g.row.Q g.row.M l.steps) (cut (part_size g.row.Q) l.i l.table) (cut (block_size g.row.M) l.i l.body)) × (nat_abs l.z ≤ l.i * 2 ^ 53)
