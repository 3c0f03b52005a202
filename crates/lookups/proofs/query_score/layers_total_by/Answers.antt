-- `layers_total_by` names M as a constant: 1, 2, 3 or else 4, the most; without layers the total is 0.
use Rattle.std.proofs.Common.{sym, ◌∙◌, ap, ℕ}
use Rattle.layers.specs.Digits.{cut}
use Rattle.records.specs.Eight.Codes.{block_size}
use Rattle.scores.specs.Scores.{total}
use Rattle.tables.specs.Tables.{part_size}
use Rattle.lookups.specs.Laws.Sums.{query-none}
use Rattle.lookups.specs.Scoring.{block_query_by}
use Rattle.lookups.proofs.query_score.layers_total_by.Goals as goal

pub returns-in-0 : goal.returns-in-0
returns-in-0 g c = let a = c.args in let q : ℕ = g.row.Q in
    sym (ap (λ (m : ℕ). total (block_query_by q m a.steps.now) (cut (part_size q) a.k a.table.now) (cut (block_size m) a.k a.body.now)) c.in-0.is
    ∙ query-none q a.steps.now (cut (part_size q) a.k a.table.now) (cut (block_size 0) a.k a.body.now))
