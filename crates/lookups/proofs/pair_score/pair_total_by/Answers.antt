-- `pair_total_by` names M as a constant: 1, 2, 3 or else 4, the most; without layers the total is 0.
use Rattle.std.proofs.Common.{sym, ◌∙◌, ap, ℕ}
use Rattle.layers.specs.Digits.{cut}
use Rattle.records.specs.Eight.Codes.{block_size}
use Rattle.scores.specs.Scores.{total}
use Rattle.lookups.specs.Laws.Sums.{pair-none}
use Rattle.lookups.specs.Scoring.{block_pair_by}
use Rattle.lookups.proofs.pair_score.pair_total_by.Goals as goal

pub returns-in-0 : goal.returns-in-0
returns-in-0 c = let a = c.args in
    sym (ap (λ (m : ℕ). total (block_pair_by m a.steps.now a.steps2.now a.table.now) (cut (block_size m) a.k a.body.now) (cut (block_size m) a.k a.body2.now)) c.in-0.is
    ∙ pair-none a.steps.now a.steps2.now a.table.now (cut (block_size 0) a.k a.body.now) (cut (block_size 0) a.k a.body2.now))
