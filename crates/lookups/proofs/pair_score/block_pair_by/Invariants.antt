-- `block_pair_by` goes from the first block's top layer down: it holds the sums of the rows of the layers from i on, which stay small whatever the table holds.
use Rattle.std.proofs.Common.{List, map, ℕ, ◌*◌, ◌^◌, ℤ, drop}
use Rattle.layers.specs.Digits.{cut}
use Rattle.lookups.specs.Laws.Sums.{power_sum, Summed, terms}
use Rattle.lookups.specs.Scoring.{pair_entry}
use Rattle.lookups.proofs.pair_score.block_pair_by.Given as goal

-- a row's sum is at most 128 times 2^4
abbrev pub B : ℕ
B = 2 ^ 7 * 2 ^ 4

-- the sum of a layer's entries with the layers of another block
abbrev pub row_sum : List ℤ → ℕ → List ℕ → List ℕ → ℤ
row_sum t m b' d = power_sum 2 (map (pair_entry t d) (cut 8 m (drop 1 b')))

abbrev pub invariant-loop-i : goal.invariant-loop-i
invariant-loop-i g l = Summed 2 B (terms (row_sum l.table g.row.M l.b2) g.row.M (drop 1 l.b)) l.i l.z
