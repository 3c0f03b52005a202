-- `block_query_by` goes from the top layer down: it holds the sum of the entries of the layers from i on, which stays small whatever they are.
use Rattle.std.proofs.Common.{List, ℕ, ◌^◌, ℤ, drop}
use Rattle.integers.specs.Vectors.{«at»}
use Rattle.layers.specs.Digits.{entry_of}
use Rattle.lookups.specs.Laws.Sums.{Summed, terms}
use Rattle.lookups.proofs.query_score.block_query_by.Given as goal

-- the entry of a layer in the part p
abbrev pub entry : ℕ → List ℤ → List ℕ → ℤ
entry q p ds = «at» p (entry_of q ds)

abbrev pub invariant-loop-i : goal.invariant-loop-i
invariant-loop-i g l = Summed g.row.Q (2 ^ 31) (terms (entry g.row.Q l.part) g.row.M (drop 1 l.b)) l.i l.z
