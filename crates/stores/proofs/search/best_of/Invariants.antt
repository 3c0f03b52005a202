-- `best_of` walks the records: after i of them `best` is the best of their scores.
use Rattle.std.proofs.Common.{◌≡◌, map, nat_abs, length}
use Rattle.layers.specs.Digits.{cut}
use Rattle.scores.specs.Eight.Scores.{query_total}
use Rattle.stores.specs.Stores.{best_of}
use Rattle.stores.proofs.search.best_of.Given as goal

abbrev pub invariant-loop-i : goal.invariant-loop-i
invariant-loop-i l = (l.best ≡ best_of (map (query_total (nat_abs l.q) l.m l.steps l.x) (cut l.n l.i l.store))) × (length l.rows ≡ 64)
