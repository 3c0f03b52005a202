-- `scanned` sees one entry more in each turn.
use mathlib.Core.Path.{◌≡◌}
use mathlib.Core.List.{map}
use Rattle.rounding.specs.Pass.{scan_of, scanned_from}
use Rattle.rounding.proofs.half.scanned.Given as goal

abbrev pub invariant-loop-j : goal.invariant-loop-j
invariant-loop-j g l = let t = g.T.Number in scan_of g.T.Key.Count.count t.value l.c ≡ scanned_from (t.value l.s) l.from l.j (map t.value l.f) (map t.value l.a)
