-- `ruled_points` goes by groups of up to eight blocks: before the group from i on the points of the first i stand before the rows as found.
use Rattle.std.proofs.Common.{◌≡◌, ◌++◌, map, ◌≤◌, nat_abs, drop}
use Rattle.layers.specs.Digits.{cut}
use Rattle.records.specs.Eight.Codes.{block_size, whole_point}
use Rattle.points.proofs.ruled_points.Given as goal

abbrev pub invariant-loop-i : goal.invariant-loop-i
invariant-loop-i l = record { within : l.i ≤ l.k; rows : l.rows ≡ map (whole_point (nat_abs l.q) l.m) (cut (block_size l.m) l.i l.body) ++ drop l.i l.initial.rows }
