-- `folded` goes row by row: after j turns the first j are right.
use mathlib.Core.List.{[]}
use Prim.Native.Nat.{ℕ, ◌<◌}
use lib.ListN.{get_or}
use Rattle.columns.specs.Columns.{Square8}
use Rattle.points.specs.Lanes.{FoldedRow}
use Rattle.points.proofs.folded.Given as goal

abbrev pub invariant-loop-j : goal.invariant-loop-j
invariant-loop-j l = record { square : Square8 l.e; each : (t : ℕ) → t < l.j → FoldedRow l.q l.m l.n (get_or l.l t []) (get_or l.e t []) }
