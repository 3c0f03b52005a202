-- `put_layer` goes down the rows: after j turns the first j have their digit.
use mathlib.Core.List.{List}
use Prim.Native.Nat.{ℕ}
use lib.ListN.{take, drop}
use Rattle.points.specs.Laws.Lanes.{Putting}
use Rattle.points.proofs.put_layer.Given as goal

-- the digits from a on
abbrev pub part : List ℕ → ℕ → List ℕ
part f a = take 8 (drop a f)

abbrev pub invariant-loop-j : goal.invariant-loop-j
invariant-loop-j l = Putting l.t (part l.body l.a) l.initial.c l.j l.c
