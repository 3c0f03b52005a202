-- `gather` puts block after block: after b turns the first b columns hold the layer of their blocks.
use mathlib.Core.List.{List}
use Prim.Native.Nat.{ℕ}
use Rattle.points.specs.Laws.Lanes.{Laid, layer_at}
use Rattle.points.proofs.gather.Given as goal

-- the layer i of block b
abbrev pub layer : List ℕ → ℕ → ℕ → ℕ → List ℕ
layer f m i b = layer_at m f b i

abbrev pub invariant-loop-b : goal.invariant-loop-b
invariant-loop-b l = Laid (layer l.body l.m l.i) l.b l.c
