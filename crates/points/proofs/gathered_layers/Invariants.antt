-- `gathered_layers` puts layer after layer of block after block: after i layers of block b the first m b + i columns are laid.
use Prim.Native.Nat.{◌+◌, ◌*◌}
use Rattle.points.specs.Laws.Folded.{layer_of}
use Rattle.points.specs.Laws.Lanes.{Laid}
use Rattle.points.proofs.gathered_layers.Given as goal

abbrev pub invariant-loop-i : goal.invariant-loop-i
invariant-loop-i l = Laid (layer_of l.m l.body) (l.m * l.b + l.i) l.c

abbrev pub invariant-loop-b : goal.invariant-loop-b
invariant-loop-b l = Laid (layer_of l.m l.body) (l.m * l.b) l.c
