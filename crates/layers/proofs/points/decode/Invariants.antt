-- `decode` goes from the top layer down: it holds what the layers from i on decode to, which is never large.
use Rattle.std.proofs.Common.{◌≡◌, ◌*◌, ◌-◌, nat_abs, drop}
use Rattle.layers.specs.E8.{decode8}
use Rattle.layers.proofs.points.decode.Given as goal

abbrev pub invariant-loop-i : goal.invariant-loop-i
invariant-loop-i l = l.e ≡ decode8 (nat_abs l.q) (l.m - l.i) (drop (8 * l.i) l.ds)
