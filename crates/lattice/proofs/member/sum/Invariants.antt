-- `sum` adds the entries up: after i turns t is the sum of the first i.
use Rattle.std.proofs.Common.{◌≡◌, take}
use Rattle.integers.specs.Vectors.{sum_v}
use Rattle.lattice.proofs.member.sum.Given as goal

abbrev pub invariant-loop-x : goal.invariant-loop-x
invariant-loop-x l = l.t ≡ sum_v (take l.x-index l.f)
