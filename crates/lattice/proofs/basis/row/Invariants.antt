-- `row` sums the products of a row's entries with the vector's: after j turns the inner product of the first j of each.
use Rattle.std.proofs.Common.{◌≡◌, [], get_or, take}
use Rattle.integers.specs.Vectors.{dot}
use Rattle.lattice.proofs.basis.row.Given as goal

abbrev pub invariant-loop-j : goal.invariant-loop-j
invariant-loop-j l = l.s ≡ dot (take l.j (get_or l.t l.i [])) (take l.j l.c)
