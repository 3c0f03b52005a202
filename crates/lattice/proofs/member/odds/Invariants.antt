-- `odds` counts the odd entries: after i turns those of the first i.
use Rattle.std.proofs.Common.{◌≡◌, take}
use Rattle.lattice.specs.Doubled.{odds}
use Rattle.lattice.proofs.member.odds.Given as goal

abbrev pub invariant-loop-x : goal.invariant-loop-x
invariant-loop-x l = l.n ≡ odds (take l.x-index l.e)
