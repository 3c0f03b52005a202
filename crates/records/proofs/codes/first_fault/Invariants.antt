-- `first_fault` walks the blocks: what is left of them gives the same verdict as all, until one is refused.
use mathlib.Core.Path.{◌≡◌}
use Prim.Native.Nat.{◌+◌, ◌*◌, ◌-◌}
use lib.ListN.{drop}
use Rattle.layers.specs.Digits.{cut}
use Rattle.records.specs.Codes.{check_blocks}
use Rattle.records.proofs.codes.first_fault.Given as goal

abbrev pub invariant-loop-i : goal.invariant-loop-i
invariant-loop-i l = check_blocks l.steps l.q l.n l.first (cut l.n l.k l.body) ≡ check_blocks l.steps l.q l.n (l.first + l.n * l.i) (cut l.n (l.k - l.i) (drop (l.n * l.i) l.body))
