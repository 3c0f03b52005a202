-- A list none of whose digits is past a number is below the next.
use Rattle.std.proofs.Common.{suc, arith}
use Rattle.layers.specs.Laws.Rows.{below_all}
use Rattle.coding.proofs.asked.greatest.Goals as goal

pub returns : goal.returns
returns c = below_all (suc c.loop-d.top) c.args.ds.now (λ i k. omega (arith, c.loop-d.invariant i (omega arith)))
