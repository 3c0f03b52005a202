-- It ends at the first digit that goes up.
use Rattle.std.proofs.Common.{add-one, arith, get_or}
use Rattle.coding.specs.Laws.Counting.{carrying-up}
use Rattle.coding.proofs.counting.count_up.Goals as goal

pub returns-then-d-q : goal.returns-then-d-q
returns-then-d-q c = rw (add-one (get_or c.loop-x.ds c.loop-x.x-index 0)) (carrying-up c.args.q c.args.ds.now c.loop-x.x-index c.loop-x.ds c.loop-x.invariant (omega arith) (omega arith))
