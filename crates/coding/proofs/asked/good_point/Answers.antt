-- Numbers that pass the first test are in the reach of the second.
use Rattle.std.proofs.Common.{sym, ◌∙◌, ◌^◌, arith}
use Rattle.integers.specs.Laws.Sums.{sized-more}
use Rattle.integers.specs.Laws.Tests.{sized-small}
use Rattle.refusals.specs.Limits.{point_most}
use Rattle.coding.proofs.asked.good_point.Goals as goal

pub is_point-requires : goal.is_point-requires
is_point-requires c = let e = c.args.e.now in
    rw c.widen.ensures (sized-more 8 point_most e (sized-small 8 point_most e c.requires (sym c.small.ensures ∙ c.if-small.true)) (2 ^ 32) (omega arith))
