-- `mends` makes the list choice by choice.
use Rattle.std.proofs.Common.{rules, pos}
use Rattle.integers.specs.Laws.Arrays.{from_fn-range}
use Rattle.slices.specs.Sums.{mend_at}
use Rattle.slices.proofs.sums.mends.Goals as goal

pub returns : goal.returns
returns c = from_fn-range _ (mend_at c.args.s c.args.x.now) (pos 0) c.from_fn.ensures.items (λ k y q l e. search rules)
