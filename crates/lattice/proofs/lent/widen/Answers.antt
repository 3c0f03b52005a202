-- A number of 32 bits fits 64.
use Rattle.std.proofs.Common.{rules, pos}
use Rattle.integers.specs.Laws.Arrays.{from_fn-list}
use Rattle.lattice.proofs.lent.widen.Goals as goal

pub returns : goal.returns
returns c = from_fn-list _ c.args.a.now (pos 0) c.requires c.from_fn.ensures.items (λ k y q l e. search rules)
