-- Each of the eight entries is the greater of its two numbers.
use Rattle.std.proofs.Common.{rules}
use Rattle.records.specs.Laws.Glance.{raised-each}
use Rattle.records.proofs.codes.raised.Goals as goal

pub returns : goal.returns
returns c = raised-each _ c.args.top.now c.args.ds.now c.args.at c.from_fn.ensures.items (λ k y q l e. search rules)
