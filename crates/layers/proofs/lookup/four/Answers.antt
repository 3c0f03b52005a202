-- `four` sums its four digits, each in its byte.
use native.Mathlib.Omega.{arith}
use Rattle.layers.specs.Laws.Entries.{word-is}
use Rattle.layers.proofs.lookup.four.Goals as goal

pub returns : goal.returns
returns c = let s = c.before.before.before.before.before.before.before.before.before in
    omega (arith, c.before.before.before.before.before.before.wide.ensures.0, c.before.before.before.before.wide-2.ensures.0, c.before.before.wide-3.ensures.0, c.wide-4.ensures.0, word-is s.args.ds.now s.args.at s.requires)
