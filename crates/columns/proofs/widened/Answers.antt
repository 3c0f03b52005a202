-- `widened` makes each digit a coefficient; a digit fits.
use Rattle.std.proofs.Common.{rules, pos}
use Rattle.integers.specs.Laws.Arrays.{from_fn-map}
use Rattle.columns.proofs.widened.Goals as goal

pub returns : goal.returns
returns c = from_fn-map _ pos c.args.ds.now 0 (pos 0) c.requires.long c.from_fn.ensures.items (λ k y q l e. search rules)
