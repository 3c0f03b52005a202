-- `column` takes the entry t of each row.
use Rattle.std.proofs.Common.{rules, [], get_or}
use Rattle.integers.specs.Laws.Arrays.{from_fn-map}
use Rattle.columns.proofs.column.Goals as goal

pub returns : goal.returns
returns g c = λ blank. from_fn-map _ (λ row. get_or row c.args.t blank) c.args.rows.now [] blank c.requires.1.long c.from_fn.ensures.items (λ k y q l e. search rules)
