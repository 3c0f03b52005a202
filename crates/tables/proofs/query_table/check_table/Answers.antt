-- `check_table` is one test.
use mathlib.Core.Path.{sym, ap}
use mathlib.Core.Bool.{Bool}
use native.Mathlib.Omega.{arith}
use borrow.Author.Tests.{le-leb, lt-leb}
use lib.IntN.{nat_abs}
use Rattle.refusals.specs.declared.Refusal.TheVariants.{Table}
use Rattle.refusals.specs.Verdicts.{unless}
use Rattle.tables.proofs.query_table.check_table.Goals as goal

pub digit_values-requires : goal.digit_values-requires
digit_values-requires c = c.requires

pub returns-then-digit_values-le-QUERY_MOST : goal.returns-then-digit_values-le-QUERY_MOST
returns-then-digit_values-le-QUERY_MOST c = let d = c.before in sym (ap (λ (t : Bool). unless t Table) (le-leb (nat_abs d.before.args.s.q) 4 (omega (arith, d.digit_values.ensures, c.if-digit_values-le-QUERY_MOST.true))))

pub returns-else-digit_values-le-QUERY_MOST : goal.returns-else-digit_values-le-QUERY_MOST
returns-else-digit_values-le-QUERY_MOST c = let d = c.before in sym (ap (λ (t : Bool). unless t Table) (lt-leb (nat_abs d.before.args.s.q) 4 (omega (arith, d.digit_values.ensures, c.if-digit_values-le-QUERY_MOST.false))))
