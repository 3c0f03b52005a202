-- `check_fvecs_query` checks the settings and q, then what is lent.
use Rattle.std.specs.Prelude.{Err, ◌≡◌}
use Rattle.std.proofs.Common.{rules, sym, ◌∙◌}
use Rattle.records.specs.Eight.Vectors.{fvecs_hour}
use Rattle.refusals.specs.Laws.Verdicts.{first-last}
use Rattle.tables.proofs.Laws.Filling.{q-taken, asked_is}
use Rattle.tables.proofs.query_table.check_fvecs_query.Goals as goal

pub check_fvecs_lent-requires : goal.check_fvecs_lent-requires
check_fvecs_lent-requires c = q-taken c.args.s (sym c.in_ok-check_q.ensures)

pub returns-in_err-check_q : goal.returns-in_err-check_q
returns-in_err-check_q c = let refused : c.from_residual.result ≡ Err c.in_err-check_q.field-0.0 = search rules in refused ∙ (sym (asked_is c.args.s (fvecs_hour c.args.query.now) c.args.room _ (sym c.in_err-check_q.ensures)))

pub returns : goal.returns
returns c = c.check_fvecs_lent.ensures ∙ sym (first-last _) ∙ sym (asked_is c.args.s (fvecs_hour c.args.query.now) c.args.room _ (sym c.in_ok-check_q.ensures))
