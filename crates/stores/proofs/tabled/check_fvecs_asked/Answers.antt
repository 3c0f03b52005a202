-- `check_fvecs_asked` checks settings, steps and q, then what is lent.
use Rattle.std.specs.Prelude.{Err, ◌≡◌}
use Rattle.std.proofs.Common.{rules, sym, ◌∙◌}
use Rattle.records.specs.Eight.Vectors.{fvecs_hour}
use Rattle.refusals.specs.Laws.Verdicts.{first-last}
use Rattle.tables.specs.Filling.{lent_asked}
use Rattle.stores.proofs.Laws.Tabled.{first_taken, first-coder, asked_is}
use Rattle.stores.proofs.tabled.check_fvecs_asked.Goals as goal

pub check_fvecs_lent-requires : goal.check_fvecs_lent-requires
check_fvecs_lent-requires c = let a = c.args in let t = first_taken a.s a.steps.now (sym c.in_ok-check_coder_table.ensures) in ((first-coder a.s a.steps.now t).allowed, t.most)

pub returns-in_err-check_coder_table : goal.returns-in_err-check_coder_table
returns-in_err-check_coder_table c = let refused : c.from_residual.result ≡ Err c.in_err-check_coder_table.field-0.0 = search rules in refused ∙ (let a = c.args in sym (asked_is a.s a.steps.now (fvecs_hour a.query.now) a.room _ (sym c.in_err-check_coder_table.ensures)))

pub returns : goal.returns
returns c = let a = c.args in let h = fvecs_hour a.query.now in
    c.check_fvecs_lent.ensures ∙ sym (first-last (lent_asked a.s h a.room)) ∙ sym (asked_is a.s a.steps.now h a.room _ (sym c.in_ok-check_coder_table.ensures))
