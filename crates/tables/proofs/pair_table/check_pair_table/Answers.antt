-- `check_pair_table` is the settings' check, then those of the table.
use Rattle.std.specs.Prelude.{Err, ◌≡◌}
use Rattle.std.proofs.Common.{rules, sym, ◌∙◌}
use Rattle.coding.specs.Laws.Asked.{checked-allowed}
use Rattle.tables.proofs.Laws.Filling.{pair-table-is}
use Rattle.tables.proofs.pair_table.check_pair_table.Goals as goal

pub check_lent-requires : goal.check_lent-requires
check_lent-requires c = checked-allowed c.args.s (sym c.in_ok-check_settings.ensures)

pub returns-in_err-check_settings : goal.returns-in_err-check_settings
returns-in_err-check_settings c = let refused : c.from_residual.result ≡ Err c.in_err-check_settings.field-0.0 = search rules in refused ∙ (sym (pair-table-is c.args.s c.args.room _ (sym c.in_err-check_settings.ensures)))

pub returns : goal.returns
returns c = c.check_lent.ensures ∙ sym (pair-table-is c.args.s c.args.room _ (sym c.in_ok-check_settings.ensures))
