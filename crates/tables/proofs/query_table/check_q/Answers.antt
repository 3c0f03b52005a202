-- `check_q` is the settings' check, then that of q.
use Rattle.std.proofs.Common.{sym}
use Rattle.coding.specs.Laws.Asked.{checked-allowed}
use Rattle.tables.proofs.query_table.check_q.Goals as goal

pub check_table-requires : goal.check_table-requires
check_table-requires c = checked-allowed c.args.s (sym c.in_ok-check_settings.ensures)
