-- `check_coder_table` is the list of checks; the first two are made as one.
use Rattle.std.proofs.Common.{sym}
use Rattle.records.specs.Eight.Asked.{coder-accepted}
use Rattle.stores.proofs.tabled.check_coder_table.Goals as goal

pub check_table-requires : goal.check_table-requires
check_table-requires c = (coder-accepted c.args.s c.args.steps.now (sym c.in_ok-check_coder.ensures)).allowed
