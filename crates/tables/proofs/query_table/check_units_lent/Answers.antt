-- `check_units_lent` is the list of checks, one after the other.
use Rattle.std.proofs.Common.{sym, ◌∙◌, length}
use Rattle.records.specs.Laws.Frames.{blocks-whole}
use Rattle.refusals.specs.Limits.{blocks_most}
use Rattle.tables.proofs.query_table.check_units_lent.Goals as goal

pub check_entries-requires : goal.check_entries-requires
check_entries-requires c = (c.requires.0, c.requires.1, (blocks-whole 8 1 blocks_most (length c.args.x.now) (sym c.whole_blocks.ensures ∙ c.if-whole_blocks.true)).few)
