-- `fill_units` fills as many parts as X has blocks, and answers how many entries these are.
use Rattle.std.proofs.Common.{sym, ◌∙◌, ap, ◌++◌, ℕ, nat_abs, length, drop}
use mir.Facts.{to_z-of_z}
use Rattle.records.specs.Laws.Frames.{blocks-whole}
use Rattle.refusals.specs.Limits.{blocks_most}
use Rattle.tables.specs.Laws.Entries.{query_table-long}
use Rattle.tables.specs.Tables.{query_table}
use Rattle.tables.proofs.query_table.fill_units.Goals as goal

pub fill_blocks-requires : goal.fill_blocks-requires
fill_blocks-requires c =
    let X = c.args.x.now in
    let whole = blocks-whole 8 1 blocks_most (length X) c.requires.2.whole in
    simp (to_z-of_z, c.ranges.q) (c.requires.0, c.requires.1, record { long = whole.times; small = c.requires.2.small }, c.requires.3, whole.few)

pub returns-clause-room : goal.returns-clause-room
unfolding query_table
returns-clause-room c =
    let q = nat_abs c.args.q in
    let X = c.args.x.now in
    (simp (to_z-of_z, c.ranges.q) at c.fill_blocks.ensures) ∙ ap (λ (n : ℕ). query_table q X ++ drop n c.args.entries.now) (sym (query_table-long q X))
