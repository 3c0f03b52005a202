-- `fill_pair_table` fills the rows and answers how many entries there are where nothing is refused.
use Rattle.refusals.specs.Verdicts.{Verdict}
use Rattle.std.proofs.Common.{rules, sym, ◌∙◌, ap, ◌++◌, ℕ, pos, length, drop}
use Rattle.refusals.specs.Answers.{valued, written}
use Rattle.tables.specs.Filling.{pair_filled, pair_table_room}
use Rattle.tables.specs.Laws.Entries.{pair_table-long}
use Rattle.tables.proofs.Laws.Filling.{pair-table-taken}
use Rattle.tables.specs.Tables.{pair_table}
use Rattle.tables.proofs.pair_table.fill_pair_table.Goals as goal

pub fill_rows-requires : goal.fill_rows-requires
fill_rows-requires c = (c.layer_points.ensures, (pair-table-taken c.args.s (length c.args.entries.now) (sym c.in_ok-check_pair_table.ensures)).fits)

pub returns-in_err-check_pair_table : goal.returns-in_err-check_pair_table
unfolding pair_filled pair_table_room
returns-in_err-check_pair_table c = record {
  answer = (search rules) ∙ ap (λ (v : Verdict). valued v (pos 65536)) c.in_err-check_pair_table.ensures;
  room = ap (λ (v : Verdict). written v pair_table c.args.entries.now) c.in_err-check_pair_table.ensures;
}

pub returns : goal.returns
unfolding pair_filled pair_table_room
returns c = record {
  answer = ap (λ (v : Verdict). valued v (pos 65536)) c.in_ok-check_pair_table.ensures;
  room = c.fill_rows.ensures ∙ ap (λ (n : ℕ). pair_table ++ drop n c.args.entries.now) (sym pair_table-long) ∙ ap (λ (v : Verdict). written v pair_table c.args.entries.now) c.in_ok-check_pair_table.ensures;
}
