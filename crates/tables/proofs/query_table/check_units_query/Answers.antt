-- `check_units_query` checks the settings and q, then what is lent.
use Rattle.std.specs.Prelude.{Err}
use Rattle.std.proofs.Common.{rules, ◌≡◌, sym, ◌∙◌, List, [], ◌∷◌, ℕ, ℤ}
use Rattle.records.specs.Eight.Vectors.{Hour, units_hour, check_readings}
use Rattle.refusals.specs.declared.settings.Settings.{Settings}
use Rattle.refusals.specs.Laws.Verdicts.{first-last, first_group}
use Rattle.refusals.specs.Settings.{check_settings}
use Rattle.refusals.specs.Verdicts.{first_refusal, Verdict}
use Rattle.tables.specs.Filling.{check_table, check_query_table, lent_asked}
use Rattle.tables.proofs.Laws.Filling.{q-taken, asked_is, query-table-is}
use Rattle.tables.specs.Tables.{query_most}
use Rattle.tables.proofs.query_table.check_units_query.Goals as goal

module _ (s : Settings) (x : List ℤ) (room : ℕ) where
  abbrev h : Hour
  h = units_hour x

  -- the readings, and all that is checked after q
  abbrev readings : Verdict
  readings = check_readings 0 h.readings

  abbrev lent : Verdict
  lent = first_refusal (lent_asked s h room ∷ readings ∷ [])

  -- by what is said of the settings and q
  decided : (v : Verdict) → v ≡ first_refusal (check_settings s ∷ check_table query_most s ∷ []) → first_refusal (v ∷ lent ∷ []) ≡ check_query_table s h room
  decided v d = let asked : Verdict = lent_asked s h room in
      sym (query-table-is s h room _ (asked_is s h room v (sym d))
      ∙ sym (first_group [] (v ∷ asked ∷ []) (readings ∷ [])) ∙ first_group (v ∷ []) (asked ∷ readings ∷ []) [])

pub check_units_lent-requires : goal.check_units_lent-requires
check_units_lent-requires c = q-taken c.args.s (sym c.in_ok-check_q.ensures)

pub returns-in_err-check_q : goal.returns-in_err-check_q
returns-in_err-check_q c = let refused : c.from_residual.result ≡ Err c.in_err-check_q.field-0.0 = search rules in refused ∙ (decided c.args.s c.args.x.now c.args.room _ c.in_err-check_q.ensures)

pub returns : goal.returns
returns c = c.check_units_lent.ensures ∙ sym (first-last (lent c.args.s c.args.x.now c.args.room)) ∙ decided c.args.s c.args.x.now c.args.room _ c.in_ok-check_q.ensures
