-- `check_units_asked` checks settings, steps and q, then what is lent and the readings.
use Rattle.std.specs.Prelude.{Err}
use Rattle.std.proofs.Common.{rules, ◌≡◌, sym, ◌∙◌, ap, List, [], ◌∷◌, ℕ, ℤ}
use Rattle.records.specs.Eight.Vectors.{Hour, units_hour, check_readings}
use Rattle.refusals.specs.declared.settings.Settings.{Settings}
use Rattle.refusals.specs.Laws.Verdicts.{first-last, first_group}
use Rattle.refusals.specs.Settings.{check_settings}
use Rattle.refusals.specs.Steps.{check_steps}
use Rattle.refusals.specs.Verdicts.{first_refusal, Verdict}
use Rattle.tables.specs.Filling.{check_table, lent_asked}
use Rattle.tables.specs.Tables.{query_most}
use Rattle.stores.proofs.Laws.Tabled.{first_taken, first-coder, asked_is}
use Rattle.stores.specs.Tabled.{table_asked}
use Rattle.stores.proofs.tabled.check_units_asked.Goals as goal

module _ (s : Settings) (steps : List ℤ) (h : Hour) (room : ℕ) where
  abbrev asked : Verdict
  asked = lent_asked s h room

  abbrev readings : Verdict
  readings = check_readings 0 h.readings

  abbrev lent : Verdict
  lent = first_refusal (asked ∷ readings ∷ [])

  -- by what is said of settings, steps and q
  decided : (v : Verdict) → v ≡ first_refusal (check_settings s ∷ check_steps 0 steps ∷ check_table query_most s ∷ []) → first_refusal (v ∷ lent ∷ []) ≡ first_refusal (table_asked s steps h room ∷ readings ∷ [])
  decided v e = sym (ap (λ (v : Verdict). first_refusal (v ∷ readings ∷ [])) (asked_is s steps h room v (sym e))
      ∙ sym (first_group [] (v ∷ asked ∷ []) (readings ∷ [])) ∙ first_group (v ∷ []) (asked ∷ readings ∷ []) [])

pub check_units_lent-requires : goal.check_units_lent-requires
check_units_lent-requires c = let a = c.args in let t = first_taken a.s a.steps.now (sym c.in_ok-check_coder_table.ensures) in ((first-coder a.s a.steps.now t).allowed, t.most)

pub returns-in_err-check_coder_table : goal.returns-in_err-check_coder_table
returns-in_err-check_coder_table c = let refused : c.from_residual.result ≡ Err c.in_err-check_coder_table.field-0.0 = search rules in refused ∙ (let a = c.args in decided a.s a.steps.now (units_hour a.x.now) a.room _ c.in_err-check_coder_table.ensures)

pub returns : goal.returns
returns c = let a = c.args in
    c.check_units_lent.ensures ∙ sym (first-last (lent a.s a.steps.now (units_hour a.x.now) a.room)) ∙ decided a.s a.steps.now (units_hour a.x.now) a.room _ c.in_ok-check_coder_table.ensures
