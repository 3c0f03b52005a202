-- `query_score_by_table` is the list of checks and the score: the first two checks are made as one, and those of the record and the table with the score.
use Rattle.std.proofs.Common.{rules, ◌≡◌, refl, sym, ◌∙◌, ap, List, [], ◌∷◌, ℕ, ℤ, nat_abs, length}
use Rattle.records.specs.Eight.Asked.{coder-accepted}
use Rattle.refusals.specs.declared.settings.Settings.{Settings}
use Rattle.refusals.specs.Answers.{valued}
use Rattle.refusals.specs.Laws.Verdicts.{first-last}
use Rattle.refusals.specs.Settings.{check_settings}
use Rattle.refusals.specs.Steps.{check_steps}
use Rattle.refusals.specs.Verdicts.{first_refusal, Verdict}
use Rattle.tables.specs.Filling.{check_table}
use Rattle.tables.proofs.Laws.Filling.{table_taken}
use Rattle.tables.specs.Tables.{query_most}
use Rattle.lookups.specs.Laws.Scoring.{query-by-is}
use Rattle.lookups.specs.Scoring.{query_total_by, record_by, query_score_by}
use Rattle.lookups.proofs.query_score.query_score_by_table.Goals as goal

module _ (s : Settings) (steps : List ℤ) (b : List ℕ) (t : List ℤ) where
  abbrev rest : Verdict
  rest = record_by (length steps) (nat_abs s.q) (nat_abs s.m) b (length t)

  abbrev value : ℤ
  value = query_total_by (nat_abs s.q) (nat_abs s.m) steps t b

  decided : (v w : Verdict) → v ≡ first_refusal (check_settings s ∷ check_steps 0 steps ∷ []) → w ≡ check_table query_most s
      → valued (first_refusal (v ∷ w ∷ rest ∷ [])) value ≡ query_score_by s steps b t
  unfolding query_score_by
  decided v w d e = ap (λ (v : Verdict). valued v value) (sym (query-by-is s steps b (length t) v w (sym d) (sym e)))

pub check_table-requires : goal.check_table-requires
check_table-requires c = (coder-accepted c.args.s c.args.steps.now (sym c.in_ok-check_coder.ensures)).allowed

pub score_record-requires : goal.score_record-requires
score_record-requires c = (coder-accepted c.args.s c.args.steps.now (sym c.in_ok-check_coder.ensures), table_taken query_most c.args.s (sym c.in_ok-check_table.ensures))

pub returns-in_err-check_coder : goal.returns-in_err-check_coder
returns-in_err-check_coder c = let a = c.args in record { answer = (search rules) ∙ decided a.s a.steps.now a.code.now a.table.now _ _ c.in_err-check_coder.ensures refl }

pub returns-in_err-check_table : goal.returns-in_err-check_table
returns-in_err-check_table c = let a = c.args in
    record { answer = (search rules) ∙ decided a.s a.steps.now a.code.now a.table.now _ _ c.in_ok-check_coder.ensures c.in_err-check_table.ensures }

pub returns : goal.returns
returns c = let a = c.args in record {
  answer = c.score_record.ensures
      ∙ ap (λ (v : Verdict). valued v (value a.s a.steps.now a.code.now a.table.now)) (sym (first-last (rest a.s a.steps.now a.code.now a.table.now)))
      ∙ decided a.s a.steps.now a.code.now a.table.now _ _ c.in_ok-check_coder.ensures c.in_ok-check_table.ensures;
}
