-- The best hour by a lent table: what is checked, the answer, and the table afterwards (01, Scores; When the unit says no).
use Rattle.std.specs.Prelude.{◌≡◌, List, [], ◌∷◌, ◌++◌, ℕ, ◌<◌, ◌≤◌, ℤ, nat_abs, length}
use Rattle.records.specs.Eight.Vectors.{Hour, check_readings, units_taken, blocks_of}
use Rattle.refusals.specs.declared.settings.Settings.{Settings}
use Rattle.refusals.specs.Answers.{written}
use Rattle.refusals.specs.Settings.{check_settings}
use Rattle.refusals.specs.Steps.{check_steps}
use Rattle.refusals.specs.Verdicts.{first_refusal, Verdict}
use Rattle.tables.specs.Filling.{check_table, lent_asked}
use Rattle.tables.specs.Tables.{query_most, query_table}
use Rattle.stores.specs.Stores.{check_store, best_in, found, HourAnswer}

-- what scores are looked up in: nothing, or entries that the table of the readings X stands in front of
abbrev pub LookUp : ℕ → List ℤ → List ℤ → Type 0
LookUp q X t = 0 < length t → (q ≤ query_most) × ((rest : List ℤ) × (t ≡ query_table q X ++ rest))

-- settings; steps; q; the query's count and the table's length
unfoldable pub table_asked : Settings → List ℤ → Hour → ℕ → Verdict
table_asked c steps h room = first_refusal (check_settings c ∷ check_steps 0 steps ∷ check_table query_most c ∷ lent_asked c h room ∷ [])

-- these; then the query's readings; the store, of as many blocks a record
unfoldable pub check_best_by : Settings → List ℤ → Hour → List ℕ → ℕ → Verdict
check_best_by c steps h b room = first_refusal (table_asked c steps h room ∷ check_readings 0 h.readings ∷ check_store (length steps) (nat_abs c.q) (nat_abs c.m) (blocks_of h) b ∷ [])

-- the whole answer: hour and score are those of the plain search; and the lent table afterwards
unfoldable pub best_hour_by : Settings → List ℤ → Hour → List ℕ → ℕ → HourAnswer
best_hour_by c steps h b room = found (check_best_by c steps h b room) (best_in (nat_abs c.q) (nat_abs c.m) steps (units_taken h.readings) (blocks_of h) b)

unfoldable pub best_hour_table : Settings → List ℤ → Hour → List ℕ → List ℤ → List ℤ
best_hour_table c steps h b out = written (check_best_by c steps h b (length out)) (query_table (nat_abs c.q) (units_taken h.readings)) out
