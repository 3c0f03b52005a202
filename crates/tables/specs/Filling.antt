-- Filling the tables: what is checked in which order, the answer, and the lent table afterwards (01, Scores; When the unit says no).
use Rattle.std.specs.Prelude.{List, [], ◌∷◌, ℕ, ◌*◌, leb, ℤ, pos, nat_abs, length}
use Rattle.records.specs.Eight.Vectors.{Hour, check_readings, units_taken, blocks_of}
use Rattle.refusals.specs.declared.settings.Settings.{Settings}
use Rattle.refusals.specs.declared.Refusal.TheVariants.{Table, Size}
use Rattle.refusals.specs.Answers.{valued, written, Answer}
use Rattle.refusals.specs.Settings.{check_settings}
use Rattle.refusals.specs.Verdicts.{unless, first_refusal, Verdict}
use Rattle.tables.specs.Tables.{pair_most, query_most, pair_size, part_size, pair_table, query_table}

-- refusal 8 where q is past the greatest that the table is for
abbrev pub check_table : ℕ → Settings → Verdict
check_table most c = unless (leb (nat_abs c.q) most) Table

-- refusal 3, place 2, where the lent table has fewer than n entries
abbrev pub check_entries : ℕ → ℕ → Verdict
check_entries n room = unless (leb n room) (Size 2)

-- ---- the pair table

-- settings; q; the table's length
unfoldable pub check_pair_table : Settings → ℕ → Verdict
check_pair_table c room = first_refusal (check_settings c ∷ check_table pair_most c ∷ check_entries pair_size room ∷ [])

-- the whole answer: how many entries were filled
unfoldable pub pair_filled : Settings → ℕ → Answer
pair_filled c room = valued (check_pair_table c room) (pos pair_size)

-- the lent table afterwards
unfoldable pub pair_table_room : Settings → List ℤ → List ℤ
pair_table_room c out = written (check_pair_table c (length out)) pair_table out

-- ---- the query table

-- the query's count; the table's length, K·q^8
abbrev pub lent_asked : Settings → Hour → ℕ → Verdict
lent_asked c h room = first_refusal (h.frame ∷ check_entries (part_size (nat_abs c.q) * blocks_of h) room ∷ [])

-- settings; q; the query's count; the table's length
unfoldable pub query_table_asked : Settings → Hour → ℕ → Verdict
query_table_asked c h room = first_refusal (check_settings c ∷ check_table query_most c ∷ h.frame ∷ check_entries (part_size (nat_abs c.q) * blocks_of h) room ∷ [])

-- these; then its readings
unfoldable pub check_query_table : Settings → Hour → ℕ → Verdict
check_query_table c h room = first_refusal (query_table_asked c h room ∷ check_readings 0 h.readings ∷ [])

-- the whole answer: how many entries were filled
unfoldable pub query_filled : Settings → Hour → ℕ → Answer
query_filled c h room = valued (check_query_table c h room) (pos (part_size (nat_abs c.q) * blocks_of h))

-- the lent table afterwards
unfoldable pub query_table_room : Settings → Hour → List ℤ → List ℤ
query_table_room c h out = written (check_query_table c h (length out)) (query_table (nat_abs c.q) (units_taken h.readings)) out
