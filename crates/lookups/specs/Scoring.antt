-- Scoring by table: sums of what the lent table holds, whatever it holds (01, Scores).
use Rattle.std.specs.Prelude.{List, [], ◌∷◌, ℕ, ◌+◌, ◌*◌, ℤ, nat_abs, ◌*ℤ◌, length, drop}
use Rattle.integers.specs.Vectors.{«at»}
use Rattle.layers.specs.Digits.{cut, entry_of}
use Rattle.layers.specs.Sums.{layer_sum, pair_sum}
use Rattle.records.specs.Eight.Codes.{block_size, blocks_in, code_blocks, check_frame, check_blocks, step_of}
use Rattle.refusals.specs.declared.settings.Settings.{Settings}
use Rattle.refusals.specs.Answers.{valued, Answer}
use Rattle.refusals.specs.Limits.{blocks_most}
use Rattle.refusals.specs.Settings.{check_settings}
use Rattle.refusals.specs.Steps.{check_steps}
use Rattle.refusals.specs.Verdicts.{first_refusal, Verdict}
use Rattle.scores.specs.Eight.Scores.{total, check_code}
use Rattle.tables.specs.Filling.{check_table, check_entries}
use Rattle.tables.specs.Tables.{pair_most, query_most, pair_size, part_size}

-- ---- by the pair table

-- the entry of two layers: i is the number of the first record's layer, j that of the second's
abbrev pub pair_entry : List ℤ → List ℕ → List ℕ → ℤ
pair_entry t d e = «at» t (256 * entry_of 2 d + entry_of 2 e)

-- two coded blocks: s·t times the sum of the entries of their layers, layer i with layer j counted 2^(i+j) times
unfoldable pub block_pair_by : ℕ → List ℤ → List ℤ → List ℤ → List ℕ → List ℕ → ℤ
block_pair_by m steps steps' t b b' = (step_of steps b *ℤ step_of steps' b') *ℤ pair_sum 2 0 (pair_entry t) (cut 8 m (drop 1 b)) (cut 8 m (drop 1 b'))

-- over all blocks of two records
unfoldable pub pair_total_by : ℕ → List ℤ → List ℤ → List ℤ → List ℕ → List ℕ → ℤ
pair_total_by m steps steps' t b b' = total (block_pair_by m steps steps' t) (code_blocks m b) (code_blocks m b')

-- settings; the first step list, the second; q; the table's length; the first record whole; the second, of as many blocks
unfoldable pub check_pair_by : Settings → List ℤ → List ℕ → List ℤ → List ℕ → ℕ → Verdict
check_pair_by c steps b steps' b' room = let q = nat_abs c.q in let m = nat_abs c.m in let K = blocks_in m b in
    first_refusal (check_settings c ∷ check_steps 0 steps ∷ check_steps 1 steps' ∷ check_table pair_most c ∷ check_entries pair_size room
    ∷ check_code (length steps) q m 1 blocks_most 0 0 b ∷ check_code (length steps') q m K K 0 0 b' ∷ [])

-- the whole answer
unfoldable pub pair_score_by : Settings → List ℤ → List ℕ → List ℤ → List ℕ → List ℤ → Answer
pair_score_by c steps b steps' b' t = valued (check_pair_by c steps b steps' b' (length t)) (pair_total_by (nat_abs c.m) steps steps' t b b')

-- ---- by the query table

-- a coded block and its part p of the table: s times the sum of the entries of its layers, layer m counted q^m times
unfoldable pub block_query_by : ℕ → ℕ → List ℤ → List ℤ → List ℕ → ℤ
block_query_by q m steps p b = step_of steps b *ℤ layer_sum q 0 (λ ds. «at» p (entry_of q ds)) (cut 8 m (drop 1 b))

-- over all blocks of a record
unfoldable pub query_total_by : ℕ → ℕ → List ℤ → List ℤ → List ℕ → ℤ
query_total_by q m steps t b = total (block_query_by q m steps) (cut (part_size q) (blocks_in m b) t) (code_blocks m b)

-- the record's frame; the table's length, K·q^8 with the record's K; the record's bytes
unfoldable pub record_by : ℕ → ℕ → ℕ → List ℕ → ℕ → Verdict
record_by steps q m b room = first_refusal (check_frame m 1 blocks_most 0 b ∷ check_entries (part_size q * blocks_in m b) room ∷ check_blocks steps q (block_size m) 0 (code_blocks m b) ∷ [])

-- settings; steps; q; then the record and the table
unfoldable pub check_query_by : Settings → List ℤ → List ℕ → ℕ → Verdict
check_query_by c steps b room = first_refusal (check_settings c ∷ check_steps 0 steps ∷ check_table query_most c ∷ record_by (length steps) (nat_abs c.q) (nat_abs c.m) b room ∷ [])

-- the whole answer
unfoldable pub query_score_by : Settings → List ℤ → List ℕ → List ℤ → Answer
query_score_by c steps b t = valued (check_query_by c steps b (length t)) (query_total_by (nat_abs c.q) (nat_abs c.m) steps t b)
