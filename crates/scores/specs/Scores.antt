-- Scores: inner products of the points of two records, and of readings with the points of one (01, Scores).
use Rattle.std.specs.Prelude.{List, [], ◌∷◌, ℕ, ◌-◌, ◌^◌, ◌<◌, ◌≤◌, ℤ, pos, ◌+ℤ◌, ◌*ℤ◌, length, get_or}
use Rattle.integers.specs.Floor.{floor_div}
use Rattle.integers.specs.Vectors.{dot, Sized}
use Rattle.layers.specs.Code.{Code, size_of}
use Rattle.records.specs.Codes.{block_size, blocks_in, code_blocks, check_frame, check_blocks, step_of, whole_point}
use Rattle.records.specs.Vectors.{Hour, check_readings, units_taken, blocks_of, in_blocks}
use Rattle.refusals.specs.declared.settings.Settings.{Settings}
use Rattle.refusals.specs.Answers.{valued, Answer}
use Rattle.refusals.specs.Limits.{blocks_most}
use Rattle.refusals.specs.Settings.{check_settings}
use Rattle.refusals.specs.Steps.{check_steps, AllowedSteps}
use Rattle.refusals.specs.Verdicts.{first_refusal, Verdict}

-- f of the first of each list, of the second of each, and so on, together
abbrev pub total : {A B : Type 0} → (A → B → ℤ) → List A → List B → ℤ
total f [] l = pos 0
total f (a ∷ k) [] = pos 0
total f (a ∷ k) (b ∷ l) = f a b +ℤ total f k l

-- the inner product of two points that are held doubled: a quarter of the sum of e_i·f_i
unfoldable pub inner : List ℤ → List ℤ → ℤ
inner e f = floor_div (dot e f) 4

-- two coded blocks, each with its own step list: s·t times the inner product of their points
unfoldable pub block_pair : Code → List ℤ → List ℤ → List ℕ → List ℕ → ℤ
block_pair C steps steps' b b' = (step_of steps b *ℤ step_of steps' b') *ℤ inner (whole_point C b) (whole_point C b')

-- a block of readings and a coded one: s times the sum of X_i·e_i
unfoldable pub block_query : Code → List ℤ → List ℤ → List ℕ → ℤ
block_query C steps X b = step_of steps b *ℤ dot X (whole_point C b)

-- over all blocks: of two code records, in units of 1/1024 squared; of readings and one, in halves of that
unfoldable pub pair_total : Code → List ℤ → List ℤ → List ℕ → List ℕ → ℤ
pair_total C steps steps' b b' = total (block_pair C steps steps') (code_blocks C b) (code_blocks C b')

unfoldable pub query_total : Code → List ℤ → List ℤ → List ℕ → ℤ
query_total C steps X b = total (block_query C steps) (in_blocks (size_of C) X) (code_blocks C b)

-- a code record of least to most blocks: refusal 10 with its place; then refusal 7, the first byte after the dimension having the place `first`
unfoldable pub check_code : ℕ → Code → ℕ → ℕ → ℕ → ℕ → List ℕ → Verdict
check_code steps C least most place first b = first_refusal (check_frame C least most place b ∷ check_blocks steps C.q (block_size C) first (code_blocks C b) ∷ [])

-- settings; the first step list, the second; the first record whole; the second, of as many blocks
unfoldable pub check_pair : Code → Settings → List ℤ → List ℕ → List ℤ → List ℕ → Verdict
check_pair C c steps b steps' b' = let K = blocks_in C b in
    first_refusal (check_settings c ∷ check_steps 0 steps ∷ check_steps 1 steps' ∷ check_code (length steps) C 1 blocks_most 0 0 b ∷ check_code (length steps') C K K 0 0 b' ∷ [])

-- settings; steps; the query's count; its readings; the record, of as many blocks
unfoldable pub check_query : Code → Settings → List ℤ → Hour → List ℕ → Verdict
check_query C c steps h b = let K = blocks_of (size_of C) h in
    first_refusal (check_settings c ∷ check_steps 0 steps ∷ h.frame ∷ check_readings 0 h.readings ∷ check_code (length steps) C K K 0 0 b ∷ [])

-- the whole answers, by the code C that the settings name
unfoldable pub pair_score : Code → Settings → List ℤ → List ℕ → List ℤ → List ℕ → Answer
pair_score C c steps b steps' b' = valued (check_pair C c steps b steps' b') (pair_total C steps steps' b b')

unfoldable pub query_score : Code → Settings → List ℤ → Hour → List ℕ → Answer
query_score C c steps h b = valued (check_query C c steps h b) (query_total C steps (units_taken h.readings) b)

-- ---- what the code relies on, once checked

-- a coded block names one of the steps, and its point's coordinates are narrow
pub record Scored (steps : List ℤ) (b : List ℕ) (e : List ℤ) : Type 0 where
  pub listed : AllowedSteps steps
  pub some : 1 ≤ length b
  pub first : get_or b 0 0 < length steps
  pub narrow : Sized 8 (2 ^ 14 - 1) e
