-- Each is the general one at `code8 q m`, by computation. A proof that looks into one unfolds the general one.
use Rattle.refusals.specs.Verdicts.{Verdict}
use Rattle.refusals.specs.Answers.{Answer}
use Rattle.std.specs.Prelude.{List, ℕ, ℤ}
use Rattle.layers.specs.Code.{code8, eight_of}
use Rattle.records.specs.Vectors.{Hour}
use Rattle.refusals.specs.declared.settings.Settings.{Settings}
use Rattle.scores.specs.Scores as score
pub use Rattle.scores.specs.Scores.{Scored, total}
unfoldable pub use Rattle.scores.specs.Scores.{inner}

abbrev pub block_pair : ℕ → ℕ → List ℤ → List ℤ → List ℕ → List ℕ → ℤ
block_pair q m = score.block_pair (code8 q m)

abbrev pub block_query : ℕ → ℕ → List ℤ → List ℤ → List ℕ → ℤ
block_query q m = score.block_query (code8 q m)

abbrev pub pair_total : ℕ → ℕ → List ℤ → List ℤ → List ℕ → List ℕ → ℤ
pair_total q m = score.pair_total (code8 q m)

abbrev pub query_total : ℕ → ℕ → List ℤ → List ℤ → List ℕ → ℤ
query_total q m = score.query_total (code8 q m)

abbrev pub check_code : ℕ → ℕ → ℕ → ℕ → ℕ → ℕ → ℕ → List ℕ → Verdict
check_code steps q m = score.check_code steps (code8 q m)

abbrev pub check_pair : Settings → List ℤ → List ℕ → List ℤ → List ℕ → Verdict
check_pair c = score.check_pair (eight_of c) c

abbrev pub check_query : Settings → List ℤ → Hour → List ℕ → Verdict
check_query c = score.check_query (eight_of c) c

abbrev pub pair_score : Settings → List ℤ → List ℕ → List ℤ → List ℕ → Answer
pair_score c = score.pair_score (eight_of c) c

abbrev pub query_score : Settings → List ℤ → Hour → List ℕ → Answer
query_score c = score.query_score (eight_of c) c
