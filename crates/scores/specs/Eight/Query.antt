use Rattle.refusals.specs.Verdicts.{Verdict}
use Rattle.std.specs.Prelude.{◌≡◌, List, ℕ, ◌/◌, ℤ, pos, nat_abs, length, Ok, Err}
use Rattle.layers.specs.Code.{eight_of}
use Rattle.records.proofs.Eight.Hours.{Sound}
use Rattle.records.specs.Eight.Vectors.{Hour, units_taken, blocks_of}
use Rattle.refusals.specs.declared.settings.Settings.{Settings}
use Rattle.refusals.specs.declared.Refusal.{Refusal}
use Rattle.refusals.specs.Answers.{valued}
use Rattle.scores.specs.Eight.Scores.{query_total, check_code, check_query, query_score}
use Rattle.scores.specs.Hours.{check_hour}
use Rattle.scores.specs.Laws.Query as query

abbrev pub QueryTaken : Settings → List ℤ → Hour → List ℕ → Type 0
QueryTaken c = query.QueryTaken (eight_of c) c

pub query-taken : (c : Settings) (steps : List ℤ) (h : Hour) (b : List ℕ) → Sound h → check_query c steps h b ≡ Ok tt → QueryTaken c steps h b
query-taken c = query.query-taken (eight_of c) c

module _ (c : Settings) (steps : List ℤ) (h : Hour) (b : List ℕ) where
  abbrev code : ℕ → Verdict
  code K = check_code (length steps) (nat_abs c.q) (nat_abs c.m) K K 0 0 b

  pub query-last : check_hour c steps h ≡ Ok tt → check_query c steps h b ≡ code (blocks_of h)
  query-last = query.query-last (eight_of c) c steps h b

  pub query_score-refused : (r : Refusal) → check_hour c steps h ≡ Err r → valued (Err r) (pos 0) ≡ query_score c steps h b
  query_score-refused = query.query_score-refused (eight_of c) c steps h b

  pub query_score-is : check_hour c steps h ≡ Ok tt → (X : List ℤ) → units_taken h.readings ≡ X → length X ≡ length h.readings
      → valued (code (length X / 8)) (query_total (nat_abs c.q) (nat_abs c.m) steps X b) ≡ query_score c steps h b
  query_score-is = query.query_score-is (eight_of c) c steps h b
