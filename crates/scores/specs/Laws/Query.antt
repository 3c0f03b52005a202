-- The order of a query score, and what its core answers.
use Rattle.std.specs.Prelude.{◌≡◌, refl, ℕ, ◌/◌, ℤ, pos, length, Ok, Err}
use Rattle.std.proofs.Math.Path.{sym, ap, ap₂}
use Rattle.std.proofs.Common.{◌∙◌}
use mathlib.Core.List.{List, [], ◌∷◌}
use Rattle.layers.specs.Code.{Code, size_of}
use Rattle.records.specs.Codes.{RecordTaken}
use Rattle.records.proofs.Laws.Hours.{Sound}
use Rattle.records.specs.Vectors.{Hour, check_readings, units_taken, blocks_of}
use Rattle.refusals.specs.declared.settings.Settings.{Settings}
use Rattle.refusals.specs.declared.Refusal.{Refusal}
use Rattle.refusals.specs.Answers.{valued}
use Rattle.refusals.specs.Laws.Verdicts.{first-accepted, first-last, first-append}
use Rattle.refusals.specs.Settings.{check_settings}
use Rattle.refusals.specs.Steps.{check_steps}
use Rattle.refusals.specs.Verdicts.{first_refusal, Verdict}
use Rattle.scores.specs.Hours.{check_hour}
use Rattle.scores.specs.Laws.Asked.{code-taken, HourTaken, hour-taken}
use Rattle.scores.specs.Scores.{query_total, check_code, check_query, query_score}

module _ (C : Code) (c : Settings) (steps : List ℤ) (h : Hour) (b : List ℕ) where
  abbrev n : ℕ
  n = size_of C

  -- the record, of K blocks
  abbrev code : ℕ → Verdict
  code K = check_code (length steps) C K K 0 0 b

  -- the hour is checked first, then the record
  opened : (v : Verdict) → check_hour c steps h ≡ v → check_query C c steps h b ≡ first_refusal (v ∷ code (blocks_of n h) ∷ [])
  unfolding check_query check_hour
  opened v e =
      first-append (check_settings c ∷ check_steps 0 steps ∷ h.frame ∷ check_readings 0 h.readings ∷ []) (code (blocks_of n h) ∷ [])
      ∙ ap (λ (v : Verdict). first_refusal (v ∷ code (blocks_of n h) ∷ [])) e

  pub query-refused : (r : Refusal) → check_hour c steps h ≡ Err r → check_query C c steps h b ≡ Err r
  query-refused r e = opened (Err r) e

  pub query-last : check_hour c steps h ≡ Ok tt → check_query C c steps h b ≡ code (blocks_of n h)
  query-last e = opened (Ok tt) e ∙ first-last (code (blocks_of n h))

  -- the answer where the hour is refused
  pub query_score-refused : (r : Refusal) → check_hour c steps h ≡ Err r → valued (Err r) (pos 0) ≡ query_score C c steps h b
  unfolding query_score
  query_score-refused r e = ap (λ (v : Verdict). valued v (query_total C steps (units_taken h.readings) b)) (sym (query-refused r e))

  -- and where it is accepted, with X its units
  pub query_score-is : check_hour c steps h ≡ Ok tt → (X : List ℤ) → units_taken h.readings ≡ X → length X ≡ length h.readings
      → valued (code (length X / n)) (query_total C steps X b) ≡ query_score C c steps h b
  unfolding query_score
  query_score-is e X same long = ap₂ (λ (v : Verdict) (X : List ℤ). valued v (query_total C steps X b)) (ap (λ (k : ℕ). code (k / n)) long ∙ sym (query-last e)) (sym same)

-- the hour and the record of an accepted query
pub record QueryTaken (C : Code) (c : Settings) (steps : List ℤ) (h : Hour) (b : List ℕ) : Type 0 where
  pub hour : HourTaken (size_of C) c steps h
  pub code : RecordTaken (length steps) C (blocks_of (size_of C) h) (blocks_of (size_of C) h) b

pub query-taken : (C : Code) (c : Settings) (steps : List ℤ) (h : Hour) (b : List ℕ) → Sound (size_of C) h → check_query C c steps h b ≡ Ok tt → QueryTaken C c steps h b
query-taken C c steps h b sound e =
    let K : ℕ = blocks_of (size_of C) h in let last : Verdict = code C c steps h b K in let t = first-accepted (check_hour c steps h) (last ∷ []) (sym (opened C c steps h b (check_hour c steps h) refl) ∙ e) in
    record {
      hour = hour-taken c steps h (size_of C) sound t.0;
      code = code-taken (length steps) C K K 0 0 b (first-accepted last [] t.1).0;
    }
