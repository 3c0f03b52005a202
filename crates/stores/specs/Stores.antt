-- Stores: code records one after the other, and the best hour of one (01, Scores; When the unit says no).
use Rattle.std.specs.Prelude.{◌≡◌, cond, List, [], ◌∷◌, map, ℕ, suc, ◌+◌, ◌*◌, ◌-◌, ◌/◌, ◌<◌, ltb, ℤ, pos, nat_abs, length, take, drop, Result, Ok}
use Rattle.std.specs.Int.Signed.{lt_z}
use Rattle.layers.specs.Digits.{cut}
use Rattle.records.specs.Eight.Codes.{code_length}
use Rattle.records.specs.Eight.Asked.{RecordTaken}
use Rattle.records.specs.Eight.Vectors.{Hour, check_readings, units_taken, blocks_of}
use Rattle.refusals.specs.declared.settings.Settings.{Settings}
use Rattle.refusals.specs.declared.Refusal.{Refusal}
use Rattle.refusals.specs.declared.Refusal.TheVariants.{EmptyStore}
use Rattle.refusals.specs.Answers.{valued}
use Rattle.refusals.specs.Settings.{check_settings}
use Rattle.refusals.specs.Steps.{check_steps}
use Rattle.refusals.specs.Verdicts.{unless, first_refusal, Verdict}
use Rattle.scores.specs.Eight.Scores.{query_total, check_code}
use Rattle.stores.specs.declared.Best.{Best}

-- ---- which stores are good

-- a store in pieces of n bytes, the last one perhaps shorter
abbrev pub pieces : ℕ → List ℕ → List (List ℕ)
pieces n b = cut n ((length b + (n - 1)) / n) b

-- records of K blocks in turn, the first at the byte o of the store: refusal 10 with the record's offset, or 7 with the byte's, both from the store's start
abbrev pub check_records : ℕ → ℕ → ℕ → ℕ → ℕ → List (List ℕ) → Verdict
check_records steps q m K o [] = Ok tt
check_records steps q m K o (b ∷ l) = first_refusal (check_code steps q m K K o (o + 4) b ∷ check_records steps q m K (o + code_length m K) l ∷ [])

-- refusal 11 where the store has no bytes; then its records
unfoldable pub check_store : ℕ → ℕ → ℕ → ℕ → List ℕ → Verdict
check_store steps q m K b = first_refusal (unless (ltb 0 (length b)) EmptyStore ∷ check_records steps q m K 0 (pieces (code_length m K) b) ∷ [])

-- the bytes of the record i of a store, n bytes a record
abbrev pub record_at : ℕ → List ℕ → ℕ → List ℕ
record_at n b i = take n (drop (n * i) b)

-- what the code relies on, once checked: the store is whole records, at least one, and each is good
pub record StoreTaken (steps q m K : ℕ) (b : List ℕ) : Type 0 where
  pub some : 0 < length b
  pub whole : length b ≡ code_length m K * (length b / code_length m K)
  pub each : (i : ℕ) → i < length b / code_length m K → RecordTaken steps q m K K (record_at (code_length m K) b i)

-- ---- the best of several scores

-- the hour i in place of the best one so far, where its score z is greater
unfoldable pub better : Best → ℕ → ℤ → Best
better b i z = cond (lt_z b.score z) (record { hour = i; score = z }) b

-- the best one so far, then the scores of the hours from i on, one after the other
abbrev pub best_from : Best → ℕ → List ℤ → Best
best_from b i [] = b
best_from b i (z ∷ l) = best_from (better b i z) (suc i) l

-- the greatest of a list of scores, the earliest on equality; hours are numbered from 0
abbrev pub best_of : List ℤ → Best
best_of [] = record { hour = 0; score = pos 0 }
best_of (z ∷ l) = best_from (record { hour = 0; score = z }) 1 l

-- ---- the best hour

-- the best of the query scores of readings X with each record of a store, K blocks a record
unfoldable pub best_in : ℕ → ℕ → List ℤ → List ℤ → ℕ → List ℕ → Best
best_in q m steps X K b = best_of (map (query_total q m steps X) (pieces (code_length m K) b))

-- settings; steps; the query's count; its readings; the store, of as many blocks a record
unfoldable pub check_best : Settings → List ℤ → Hour → List ℕ → Verdict
check_best c steps h b =
    first_refusal (check_settings c ∷ check_steps 0 steps ∷ h.frame ∷ check_readings 0 h.readings ∷ check_store (length steps) (nat_abs c.q) (nat_abs c.m) (blocks_of h) b ∷ [])

-- what a search answers
abbrev pub HourAnswer : Type 0
HourAnswer = Result Best Refusal

-- the hour and its score where the verdict accepts, else the refusal
abbrev pub found : Verdict → Best → HourAnswer
found = valued

-- the whole answer
unfoldable pub best_hour : Settings → List ℤ → Hour → List ℕ → HourAnswer
best_hour c steps h b = found (check_best c steps h b) (best_in (nat_abs c.q) (nat_abs c.m) steps (units_taken h.readings) (blocks_of h) b)
