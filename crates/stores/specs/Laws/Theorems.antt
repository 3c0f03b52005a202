-- What a search says: the store is whole records, the hour's score is its record's own, none is greater and each earlier one is smaller; what is refused, and by which place.
use Rattle.readings.specs.declared.Fault.TheVariants as fault
use Rattle.readings.specs.Taking.{Measured}
use Rattle.std.specs.Result.{result_unwrap_or}
use Rattle.std.specs.Prelude.{◌≡◌, true, ℕ, ◌+◌, ◌*◌, ◌/◌, ◌<◌, ℤ, nat_abs, length, get_or, ◌≤ℤ◌, ◌<ℤ◌, Ok, Err, pos}
use Rattle.std.proofs.Common.{sym, ◌∙◌, subst, arith}
use Rattle.std.proofs.Math.Path.{ap}
use mathlib.Core.List.{List, [], ◌∷◌, map}
use Rattle.std.specs.Float.{binary32}
use Rattle.std.specs.Float.Ieee.{nan_bits}
use Rattle.std.proofs.lemmas.List.{length-map}
use Rattle.integers.specs.Laws.Loops.{map_at}
use Rattle.integers.specs.Vectors.{«at»}
use Rattle.layers.specs.Digits.{cut}
use Rattle.readings.specs.Words.{word_at, measure_at}
use Rattle.records.specs.Eight.Codes.{code_length}
use Rattle.records.proofs.Eight.Hours.{Sound, fvecs-count, fvecs-reading, word-missing}
use Rattle.records.specs.Laws.Parts.{cut-long, cut_at}
use Rattle.records.proofs.Laws.Vectors.{AllUnits, first-missing, first-beyond}
use Rattle.records.specs.Eight.Vectors.{Hour, fvecs_hour, units_taken, blocks_of}
use Rattle.refusals.specs.declared.settings.Settings.{Settings}
use Rattle.refusals.specs.declared.Refusal.TheVariants.{Missing, OutOfRange, EmptyStore}
use Rattle.refusals.specs.Answers.{valued, Answer}
use Rattle.refusals.specs.Settings.{check_settings}
use Rattle.refusals.specs.Steps.{check_steps}
use Rattle.refusals.specs.Verdicts.{first_refusal, Verdict}
use Rattle.scores.specs.Hours.{check_hour}
use Rattle.scores.specs.Laws.Asked.{hour-last}
use Rattle.scores.specs.Eight.Query.{query-last}
use Rattle.scores.specs.Eight.Scores.{query_total, query_score}
use Rattle.stores.specs.Laws.Asked.{code-accepted, pieces_are, some-records, store-accepted, empty-store}
use Rattle.stores.specs.Laws.Best.{IsBest, best-is}
use Rattle.stores.specs.Laws.Search.{search-refused, search-last, SearchTaken, search-taken}
use Rattle.stores.specs.Stores.{StoreTaken, pieces, record_at, best_of, best_in, check_best, HourAnswer, found, best_hour}
use Rattle.stores.specs.declared.Best.{Best}

-- ---- an accepted search

module _ (c : Settings) (steps : List ℤ) (h : Hour) (b : List ℕ) (sound : Sound h) (ok : check_best c steps h b ≡ Ok tt) where
  abbrev q : ℕ
  q = nat_abs c.q

  abbrev m : ℕ
  m = nat_abs c.m

  -- the bytes of a record, and how many records there are
  abbrev size : ℕ
  size = code_length m (blocks_of h)

  abbrev count : ℕ
  count = length b / size

  abbrev answer : Best
  answer = result_unwrap_or (best_hour c steps h b) (record { hour = 0; score = pos 0 })

  -- the query score of the record i, taken by itself
  abbrev alone : ℕ → Answer
  alone i = query_score c steps h (record_at size b i)

  abbrev f : List ℕ → ℤ
  f = query_total q m steps (units_taken h.readings)

  abbrev scores : List ℤ
  scores = map f (cut size count b)

  taken : SearchTaken c steps h b
  taken = search-taken c steps h b sound ok

  answer-is : best_hour c steps h b ≡ found (Ok tt) (best_of scores)
  unfolding best_hour best_in
  answer-is = ap (λ (v : Verdict). found v (best_of (map f (pieces size b)))) ok ∙ ap (λ (l : List (List ℕ)). found (Ok tt) (best_of (map f l))) (pieces_are (length steps) q m (blocks_of h) b taken.store)

  best-is-answer : answer ≡ best_of scores
  best-is-answer = ap (λ (a : HourAnswer). result_unwrap_or a (record { hour = 0; score = pos 0 })) answer-is

  many : length scores ≡ count
  many = length-map (cut size count b) f ∙ cut-long size count b

  best : IsBest scores (best_of scores)
  best = best-is scores (omega (arith, many, some-records (length steps) q m (blocks_of h) b taken.store))

  score-at : (i : ℕ) → i < count → «at» scores i ≡ f (record_at size b i)
  score-at i k = map_at f (cut size count b) i [] _ (omega (arith, cut-long size count b)) ∙ ap f (cut_at size count i b k)

  alone-is : (i : ℕ) → i < count → alone i ≡ valued (Ok tt) («at» scores i)
  unfolding Rattle.scores.specs.Scores.query_score
  alone-is i k =
      ap (λ (v : Verdict). valued v (f (record_at size b i))) (query-last c steps h (record_at size b i) taken.accepted ∙ code-accepted (length steps) q m (blocks_of h) 0 0 (record_at size b i) (taken.store.each i k))
      ∙ ap (valued (Ok tt)) (sym (score-at i k))

  -- the store is so many whole records
  pub search-whole : length b ≡ count * size
  search-whole = let e : size * count ≡ count * size = omega arith in taken.store.whole ∙ e

  -- the hour is one of them
  pub search-within : answer.hour < count
  search-within = let e : answer.hour ≡ (best_of scores).hour = ap (λ (a : Best). a.hour) best-is-answer in omega (arith, best.within, many)

  -- its score is the query score of that record, taken by itself
  pub search-score : alone answer.hour ≡ valued (Ok tt) answer.score
  search-score = alone-is answer.hour search-within ∙ ap (λ (a : Best). valued (Ok tt) («at» scores a.hour)) best-is-answer ∙ ap (valued (Ok tt)) (best.own ∙ ap (λ (a : Best). a.score) (sym best-is-answer))

  -- no stored record scores more
  pub search-greatest : (i : ℕ) → i < count → result_unwrap_or (alone i) (pos 0) ≤ℤ answer.score
  search-greatest i k = rw (alone-is i k, best-is-answer) (best.greatest i (omega (arith, many)))

  -- and each earlier one less
  pub search-earliest : (i : ℕ) → i < answer.hour → result_unwrap_or (alone i) (pos 0) <ℤ answer.score
  search-earliest i k = rw (alone-is i (omega (arith, search-within)), best-is-answer) (best.earliest i (subst (λ (a : Best). i < a.hour) best-is-answer k))

-- ---- what is refused

module _ (c : Settings) (steps : List ℤ) (h : Hour) (accepted : check_hour c steps h ≡ Ok tt) where
  -- a store of no bytes by 11
  pub empty-refused : check_best c steps h [] ≡ Err EmptyStore
  empty-refused = search-last c steps h [] accepted ∙ empty-store (length steps) (nat_abs c.q) (nat_abs c.m) (blocks_of h)

  -- a good store never, so neither by 10 nor by 7
  pub good-accepted : (b : List ℕ) → StoreTaken (length steps) (nat_abs c.q) (nat_abs c.m) (blocks_of h) b → check_best c steps h b ≡ Ok tt
  good-accepted b good = search-last c steps h b accepted ∙ store-accepted (length steps) (nat_abs c.q) (nat_abs c.m) (blocks_of h) b good

module _ (c : Settings) (steps : List ℤ) (h : Hour) (b : List ℕ) (asked : first_refusal (check_settings c ∷ check_steps 0 steps ∷ h.frame ∷ []) ≡ Ok tt)
    (i : ℕ) (d : Measured) (within : i < length h.readings) (before : AllUnits i h.readings d) where
  -- the first reading that is missing is named by 4, whatever the store is
  pub null-refused : get_or h.readings i d ≡ Err fault.Missing → check_best c steps h b ≡ Err (Missing i)
  null-refused e = search-refused c steps h b (Missing i) (hour-last c steps h asked ∙ first-missing i h.readings d within before e)

  -- and the first that is out of range by 5
  pub beyond-refused : get_or h.readings i d ≡ Err fault.OutOfRange → check_best c steps h b ≡ Err (OutOfRange i)
  beyond-refused e = search-refused c steps h b (OutOfRange i) (hour-last c steps h asked ∙ first-beyond i h.readings d within before e)

-- so the first NaN of an fvecs record is named by 4
pub nan-refused : (c : Settings) (steps : List ℤ) (r b : List ℕ) (i : ℕ) → first_refusal (check_settings c ∷ check_steps 0 steps ∷ (fvecs_hour r).frame ∷ []) ≡ Ok tt → i < word_at r 0
    → ((j : ℕ) → j < i → (X : ℤ) × (measure_at r (4 + 4 * j) ≡ Ok X)) → nan_bits binary32 (word_at r (4 + 4 * i)) ≡ true → check_best c steps (fvecs_hour r) b ≡ Err (Missing i)
nan-refused c steps r b i asked h before e = let d : Measured = Err fault.Missing in
    null-refused c steps (fvecs_hour r) b asked i d (omega (arith, fvecs-count r)) (λ j k. ((before j k).0, fvecs-reading r j d (omega arith) ∙ (before j k).1)) (fvecs-reading r i d h ∙ word-missing r i e)
