-- What a search by a lent table says: its whole answer is that of the plain search; what the table then holds, and that each score looked up in it is the plain one; a null is refused by its place.
use Rattle.readings.specs.declared.Fault.TheVariants as fault
use Rattle.readings.specs.Taking.{Measured}
use Rattle.std.specs.Prelude.{◌≡◌, refl, Bool, ℕ, ◌*◌, ◌/◌, ◌<◌, ◌≤◌, ℤ, nat_abs, length, get_or, Ok, Err}
use Rattle.std.proofs.Math.Path.{sym, ap, ap₂}
use Rattle.std.proofs.Common.{◌∙◌, le-leb}
use mathlib.Core.List.{List, [], ◌∷◌, ◌++◌}
use Rattle.std.proofs.Math.ListN.{drop}
use Rattle.records.specs.Eight.Codes.{code_length}
use Rattle.records.proofs.Eight.Hours.{Sound}
use Rattle.records.proofs.Laws.Vectors.{AllUnits, first-missing, first-beyond}
use Rattle.records.specs.Eight.Vectors.{Hour, check_readings, units_taken, blocks_of}
use Rattle.refusals.specs.declared.settings.Settings.{Settings}
use Rattle.refusals.specs.declared.Refusal.{Refusal}
use Rattle.refusals.specs.declared.Refusal.TheVariants.{Table, Size, Missing, OutOfRange}
use Rattle.refusals.specs.Answers.{written}
use Rattle.refusals.specs.Laws.Verdicts.{first-accepted, first-last, first-append}
use Rattle.refusals.specs.Settings.{check_settings}
use Rattle.refusals.specs.Steps.{check_steps}
use Rattle.refusals.specs.Verdicts.{unless, first_refusal, Verdict}
use Rattle.scores.specs.Eight.Asked.{HourTaken, hour-taken, taken-block, exact-blocks}
use Rattle.scores.specs.Eight.Scores.{query_total}
use Rattle.tables.specs.Filling.{lent_asked}
use Rattle.tables.specs.Laws.Entries.{query_table-long}
use Rattle.lookups.proofs.Laws.Same.{query-totals}
use Rattle.lookups.specs.Laws.Scoring.{first-without}
use Rattle.lookups.specs.Scoring.{query_total_by}
use Rattle.tables.specs.Tables.{query_most, part_size, query_table}
use Rattle.stores.specs.Laws.Asked.{store-taken}
use Rattle.stores.proofs.Laws.Tabled.{asked-taken, hour-accepted, before_store, search-by-is}
use Rattle.stores.specs.Stores.{check_store, StoreTaken, record_at, best_in, check_best, found, best_hour}
use Rattle.stores.specs.Tabled.{table_asked, check_best_by, best_hour_by, best_hour_table}

module _ (c : Settings) (steps : List ℤ) (h : Hour) where
  abbrev q : ℕ
  q = nat_abs c.q

  abbrev m : ℕ
  m = nat_abs c.m

  abbrev K : ℕ
  K = blocks_of h

  abbrev X : List ℤ
  X = units_taken h.readings

  abbrev readings : Verdict
  readings = check_readings 0 h.readings

  -- ---- the answer

  module _ (b : List ℕ) (room : ℕ) (most : q ≤ query_most) (long : part_size q * K ≤ room) where
    abbrev store : Verdict
    store = check_store (length steps) q m K b

    -- where q is 2, 3 or 4 and the table is long enough, the order is that of the plain search
    same-order : check_best_by c steps h b room ≡ check_best c steps h b
    unfolding check_best_by table_asked check_best
    same-order =
        let coder : List Verdict = check_settings c ∷ check_steps 0 steps ∷ [] in
        let lent : lent_asked c h room ≡ h.frame = ap (λ (t : Bool). first_refusal (h.frame ∷ unless t (Size 2) ∷ [])) (le-leb (part_size q * K) room long) ∙ first-without (h.frame ∷ []) [] ∙ first-last h.frame in
        let asked : table_asked c steps h room ≡ first_refusal (coder ++ (h.frame ∷ [])) =
        ap₂ (λ (t : Bool) (l : Verdict). first_refusal (coder ++ (unless t Table ∷ l ∷ []))) (le-leb q query_most most) lent ∙ first-without coder (h.frame ∷ []) in
        ap (λ (v : Verdict). first_refusal (v ∷ readings ∷ store ∷ [])) asked ∙ sym (first-append (coder ++ (h.frame ∷ [])) (readings ∷ store ∷ []))

    -- and so is the whole answer, refusals among them
    pub table_same : best_hour_by c steps h b room ≡ best_hour c steps h b
    unfolding best_hour_by best_hour
    table_same = ap (λ (v : Verdict). found v (best_in q m steps X K b)) same-order

  -- ---- the table afterwards

  module _ (b : List ℕ) (out : List ℤ) where
    -- as found, where the search is refused
    pub table-refused : (r : Refusal) → check_best_by c steps h b (length out) ≡ Err r → best_hour_table c steps h b out ≡ out
    unfolding best_hour_table
    table-refused r e = ap (λ (v : Verdict). written v (query_table q X) out) e

    module _ (sound : Sound h) (ok : check_best_by c steps h b (length out) ≡ Ok tt) where
      abbrev size : ℕ
      size = code_length m K

      last : (before_store c steps h (length out) ≡ Ok tt) × (check_store (length steps) q m K b ≡ Ok tt)
      last = let before : Verdict = before_store c steps h (length out) in let store : Verdict = check_store (length steps) q m K b in
          let t = first-accepted before (store ∷ []) (sym (search-by-is c steps h (length out) b before refl) ∙ ok) in (t.0, (first-accepted store [] t.1).0)

      hour : HourTaken c steps h
      hour = let t = first-accepted (table_asked c steps h (length out)) (readings ∷ []) last.0 in
          hour-taken c steps h sound (hour-accepted c steps h (length out) (asked-taken c steps h (length out) t.0) (first-accepted readings [] t.1).0)

      stored : StoreTaken (length steps) q m K b
      stored = store-taken (length steps) q m K b last.1

      count : length X / 8 ≡ K
      count = ap (λ (n : ℕ). n / 8) hour.long

      -- the query's table, K·q^8 entries, then what was found
      pub table_filled : best_hour_table c steps h b out ≡ query_table q X ++ drop (part_size q * K) out
      unfolding best_hour_table
      table_filled = ap (λ (v : Verdict). written v (query_table q X) out) ok ∙ ap (λ (n : ℕ). query_table q X ++ drop n out) (query_table-long q X ∙ ap (λ (n : ℕ). part_size q * n) count)

      -- each record's score, looked up there, is the plain one
      pub lookups-same : (i : ℕ) → i < length b / size → query_total_by q m steps (best_hour_table c steps h b out) (record_at size b i) ≡ query_total q m steps X (record_at size b i)
      lookups-same i k = let r = stored.each i k in
          ap (λ (t : List ℤ). query_total_by q m steps t (record_at size b i)) table_filled
          ∙ query-totals q m steps X (drop (part_size q * K) out) (record_at size b i) (exact-blocks m K (record_at size b i) r.frame ∙ sym count) (λ j l. (taken-block (length steps) q m K K (record_at size b i) r j l).code)

  -- ---- what is refused

  module _ (b : List ℕ) (room : ℕ) (asked : table_asked c steps h room ≡ Ok tt) (i : ℕ) (d : Measured) (within : i < length h.readings) (before : AllUnits i h.readings d) where
    readings-refused : (r : Refusal) → readings ≡ Err r → check_best_by c steps h b room ≡ Err r
    readings-refused r e = search-by-is c steps h room b (Err r) (ap₂ (λ (v w : Verdict). first_refusal (v ∷ w ∷ [])) asked e)

    -- the first reading that is missing is named by 4, whatever the store is
    pub table-null-refused : get_or h.readings i d ≡ Err fault.Missing → check_best_by c steps h b room ≡ Err (Missing i)
    table-null-refused e = readings-refused (Missing i) (first-missing i h.readings d within before e)

    -- and the first that is out of range by 5
    pub table-beyond-refused : get_or h.readings i d ≡ Err fault.OutOfRange → check_best_by c steps h b room ≡ Err (OutOfRange i)
    table-beyond-refused e = readings-refused (OutOfRange i) (first-beyond i h.readings d within before e)
