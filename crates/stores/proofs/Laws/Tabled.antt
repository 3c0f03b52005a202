-- The order of a search by a lent table, what it says that it was accepted, and what its core answers.
use Rattle.std.specs.Prelude.{◌≡◌, refl, ℕ, ◌*◌, ◌/◌, ◌≤◌, ℤ, nat_abs, length, Ok, Err}
use Rattle.std.proofs.Common.{sym, ◌∙◌, subst}
use Rattle.std.proofs.Math.Path.{ap, ap₂}
use mathlib.Core.List.{List, [], ◌∷◌}
use Rattle.records.specs.Eight.Asked.{CoderTaken, coder-taken}
use Rattle.records.proofs.Eight.Hours.{Sound}
use Rattle.records.specs.Eight.Vectors.{Hour, check_readings, units_taken, blocks_of, UnitsTaken}
use Rattle.refusals.specs.declared.settings.Settings.{Settings}
use Rattle.refusals.specs.declared.Refusal.{Refusal}
use Rattle.refusals.specs.Answers.{written}
use Rattle.refusals.specs.Laws.Verdicts.{first-accepted, first-all, first-last, first-append}
use Rattle.refusals.specs.Settings.{check_settings}
use Rattle.refusals.specs.Steps.{check_steps}
use Rattle.refusals.specs.Verdicts.{first_refusal, Verdict}
use Rattle.scores.specs.Hours.{check_hour}
use Rattle.scores.specs.Eight.Asked.{hour-taken}
use Rattle.tables.specs.Filling.{check_table, check_entries, lent_asked}
use Rattle.tables.proofs.Laws.Filling.{table_taken, entries-taken}
use Rattle.tables.specs.Tables.{query_most, part_size, query_table}
use Rattle.stores.specs.Stores.{check_store, best_of, best_in, found}
use Rattle.stores.specs.Tabled.{table_asked, check_best_by, best_hour_by, best_hour_table}

module _ (c : Settings) (steps : List ℤ) where
  abbrev q : ℕ
  q = nat_abs c.q

  abbrev m : ℕ
  m = nat_abs c.m

  -- settings, steps and q
  abbrev first : List Verdict
  first = check_settings c ∷ check_steps 0 steps ∷ check_table query_most c ∷ []

  pub record FirstTaken : Type 0 where
    pub settings : check_settings c ≡ Ok tt
    pub listed : check_steps 0 steps ≡ Ok tt
    pub most : q ≤ query_most

  pub first_taken : first_refusal first ≡ Ok tt → FirstTaken
  first_taken e = let table : Verdict = check_table query_most c in
      let s = first-accepted (check_settings c) (check_steps 0 steps ∷ table ∷ []) e in let l = first-accepted (check_steps 0 steps) (table ∷ []) s.1 in
      record { settings = s.0; listed = l.0; most = table_taken query_most c (first-accepted table [] l.1).0 }

  pub first-coder : FirstTaken → CoderTaken c steps
  first-coder t = coder-taken c 0 steps t.settings t.listed

  module _ (h : Hour) (room : ℕ) where
    abbrev readings : Verdict
    readings = check_readings 0 h.readings

    -- then what is lent
    pub asked_is : (v : Verdict) → first_refusal first ≡ v → table_asked c steps h room ≡ first_refusal (v ∷ lent_asked c h room ∷ [])
    unfolding table_asked
    asked_is v e = first-append first (lent_asked c h room ∷ []) ∙ ap (λ (v : Verdict). first_refusal (v ∷ lent_asked c h room ∷ [])) e

    pub record AskedTaken : Type 0 where
      pub first : FirstTaken
      pub framed : h.frame ≡ Ok tt
      pub fits : part_size q * blocks_of h ≤ room

    pub asked-taken : table_asked c steps h room ≡ Ok tt → AskedTaken
    asked-taken e =
        let entries : Verdict = check_entries (part_size q * blocks_of h) room in let lent : Verdict = lent_asked c h room in
        let s = first-accepted (first_refusal first) (lent ∷ []) (sym (asked_is (first_refusal first) refl) ∙ e) in let f = first-accepted h.frame (entries ∷ []) (first-accepted lent [] s.1).0 in
        record { first = first_taken s.0; framed = f.0; fits = entries-taken (part_size q * blocks_of h) room (first-accepted entries [] f.1).0 }

    -- where the readings are accepted too, so is the hour
    pub hour-accepted : AskedTaken → readings ≡ Ok tt → check_hour c steps h ≡ Ok tt
    unfolding check_hour
    hour-accepted t e = first-all (check_settings c ∷ check_steps 0 steps ∷ h.frame ∷ readings ∷ []) (t.first.settings, (t.first.listed, (t.framed, (e, tt))))

    -- what the core takes, with X the units of the query
    abbrev pub CoreTaken : List ℤ → Type 0
    CoreTaken X = CoderTaken c steps × UnitsTaken X × (q ≤ query_most) × (part_size q * (length X / 8) ≤ room)

    pub core-taken : Sound h → AskedTaken → readings ≡ Ok tt → (X : List ℤ) → units_taken h.readings ≡ X → length X ≡ length h.readings → CoreTaken X
    core-taken sound t e X same long = let hour = hour-taken c steps h sound (hour-accepted t e) in
        (hour.taken, subst UnitsTaken same hour.units, t.first.most, subst (λ (n : ℕ). part_size q * (n / 8) ≤ room) (sym long) t.fits)

    -- all that is checked before the store
    abbrev pub before_store : Verdict
    before_store = first_refusal (table_asked c steps h room ∷ readings ∷ [])

    -- then the store
    pub search-by-is : (b : List ℕ) (v : Verdict) → before_store ≡ v → check_best_by c steps h b room ≡ first_refusal (v ∷ check_store (length steps) q m (blocks_of h) b ∷ [])
    unfolding check_best_by
    search-by-is b v e = let store : Verdict = check_store (length steps) q m (blocks_of h) b in first-append (table_asked c steps h room ∷ readings ∷ []) (store ∷ []) ∙ ap (λ (v : Verdict). first_refusal (v ∷ store ∷ [])) e

-- the whole answer and the table afterwards
module _ (c : Settings) (steps : List ℤ) (h : Hour) (b : List ℕ) (out : List ℤ) where
  abbrev room : ℕ
  room = length out

  abbrev store : ℕ → Verdict
  store K = check_store (length steps) (q c steps) (m c steps) K b

  -- where it is refused before the store is looked at
  pub by-refused : (r : Refusal) → before_store c steps h room ≡ Err r → (found (Err r) (best_of []) ≡ best_hour_by c steps h b room) × (out ≡ best_hour_table c steps h b out)
  unfolding best_hour_by best_hour_table
  by-refused r e = let k = search-by-is c steps h room b (Err r) e in (
    ap (λ (v : Verdict). found v (best_in (q c steps) (m c steps) steps (units_taken h.readings) (blocks_of h) b)) (sym k),
    ap (λ (v : Verdict). written v (query_table (q c steps) (units_taken h.readings)) out) (sym k),
  )

  -- and where it is not, with X the units of the query
  pub by-is : before_store c steps h room ≡ Ok tt → (X : List ℤ) → units_taken h.readings ≡ X → length X ≡ length h.readings
      → (found (store (length X / 8)) (best_in (q c steps) (m c steps) steps X (length X / 8) b) ≡ best_hour_by c steps h b room) × (written (store (length X / 8)) (query_table (q c steps) X) out ≡ best_hour_table c steps h b out)
  unfolding best_hour_by best_hour_table
  by-is e X same long = let k : check_best_by c steps h b room ≡ store (blocks_of h) = search-by-is c steps h room b (Ok tt) e ∙ first-last (store (blocks_of h)) in (
    ap (λ (n : ℕ). found (store (n / 8)) (best_in (q c steps) (m c steps) steps X (n / 8) b)) long
        ∙ ap₂ (λ (v : Verdict) (X : List ℤ). found v (best_in (q c steps) (m c steps) steps X (blocks_of h) b)) (sym k) (sym same),
    ap (λ (n : ℕ). written (store (n / 8)) (query_table (q c steps) X) out) long ∙ ap₂ (λ (v : Verdict) (X : List ℤ). written v (query_table (q c steps) X) out) (sym k) (sym same),
  )
