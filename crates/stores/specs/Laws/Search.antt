-- The order of a search, and what its core answers.
use Rattle.std.specs.Prelude.{◌≡◌, refl, ℕ, ◌/◌, ℤ, nat_abs, length, Ok, Err}
use Rattle.std.proofs.Common.{sym, ◌∙◌}
use Rattle.std.proofs.Math.Path.{ap, ap₂}
use mathlib.Core.List.{List, [], ◌∷◌}
use Rattle.records.proofs.Eight.Hours.{Sound}
use Rattle.records.specs.Eight.Vectors.{Hour, check_readings, units_taken, blocks_of}
use Rattle.refusals.specs.declared.settings.Settings.{Settings}
use Rattle.refusals.specs.declared.Refusal.{Refusal}
use Rattle.refusals.specs.Laws.Verdicts.{first-accepted, first-last, first-append}
use Rattle.refusals.specs.Settings.{check_settings}
use Rattle.refusals.specs.Steps.{check_steps}
use Rattle.refusals.specs.Verdicts.{first_refusal, Verdict}
use Rattle.scores.specs.Hours.{check_hour}
use Rattle.scores.specs.Eight.Asked.{HourTaken, hour-taken}
use Rattle.stores.specs.Laws.Asked.{store-taken}
use Rattle.stores.specs.Stores.{check_store, StoreTaken, best_of, best_in, check_best, found, best_hour}

module _ (c : Settings) (steps : List ℤ) (h : Hour) (b : List ℕ) where
  abbrev q : ℕ
  q = nat_abs c.q

  abbrev m : ℕ
  m = nat_abs c.m

  -- the store, of K blocks a record
  abbrev store : ℕ → Verdict
  store K = check_store (length steps) q m K b

  -- the hour is checked first, then the store
  opened : (v : Verdict) → check_hour c steps h ≡ v → check_best c steps h b ≡ first_refusal (v ∷ store (blocks_of h) ∷ [])
  unfolding check_best check_hour
  opened v e =
      first-append (check_settings c ∷ check_steps 0 steps ∷ h.frame ∷ check_readings 0 h.readings ∷ []) (store (blocks_of h) ∷ [])
      ∙ ap (λ (v : Verdict). first_refusal (v ∷ store (blocks_of h) ∷ [])) e

  pub search-refused : (r : Refusal) → check_hour c steps h ≡ Err r → check_best c steps h b ≡ Err r
  search-refused r e = opened (Err r) e

  pub search-last : check_hour c steps h ≡ Ok tt → check_best c steps h b ≡ store (blocks_of h)
  search-last e = opened (Ok tt) e ∙ first-last (store (blocks_of h))

  -- the answer where the hour is refused
  pub best_hour-refused : (r : Refusal) → check_hour c steps h ≡ Err r → found (Err r) (best_of []) ≡ best_hour c steps h b
  unfolding best_hour
  best_hour-refused r e = ap (λ (v : Verdict). found v (best_in q m steps (units_taken h.readings) (blocks_of h) b)) (sym (search-refused r e))

  -- and where it is accepted, with X its units
  pub best_hour-is : check_hour c steps h ≡ Ok tt → (X : List ℤ) → units_taken h.readings ≡ X → length X ≡ length h.readings
      → found (store (length X / 8)) (best_in q m steps X (length X / 8) b) ≡ best_hour c steps h b
  unfolding best_hour
  best_hour-is e X same long =
      ap (λ (n : ℕ). found (store (n / 8)) (best_in q m steps X (n / 8) b)) long
      ∙ ap₂ (λ (v : Verdict) (X : List ℤ). found v (best_in q m steps X (blocks_of h) b)) (sym (search-last e)) (sym same)

-- the hour and the store of an accepted search
pub record SearchTaken (c : Settings) (steps : List ℤ) (h : Hour) (b : List ℕ) : Type 0 where
  pub accepted : check_hour c steps h ≡ Ok tt
  pub hour : HourTaken c steps h
  pub store : StoreTaken (length steps) (nat_abs c.q) (nat_abs c.m) (blocks_of h) b

pub search-taken : (c : Settings) (steps : List ℤ) (h : Hour) (b : List ℕ) → Sound h → check_best c steps h b ≡ Ok tt → SearchTaken c steps h b
search-taken c steps h b sound e =
    let last : Verdict = store c steps h b (blocks_of h) in let t = first-accepted (check_hour c steps h) (last ∷ []) (sym (opened c steps h b (check_hour c steps h) refl) ∙ e) in
    record {
      accepted = t.0;
      hour = hour-taken c steps h sound t.0;
      store = store-taken (length steps) (nat_abs c.q) (nat_abs c.m) (blocks_of h) b (first-accepted last [] t.1).0;
    }
