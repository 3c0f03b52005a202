-- `best_hour_with_table_units` answers what is refused before the store, and else what the core answers on the units themselves.
use Rattle.std.specs.Prelude.{Err, Ok}
use Rattle.refusals.specs.Verdicts.{Verdict}
use Rattle.std.proofs.Common.{rules, ◌≡◌, sym, ◌∙◌, List, [], ◌∷◌, ℕ, ℤ, length}
use lib.ListN.{length-map}
use Rattle.readings.specs.Taking.{measure_units}
use Rattle.records.proofs.Eight.Hours.{units-sound, units-taken}
use Rattle.records.specs.Eight.Vectors.{Hour, units_hour, check_readings, units_taken}
use Rattle.refusals.specs.declared.settings.Settings.{Settings}
use Rattle.refusals.specs.Laws.Verdicts.{first-accepted}
use Rattle.stores.proofs.Laws.Tabled.{before_store, CoreTaken, asked-taken, core-taken, by-refused, by-is}
use Rattle.stores.specs.Tabled.{table_asked}
use Rattle.stores.proofs.tabled.best_hour_with_table_units.Goals as goal

-- where nothing is refused
module _ (s : Settings) (steps x : List ℤ) (room : ℕ) (e : (Ok tt) ≡ before_store s steps (units_hour x) room) where
  abbrev h : Hour
  h = units_hour x

  both : (table_asked s steps h room ≡ Ok tt) × (check_readings 0 h.readings ≡ Ok tt)
  both = let r : Verdict = check_readings 0 h.readings in let t = first-accepted (table_asked s steps h room) (r ∷ []) (sym e) in (t.0, (first-accepted r [] t.1).0)

  same : units_taken h.readings ≡ x
  same = units-taken 0 x both.1

  long : length x ≡ length h.readings
  long = sym (length-map x measure_units)

  taken : CoreTaken s steps h room x
  taken = core-taken s steps h room (units-sound x) (asked-taken s steps h room both.0) both.1 x same long

pub search_units_by-requires : goal.search_units_by-requires
search_units_by-requires c = let a = c.args in taken a.s a.steps.now a.x.now (length a.entries.now) c.in_ok-check_units_asked.ensures

pub returns-in_err-check_units_asked : goal.returns-in_err-check_units_asked
returns-in_err-check_units_asked c = let refused : c.from_residual.result ≡ Err c.in_err-check_units_asked.field-0.0 = search rules in let a = c.args in let f = by-refused a.s a.steps.now (units_hour a.x.now) a.store.now a.entries.now _ (sym c.in_err-check_units_asked.ensures) in record { answer = refused ∙ f.0; room = f.1 }

pub returns : goal.returns
returns c = let a = c.args in let e = c.in_ok-check_units_asked.ensures in let n : ℕ = length a.entries.now in
    let f = by-is a.s a.steps.now (units_hour a.x.now) a.store.now a.entries.now (sym e) a.x.now (same a.s a.steps.now a.x.now n e) (long a.s a.steps.now a.x.now n e) in
    record { answer = c.search_units_by.ensures.answer ∙ f.0; room = c.search_units_by.ensures.room ∙ f.1 }
