-- `best_hour_units` answers what is refused of the hour, and else what the core answers on the units themselves.
use Rattle.std.specs.Prelude.{Err, Ok}
use Rattle.std.proofs.Common.{rules, ◌≡◌, sym, ◌∙◌, subst, List, ℤ}
use lib.ListN.{length-map}
use Rattle.readings.specs.Taking.{measure_units}
use Rattle.records.proofs.Eight.Hours.{units-sound, units-taken}
use Rattle.records.specs.Eight.Vectors.{units_hour, units_taken, UnitsTaken}
use Rattle.refusals.specs.declared.settings.Settings.{Settings}
use Rattle.scores.specs.Hours.{check_hour}
use Rattle.scores.specs.Eight.Asked.{HourTaken, hour-taken}
use Rattle.stores.specs.Laws.Search.{best_hour-refused, best_hour-is}
use Rattle.stores.proofs.search.best_hour_units.Goals as goal

-- where the hour is accepted
module _ (s : Settings) (steps x : List ℤ) (e : (Ok tt) ≡ check_hour s steps (units_hour x)) where
  taken : HourTaken s steps (units_hour x)
  taken = hour-taken s steps (units_hour x) (units-sound x) (sym e)

  same : units_taken (units_hour x).readings ≡ x
  same = units-taken 0 x taken.readings

pub search_units-requires : goal.search_units-requires
search_units-requires c = let a = c.args in let t = taken a.s a.steps.now a.x.now c.in_ok-check_units_hour.ensures in (t.taken, subst UnitsTaken (same a.s a.steps.now a.x.now c.in_ok-check_units_hour.ensures) t.units)

pub returns-in_err-check_units_hour : goal.returns-in_err-check_units_hour
returns-in_err-check_units_hour c = let refused : c.from_residual.result ≡ Err c.in_err-check_units_hour.field-0.0 = search rules in let a = c.args in record { answer = refused ∙ best_hour-refused a.s a.steps.now (units_hour a.x.now) a.store.now _ (sym c.in_err-check_units_hour.ensures) }

pub returns : goal.returns
returns c = let a = c.args in
    record { answer = c.search_units.ensures ∙ best_hour-is a.s a.steps.now (units_hour a.x.now) a.store.now (sym c.in_ok-check_units_hour.ensures) a.x.now (same a.s a.steps.now a.x.now c.in_ok-check_units_hour.ensures) (sym (length-map a.x.now measure_units)) }
