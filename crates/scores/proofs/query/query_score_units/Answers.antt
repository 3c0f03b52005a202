-- `query_score_units` answers what is refused of the hour, and else what the core answers on the units themselves.
use Rattle.std.proofs.Common.{rules}
use Rattle.std.specs.Prelude.{Ok}
use mathlib.Core.Path.{◌≡◌, sym, ◌∙◌, subst}
use mathlib.Core.List.{List}
use lib.IntN.{ℤ}
use lib.ListN.{length-map}
use Rattle.readings.specs.Taking.{measure_units}
use Rattle.records.proofs.Eight.Hours.{units-sound, units-taken}
use Rattle.records.specs.Eight.Vectors.{Hour, units_hour, units_taken, UnitsTaken}
use Rattle.scores.specs.Hours.{check_hour}
use Rattle.scores.specs.Eight.Asked.{HourTaken, hour-taken}
use Rattle.scores.specs.Eight.Query.{query_score-refused, query_score-is}
use Rattle.scores.proofs.query.query_score_units.Goals as goal
use Rattle.scores.proofs.query.query_score_units.Goals.{After-check_units_hour}

-- where the hour is accepted
module _ (c : After-check_units_hour) (e : c.check_units_hour.result ≡ Ok tt) where
  abbrev steps : List ℤ
  steps = c.args.steps.now

  abbrev x : List ℤ
  x = c.args.x.now

  abbrev h : Hour
  h = units_hour x

  accepted : check_hour c.args.s steps h ≡ Ok tt
  accepted = sym c.check_units_hour.ensures ∙ e

  taken : HourTaken c.args.s steps h
  taken = hour-taken c.args.s steps h (units-sound x) accepted

  same : units_taken h.readings ≡ x
  same = units-taken 0 x taken.readings

pub score_units-requires : goal.score_units-requires
score_units-requires c = let a = (goal.at.score_units-requires c).After-check_units_hour in let e = c.in_ok-check_units_hour.was in ((taken a e).taken, subst UnitsTaken (same a e) (taken a e).units)

pub returns-in_err-check_units_hour : goal.returns-in_err-check_units_hour
returns-in_err-check_units_hour c = let v = c.args in
    record { answer = (search rules) ∙ query_score-refused v.s v.steps.now (units_hour v.x.now) v.code.now _ (sym c.check_units_hour.ensures ∙ c.in_err-check_units_hour.was) }

pub returns : goal.returns
returns c = let a = (goal.at.returns c).After-check_units_hour in let e = c.in_ok-check_units_hour.was in let v = c.args in
    record { answer = c.score_units.ensures ∙ query_score-is v.s v.steps.now (units_hour v.x.now) v.code.now (accepted a e) v.x.now (same a e) (sym (length-map v.x.now measure_units)) }
