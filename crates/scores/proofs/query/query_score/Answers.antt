-- `query_score` answers what is refused of the hour, and else what the core answers on the units that were taken.
use Rattle.std.proofs.Common.{rules}
use Rattle.std.specs.Prelude.{Ok}
use mathlib.Core.Path.{◌≡◌, refl, sym, ◌∙◌, ap, subst}
use mathlib.Core.List.{List, ◌++◌}
use Prim.Native.Nat.{ℕ, ◌-◌, ◌/◌, ◌≤◌}
use native.Mathlib.Omega.{arith}
use lib.IntN.{ℤ, nat_abs}
use lib.ListN.{length, take, drop, length-append}
use lib.Seq.{take_at}
use Rattle.integers.specs.Vectors.{zeros}
use Rattle.readings.specs.Words.{word_at}
use Rattle.records.proofs.Eight.Hours.{fvecs-sound, fvecs-count}
use Rattle.records.specs.Eight.Vectors.{Hour, fvecs_hour, units_taken, UnitsTaken}
use Rattle.refusals.specs.Answers.{valued}
use Rattle.scores.specs.Hours.{check_hour}
use Rattle.scores.specs.Eight.Asked.{HourTaken, hour-taken, hour-framed, room-taken}
use Rattle.scores.specs.Eight.Query.{query_score-refused, query_score-is}
use Rattle.scores.specs.Eight.Scores.{query_total, check_code}
use Rattle.scores.proofs.query.query_score.Goals as goal
use Rattle.scores.proofs.query.query_score.Goals.{After-take_fvecs_hour}

-- where the hour is accepted
module _ (c : After-take_fvecs_hour) (e : c.take_fvecs_hour.result ≡ Ok tt) where
  abbrev steps : List ℤ
  steps = c.args.steps.now

  abbrev b : List ℕ
  b = c.args.query.now

  abbrev h : Hour
  h = fvecs_hour b

  abbrev X : List ℤ
  X = units_taken h.readings

  accepted : check_hour c.args.s steps h ≡ Ok tt
  accepted = sym c.take_fvecs_hour.ensures.answer ∙ e

  taken : HourTaken c.args.s steps h
  taken = hour-taken c.args.s steps h (fvecs-sound b) accepted

  abbrev room : List ℤ
  room = c.take_fvecs_hour.new.x

  room-is : room ≡ X ++ drop (length X) (zeros 512)
  room-is = c.take_fvecs_hour.ensures.room ∙ room-taken c.args.s steps h (zeros 512) accepted

  -- its units stand at the front
  module _ (n : ℕ) (count : n ≡ word_at b 0) where
    n-is : length X ≡ n
    n-is = taken.long ∙ fvecs-count b ∙ sym count

    enough : n ≤ length room
    enough = omega (arith, n-is, simp length-append at (ap length room-is))

    x-is : take (n - 0) room ≡ X
    x-is = let z : n - 0 ≡ n = omega arith in ap (λ (k : ℕ). take k room) z ∙ ap (take n) room-is ∙ take_at X _ n n-is

pub word_at-n-requires : goal.word_at-n-requires
word_at-n-requires c = (hour-framed c.args.s c.args.steps.now c.args.query.now (accepted (goal.at.word_at-n-requires c).After-take_fvecs_hour c.in_ok-take_fvecs_hour.was)).there

pub slice_bounds-score_units-end : goal.slice_bounds-score_units-end
slice_bounds-score_units-end c = enough (goal.at.slice_bounds-score_units-end c).After-take_fvecs_hour c.in_ok-take_fvecs_hour.was _ c.word_at-n.ensures

pub score_units-requires : goal.score_units-requires
score_units-requires c = let a = (goal.at.score_units-requires c).After-take_fvecs_hour in let t = taken a c.in_ok-take_fvecs_hour.was in
    (t.taken, subst UnitsTaken (sym (x-is a c.in_ok-take_fvecs_hour.was _ c.word_at-n.ensures)) t.units)

pub returns-in_err-take_fvecs_hour : goal.returns-in_err-take_fvecs_hour
returns-in_err-take_fvecs_hour c = let v = c.args in
    record { answer = (search rules) ∙ query_score-refused v.s v.steps.now (fvecs_hour v.query.now) v.code.now _ (sym c.take_fvecs_hour.ensures.answer ∙ c.in_err-take_fvecs_hour.was) }

pub returns : goal.returns
returns c = let a = (goal.at.returns c).After-take_fvecs_hour in let e = c.in_ok-take_fvecs_hour.was in let v = c.args in
    record {
      answer = c.score_units.ensures
          ∙ ap (λ (x : List ℤ). valued (check_code (length v.steps.now) (nat_abs v.s.q) (nat_abs v.s.m) (length x / 8) (length x / 8) 0 0 v.code.now) (query_total (nat_abs v.s.q) (nat_abs v.s.m) v.steps.now x v.code.now)) (x-is a e _ c.word_at-n.ensures)
          ∙ query_score-is v.s v.steps.now (fvecs_hour v.query.now) v.code.now (accepted a e) (X a e) refl (taken a e).long;
    }
