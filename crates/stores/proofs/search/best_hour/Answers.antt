-- `best_hour` answers what is refused of the hour, and else what the core answers on the units that were taken.
use Rattle.std.specs.Prelude.{Err, Ok}
use Rattle.std.proofs.Common.{rules, ◌≡◌, refl, sym, ◌∙◌, ap, subst, List, ◌++◌, ℕ, ◌-◌, ◌/◌, ◌≤◌, ℤ, nat_abs, length, take, drop, arith, length-append}
use lib.Seq.{take_at}
use Rattle.integers.specs.Vectors.{zeros}
use Rattle.readings.specs.Words.{word_at}
use Rattle.records.proofs.Eight.Hours.{fvecs-sound, fvecs-count}
use Rattle.records.specs.Eight.Vectors.{fvecs_hour, units_taken, UnitsTaken}
use Rattle.refusals.specs.declared.settings.Settings.{Settings}
use Rattle.scores.specs.Hours.{check_hour, hour_room}
use Rattle.scores.specs.Eight.Asked.{HourTaken, hour-taken, hour-framed, room-taken}
use Rattle.stores.specs.Laws.Search.{best_hour-refused, best_hour-is}
use Rattle.stores.specs.Stores.{check_store, best_in, found}
use Rattle.stores.proofs.search.best_hour.Goals as goal

-- where the hour is accepted
module _ (s : Settings) (steps : List ℤ) (b : List ℕ) (e : (Ok tt) ≡ check_hour s steps (fvecs_hour b)) where
  abbrev X : List ℤ
  X = units_taken (fvecs_hour b).readings

  taken : HourTaken s steps (fvecs_hour b)
  taken = hour-taken s steps (fvecs_hour b) (fvecs-sound b) (sym e)

  -- its units stand at the front
  module _ (room : List ℤ) (n : ℕ) (f : room ≡ hour_room s steps (fvecs_hour b) (zeros 512)) (g : n ≡ word_at b 0) where
    n-is : length X ≡ n
    n-is = taken.long ∙ fvecs-count b ∙ sym g

    room-is : room ≡ X ++ drop (length X) (zeros 512)
    room-is = f ∙ room-taken s steps (fvecs_hour b) (zeros 512) (sym e)

    enough : n ≤ length room
    enough = omega (arith, n-is, simp length-append at (ap length room-is))

    x-is : take (n - 0) room ≡ X
    x-is = let z : n - 0 ≡ n = omega arith in ap (λ (k : ℕ). take k room) z ∙ ap (take n) room-is ∙ take_at X _ n n-is

pub word_at-n-requires : goal.word_at-n-requires
word_at-n-requires c = (hour-framed c.args.s c.args.steps.now c.args.query.now (sym c.in_ok-take_fvecs_hour.ensures.answer)).there

pub slice_bounds-search_units-end : goal.slice_bounds-search_units-end
slice_bounds-search_units-end c = let a = c.args in enough a.s a.steps.now a.query.now c.in_ok-take_fvecs_hour.ensures.answer c.take_fvecs_hour.new.x c.word_at-n.result c.take_fvecs_hour.ensures.room c.word_at-n.ensures

pub search_units-requires : goal.search_units-requires
search_units-requires c = let a = c.args in let t = taken a.s a.steps.now a.query.now c.in_ok-take_fvecs_hour.ensures.answer in
    (t.taken, subst UnitsTaken (sym (x-is a.s a.steps.now a.query.now c.in_ok-take_fvecs_hour.ensures.answer c.take_fvecs_hour.new.x c.word_at-n.result c.take_fvecs_hour.ensures.room c.word_at-n.ensures)) t.units)

pub returns-in_err-take_fvecs_hour : goal.returns-in_err-take_fvecs_hour
returns-in_err-take_fvecs_hour c = let refused : c.from_residual.result ≡ Err c.in_err-take_fvecs_hour.field-0.0 = search rules in let a = c.args in record { answer = refused ∙ best_hour-refused a.s a.steps.now (fvecs_hour a.query.now) a.store.now _ (sym c.in_err-take_fvecs_hour.ensures.answer) }

pub returns : goal.returns
returns c = let a = c.args in let e = c.in_ok-take_fvecs_hour.ensures.answer in record {
  answer =
      c.search_units.ensures
      ∙ ap (λ (x : List ℤ). let K = length x / 8 in found (check_store (length a.steps.now) (nat_abs a.s.q) (nat_abs a.s.m) K a.store.now) (best_in (nat_abs a.s.q) (nat_abs a.s.m) a.steps.now x K a.store.now))
      (x-is a.s a.steps.now a.query.now e c.take_fvecs_hour.new.x c.word_at-n.result c.take_fvecs_hour.ensures.room c.word_at-n.ensures)
      ∙ best_hour-is a.s a.steps.now (fvecs_hour a.query.now) a.store.now (sym e) (X a.s a.steps.now a.query.now e) refl (taken a.s a.steps.now a.query.now e).long;
}
