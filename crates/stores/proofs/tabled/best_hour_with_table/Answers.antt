-- `best_hour_with_table` answers what is refused before the store, and else what the core answers on the units that were taken.
use Rattle.std.specs.Prelude.{Err, Ok}
use Rattle.std.proofs.Common.{rules, ◌≡◌, refl, sym, ◌∙◌, ap, ap₂, subst, List, [], ◌∷◌, ◌++◌, ℕ, ◌-◌, ◌/◌, ◌≤◌, ℤ, nat_abs, length, take, drop, arith, length-append}
use lib.Seq.{take_at}
use Rattle.integers.specs.Vectors.{zeros}
use Rattle.readings.specs.Words.{word_at}
use Rattle.records.specs.Laws.Frames.{record-framed}
use Rattle.records.specs.Frames.{Framed}
use Rattle.records.proofs.Eight.Hours.{fvecs-sound, fvecs-count, taken-all}
use Rattle.records.specs.Eight.Vectors.{Hour, fvecs_hour, check_readings, units_taken}
use Rattle.refusals.specs.declared.Refusal.TheVariants.{Record}
use Rattle.refusals.specs.declared.settings.Settings.{Settings}
use Rattle.refusals.specs.Answers.{written}
use Rattle.refusals.specs.Laws.Verdicts.{unless-accepted}
use Rattle.refusals.specs.Limits.{blocks_most}
use Rattle.refusals.specs.Verdicts.{first_refusal, Verdict}
use Rattle.tables.specs.Tables.{query_table}
use Rattle.stores.proofs.Laws.Tabled.{before_store, AskedTaken, asked-taken, CoreTaken, core-taken, by-refused, by-is}
use Rattle.stores.specs.Tabled.{table_asked}
use Rattle.stores.specs.Stores.{check_store, best_in, found}
use Rattle.stores.proofs.tabled.best_hour_with_table.Goals as goal

module _ (s : Settings) (steps : List ℤ) (b : List ℕ) (room : ℕ) where
  abbrev h : Hour
  h = fvecs_hour b

  abbrev X : List ℤ
  X = units_taken h.readings

  -- by what the checks before the readings say, and the readings
  checked : (v w : Verdict) → v ≡ table_asked s steps h room → w ≡ check_readings 0 h.readings → before_store s steps h room ≡ first_refusal (v ∷ w ∷ [])
  checked v w e f = ap₂ (λ (v w : Verdict). first_refusal (v ∷ w ∷ [])) (sym e) (sym f)

  -- where nothing is refused before the readings are taken
  module _ (e : (Ok tt) ≡ table_asked s steps h room) where
    asked : AskedTaken s steps h room
    asked = asked-taken s steps h room (sym e)

    frame : Framed 4 8 1 blocks_most b
    frame = record-framed 4 8 1 blocks_most b (unless-accepted _ (Record 0) asked.framed)

    -- where the readings were all taken, they stand at the front
    module _ (f : (Ok tt) ≡ check_readings 0 h.readings) where
      long : length X ≡ length h.readings
      long = taken-all h.readings (sym f)

      module _ (out : List ℤ) (n : ℕ) (g : n ≡ word_at b 0) (i : out ≡ X ++ drop (length X) (zeros 512)) where
        n-is : length X ≡ n
        n-is = long ∙ fvecs-count b ∙ sym g

        x-is : take (n - 0) out ≡ X
        x-is = let z : n - 0 ≡ n = omega arith in ap (λ (k : ℕ). take k out) z ∙ ap (take n) i ∙ take_at X _ n n-is

        enough : n ≤ length out
        enough = omega (arith, n-is, simp length-append at (ap length i))

        core : CoreTaken s steps h room (take (n - 0) out)
        core = subst (CoreTaken s steps h room) (sym x-is) (core-taken s steps h room (fvecs-sound b) asked (sym f) X refl long)

pub word_at-n-requires : goal.word_at-n-requires
word_at-n-requires c = let a = c.args in (frame a.s a.steps.now a.query.now (length a.entries.now) c.in_ok-check_fvecs_asked.ensures).there

pub take_readings-requires : goal.take_readings-requires
take_readings-requires c = let a = c.args in let f = frame a.s a.steps.now a.query.now (length a.entries.now) c.in_ok-check_fvecs_asked.ensures in
    (c.word_at-n.ensures, omega (arith, c.word_at-n.ensures, f.complete), omega (arith, c.word_at-n.ensures, f.whole.times, f.whole.few))

pub slice_bounds-search_units_by-end : goal.slice_bounds-search_units_by-end
slice_bounds-search_units_by-end c = let a = c.args in
    enough a.s a.steps.now a.query.now (length a.entries.now) c.in_ok-check_fvecs_asked.ensures c.in_ok-take_readings.ensures.answer c.take_readings.new.x c.word_at-n.result c.word_at-n.ensures c.take_readings.ensures.room

pub search_units_by-requires : goal.search_units_by-requires
search_units_by-requires c = let a = c.args in
    core a.s a.steps.now a.query.now (length a.entries.now) c.in_ok-check_fvecs_asked.ensures c.in_ok-take_readings.ensures.answer c.take_readings.new.x c.word_at-n.result c.word_at-n.ensures c.take_readings.ensures.room

pub returns-in_err-check_fvecs_asked : goal.returns-in_err-check_fvecs_asked
returns-in_err-check_fvecs_asked c = let refused : c.from_residual.result ≡ Err c.in_err-check_fvecs_asked.field-0.0 = search rules in let a = c.args in
    let f = by-refused a.s a.steps.now (fvecs_hour a.query.now) a.store.now a.entries.now _ (checked a.s a.steps.now a.query.now (length a.entries.now) _ _ c.in_err-check_fvecs_asked.ensures refl) in
    record { answer = refused ∙ f.0; room = f.1 }

pub returns-in_err-take_readings : goal.returns-in_err-take_readings
returns-in_err-take_readings c = let refused : c.from_residual-in_err-take_readings.result ≡ Err c.in_err-take_readings.field-0.0 = search rules in let a = c.args in
    let f = by-refused a.s a.steps.now (fvecs_hour a.query.now) a.store.now a.entries.now _ (checked a.s a.steps.now a.query.now (length a.entries.now) _ _ c.in_ok-check_fvecs_asked.ensures c.in_err-take_readings.ensures.answer) in
    record { answer = refused ∙ f.0; room = f.1 }

pub returns : goal.returns
returns c = let a = c.args in let room : ℕ = length a.entries.now in let e = c.in_ok-check_fvecs_asked.ensures in let g = c.in_ok-take_readings.ensures.answer in
    let q : ℕ = nat_abs a.s.q in let m : ℕ = nat_abs a.s.m in
    let front = x-is a.s a.steps.now a.query.now room e g c.take_readings.new.x c.word_at-n.result c.word_at-n.ensures c.take_readings.ensures.room in
    let f = by-is a.s a.steps.now (fvecs_hour a.query.now) a.store.now a.entries.now (checked a.s a.steps.now a.query.now room _ _ e g) (X a.s a.steps.now a.query.now room) refl (long a.s a.steps.now a.query.now room e g) in
    record {
      answer = c.search_units_by.ensures.answer ∙ ap (λ (x : List ℤ). let K = length x / 8 in found (check_store (length a.steps.now) q m K a.store.now) (best_in q m a.steps.now x K a.store.now)) front ∙ f.0;
      room = c.search_units_by.ensures.room ∙ ap (λ (x : List ℤ). written (check_store (length a.steps.now) q m (length x / 8) a.store.now) (query_table q x) a.entries.now) front ∙ f.1;
    }
