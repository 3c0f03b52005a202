-- `take_fvecs_hour` makes the checks one after the other; its units are put only where the first three accept.
use Rattle.std.specs.Prelude.{◌≡◌, Ok, Err}
use Rattle.std.proofs.Common.{rules}
use mathlib.Core.Path.{◌≡◌, refl, sym, ◌∙◌, ap}
use mathlib.Core.Bool.{Bool}
use mathlib.Core.List.{List, [], ◌∷◌}
use Prim.Native.Nat.{ℕ}
use native.Mathlib.Omega.{arith}
use Rattle.records.specs.Laws.Frames.{record-framed}
use Rattle.records.specs.Frames.{good_record}
use Rattle.records.specs.Eight.Vectors.{Hour, fvecs_hour, check_readings, units_taken}
use Rattle.refusals.specs.declared.Refusal.TheVariants.{Record}
use Rattle.refusals.specs.Laws.Verdicts.{first-last}
use Rattle.refusals.specs.Limits.{blocks_most}
use Rattle.refusals.specs.Verdicts.{unless, first_refusal, Verdict}
use Rattle.scores.specs.Hours.{check_hour, units_front, hour_room}
use Rattle.scores.specs.Laws.Asked.{hour-is, room-is}
use Rattle.scores.proofs.hours.take_fvecs_hour.Goals as goal
use Rattle.scores.proofs.hours.take_fvecs_hour.Goals.{After-check_coder}

module _ (c : After-check_coder) where
  abbrev h : Hour
  h = fvecs_hour c.args.hour.now

  abbrev readings : Verdict
  readings = check_readings 0 h.readings

  module _ (v f : Verdict) (d : c.check_coder.result ≡ v) (e : h.frame ≡ f) where
    decided : check_hour c.args.s c.args.steps.now h ≡ first_refusal (v ∷ f ∷ readings ∷ [])
    decided = hour-is c.args.s c.args.steps.now h v f readings (sym c.check_coder.ensures ∙ d) e refl

    left : hour_room c.args.s c.args.steps.now h c.args.x.now ≡ units_front (first_refusal (v ∷ f ∷ [])) (units_taken h.readings) c.args.x.now
    left = room-is c.args.s c.args.steps.now h v f c.args.x.now (sym c.check_coder.ensures ∙ d) e

-- the frame as it is tested
framed : (g : Bool) (hour : List ℕ) (b : Bool) → g ≡ good_record 4 8 1 blocks_most hour → g ≡ b → (fvecs_hour hour).frame ≡ unless b (Record 0)
framed g hour b e t = ap (λ (b : Bool). unless b (Record 0)) (sym e ∙ t)

pub word_at-n-requires : goal.word_at-n-requires
word_at-n-requires c = (record-framed 4 8 1 blocks_most _ (sym c.good_record.ensures ∙ c.if-good_record.true)).there

pub take_readings-requires : goal.take_readings-requires
take_readings-requires c = let f = record-framed 4 8 1 blocks_most _ (sym c.good_record.ensures ∙ c.if-good_record.true) in
    (c.word_at-n.ensures, omega (arith, c.word_at-n.ensures, f.complete), omega (arith, c.word_at-n.ensures, f.whole.times, f.whole.few, c.requires))

pub returns-in_err-check_coder : goal.returns-in_err-check_coder
returns-in_err-check_coder c = let a = (goal.at.returns-in_err-check_coder c).After-check_coder in let d = c.in_err-check_coder.was in
    let refused : c.from_residual.result ≡ Err c.in_err-check_coder.field-0.0 = search rules in record { answer = refused ∙ sym (decided a (Err _) (h a).frame d refl); room = sym (left a (Err _) (h a).frame d refl) }

pub returns-then-good_record : goal.returns-then-good_record
returns-then-good_record c = let a = (goal.at.returns-then-good_record c).After-check_coder in
    let d = c.in_ok-check_coder.was in let e = framed _ c.args.hour.now _ c.good_record.ensures c.if-good_record.true in record { answer = c.take_readings.ensures.answer ∙ sym (decided a (Ok tt) (Ok tt) d e ∙ first-last (readings a)); room = c.take_readings.ensures.room ∙ sym (left a (Ok tt) (Ok tt) d e) }

pub returns-else-good_record : goal.returns-else-good_record
returns-else-good_record c = let a = (goal.at.returns-else-good_record c).After-check_coder in
    let d = c.in_ok-check_coder.was in let e = framed _ c.args.hour.now _ c.good_record.ensures c.if-good_record.false in record { answer = sym (decided a (Ok tt) (Err (Record 0)) d e); room = sym (left a (Ok tt) (Err (Record 0)) d e) }
