-- `encode` answers what is refused before coding, and else what the core answers on the units that were taken.
use Rattle.std.specs.Prelude.{Ok}
use Rattle.std.proofs.Common.{◌≡◌, List, [], ◌∷◌, ◌++◌, ℕ, ◌-◌, ◌/◌, ◌≤◌, ℤ, pos, nat_abs, refl, sym, ◌∙◌, ap, ap₂, subst, subst₂, take, length, length-append, arith, rules}
use lib.Seq.{take_at}
use mir.Syntax.{w64}
use mir.Val.{to_z, of_z}
use Rattle.readings.specs.Words.{word_at}
use Rattle.refusals.specs.declared.settings.Settings.{Settings}
use Rattle.refusals.specs.Answers.{valued, written}
use Rattle.refusals.specs.Verdicts.{first_refusal, Verdict}
use Rattle.layers.specs.Code.{code8, eight_of}
use Rattle.records.specs.Eight.Codes.{Coder, code_length}
use Rattle.records.proofs.Eight.Hours.{fvecs-sound, fvecs-count}
use Rattle.records.specs.Eight.Vectors.{fvecs_hour, check_readings, units_taken, in_blocks, UnitsTaken}
use Rattle.encoding.specs.Encode.{check_fits, code_record, encode_asked}
use Rattle.encoding.proofs.Laws.Encoded.{EncodeTaken, asked-framed, encode-taken, encoded-is, encoded_room-is, encoded-refused, encoded_room-refused}
use Rattle.encoding.proofs.encode.Goals as goal

-- where the frame is accepted, and the readings were all taken, to the front of a room
module _ (s : Settings) (steps : List ℤ) (b : List ℕ) (room : ℕ) (asked : encode_asked (eight_of s) s steps (fvecs_hour b) room ≡ Ok tt) (readings : check_readings 0 (fvecs_hour b).readings ≡ Ok tt) where
  accepted : first_refusal (encode_asked (eight_of s) s steps (fvecs_hour b) room ∷ check_readings 0 (fvecs_hour b).readings ∷ []) ≡ Ok tt
  accepted = ap₂ (λ (v w : Verdict). first_refusal (v ∷ w ∷ [])) asked readings

  taken : EncodeTaken (eight_of s) s steps (fvecs_hour b) room
  taken = encode-taken (eight_of s) s steps (fvecs_hour b) room (fvecs-sound b) accepted

  module _ (n : ℕ) (n-is : n ≡ word_at b 0) (x rest : List ℤ) (x-is : x ≡ units_taken (fvecs_hour b).readings ++ rest) where
    long : length (units_taken (fvecs_hour b).readings) ≡ n
    long = taken.long ∙ fvecs-count b ∙ sym n-is

    enough : n ≤ length x
    enough = omega (arith, long, simp length-append at (ap length x-is))

    front-is : take (n - 0) x ≡ units_taken (fvecs_hour b).readings
    front-is = ap (take (n - 0)) x-is ∙ take_at (units_taken (fvecs_hour b).readings) rest (n - 0) (omega (arith, long))

pub word_at-n-requires : goal.word_at-n-requires
word_at-n-requires c = let a = c.args in (asked-framed (eight_of a.s) a.s a.steps.now a.hour.now (length a.out.now) (sym c.check_fvecs_hour.ensures ∙ c.in_ok-check_fvecs_hour.was)).there

pub take_readings-requires : goal.take_readings-requires
take_readings-requires c = let a = c.args in let f = asked-framed (eight_of a.s) a.s a.steps.now a.hour.now (length a.out.now) (sym c.check_fvecs_hour.ensures ∙ c.in_ok-check_fvecs_hour.was) in
    (c.word_at-n.ensures, omega (arith, c.word_at-n.ensures, f.complete), omega (arith, c.word_at-n.ensures, f.whole.times, f.whole.few))

pub slice_bounds-put_record-end : goal.slice_bounds-put_record-end
slice_bounds-put_record-end c = let a = c.args in
    enough a.s a.steps.now a.hour.now (length a.out.now) (sym c.check_fvecs_hour.ensures ∙ c.in_ok-check_fvecs_hour.was) (sym c.take_readings.ensures.answer ∙ c.in_ok-take_readings.was) _ c.word_at-n.ensures _ _ c.take_readings.ensures.room

pub base-requires : goal.base-requires
base-requires c = let a = c.args in (taken a.s a.steps.now a.hour.now (length a.out.now) (sym c.check_fvecs_hour.ensures ∙ c.in_ok-check_fvecs_hour.was) (sym c.take_readings.ensures.answer ∙ c.in_ok-take_readings.was)).taken.allowed

pub layers-requires : goal.layers-requires
layers-requires c = let a = c.args in (taken a.s a.steps.now a.hour.now (length a.out.now) (sym c.check_fvecs_hour.ensures ∙ c.in_ok-check_fvecs_hour.was) (sym c.take_readings.ensures.answer ∙ c.in_ok-take_readings.was)).taken.allowed

pub put_record-requires : goal.put_record-requires
put_record-requires c = let a = c.args in let ok = sym c.check_fvecs_hour.ensures ∙ c.in_ok-check_fvecs_hour.was in let all = sym c.take_readings.ensures.answer ∙ c.in_ok-take_readings.was in
    let e = taken a.s a.steps.now a.hour.now (length a.out.now) ok all in
    let x-is = front-is a.s a.steps.now a.hour.now (length a.out.now) ok all _ c.word_at-n.ensures _ _ c.take_readings.ensures.room in
    let q-is : to_z w64 (of_z w64 c.base.result) ≡ c.base.result = search rules in (
      subst₂ (λ (q : ℤ) (m : ℕ). Coder q m a.steps.now) (sym (q-is ∙ c.base.ensures)) (sym c.layers.ensures) e.taken.coder,
      subst UnitsTaken (sym x-is) e.units,
      subst₂ (λ (m : ℕ) (x : List ℤ). code_length m (length x / 8) ≤ length a.out.now) (sym c.layers.ensures) (sym x-is)
          (subst (λ (n : ℕ). code_length (nat_abs a.s.m) (n / 8) ≤ length a.out.now) (sym e.long) e.fits),
    )

pub returns-in_err-check_fvecs_hour : goal.returns-in_err-check_fvecs_hour
returns-in_err-check_fvecs_hour c = let a = c.args in let h = fvecs_hour a.hour.now in
    let e = ap (λ (w : Verdict). first_refusal (w ∷ check_readings 0 h.readings ∷ [])) (sym c.check_fvecs_hour.ensures ∙ c.in_err-check_fvecs_hour.was) in record {
      answer = (search rules) ∙ encoded-refused (eight_of a.s) a.s a.steps.now h a.out.now _ e;
      room = encoded_room-refused (eight_of a.s) a.s a.steps.now h a.out.now _ e;
    }

pub returns-in_err-take_readings : goal.returns-in_err-take_readings
returns-in_err-take_readings c = let a = c.args in let h = fvecs_hour a.hour.now in
    let e = ap₂ (λ (v w : Verdict). first_refusal (v ∷ w ∷ [])) (sym c.check_fvecs_hour.ensures ∙ c.in_ok-check_fvecs_hour.was) (sym c.take_readings.ensures.answer ∙ c.in_err-take_readings.was) in record {
      answer = (search rules) ∙ encoded-refused (eight_of a.s) a.s a.steps.now h a.out.now _ e;
      room = encoded_room-refused (eight_of a.s) a.s a.steps.now h a.out.now _ e;
    }

pub returns : goal.returns
returns c = let a = c.args in let steps = a.steps.now in let out = a.out.now in let h = fvecs_hour a.hour.now in let X = units_taken h.readings in
    let ok = sym c.check_fvecs_hour.ensures ∙ c.in_ok-check_fvecs_hour.was in let all = sym c.take_readings.ensures.answer ∙ c.in_ok-take_readings.was in
    let e = taken a.s steps a.hour.now (length out) ok all in let good = accepted a.s steps a.hour.now (length out) ok all in
    let x-is = front-is a.s steps a.hour.now (length out) ok all _ c.word_at-n.ensures _ _ c.take_readings.ensures.room in
    let q-is : to_z w64 (of_z w64 c.base.result) ≡ c.base.result = search rules in
    let q = nat_abs a.s.q in let m = nat_abs a.s.m in let lent = take (c.word_at-n.result - 0) c.take_readings.new.x in record {
      answer = c.put_record.ensures.answer
          ∙ ap₂ (λ (q : ℤ) (m : ℕ). valued (check_fits (code8 (nat_abs q) m) steps 0 (in_blocks lent)) (pos (code_length m (length lent / 8)))) (q-is ∙ c.base.ensures) c.layers.ensures
          ∙ ap (λ (x : List ℤ). valued (check_fits (code8 q m) steps 0 (in_blocks x)) (pos (code_length m (length x / 8)))) x-is
          ∙ encoded-is (eight_of a.s) a.s steps h out good X refl e.long;
      room = c.put_record.ensures.room
          ∙ ap₂ (λ (q : ℤ) (m : ℕ). written (check_fits (code8 (nat_abs q) m) steps 0 (in_blocks lent)) (code_record (code8 (nat_abs q) m) steps (in_blocks lent)) out) (q-is ∙ c.base.ensures) c.layers.ensures
          ∙ ap (λ (x : List ℤ). written (check_fits (code8 q m) steps 0 (in_blocks x)) (code_record (code8 q m) steps (in_blocks x)) out) x-is
          ∙ encoded_room-is (eight_of a.s) a.s steps h out good X refl e.long;
    }
