-- `encode_units` answers what is refused before coding, and else what the core answers.
use Rattle.std.specs.Prelude.{Ok}
use Rattle.std.proofs.Common.{◌≡◌, List, [], ◌∷◌, ℕ, ◌/◌, ◌≤◌, ℤ, pos, nat_abs, sym, ◌∙◌, ap₂, subst, subst₂, length, rules}
use lib.ListN.{length-map}
use mir.Syntax.{w64}
use mir.Val.{to_z, of_z}
use Rattle.readings.specs.Taking.{measure_units}
use Rattle.refusals.specs.declared.settings.Settings.{Settings}
use Rattle.refusals.specs.Answers.{valued, written}
use Rattle.refusals.specs.Laws.Verdicts.{first-accepted}
use Rattle.refusals.specs.Verdicts.{first_refusal}
use Rattle.layers.specs.Code.{code8, eight_of}
use Rattle.records.specs.Eight.Codes.{Coder, code_length}
use Rattle.records.proofs.Eight.Hours.{units-sound, units-taken}
use Rattle.records.specs.Eight.Vectors.{units_hour, check_readings, units_taken, in_blocks, UnitsTaken}
use Rattle.encoding.specs.Encode.{check_fits, code_record, encode_asked}
use Rattle.encoding.proofs.Laws.Encoded.{EncodeTaken, encode-taken, encoded-is, encoded_room-is, encoded-refused, encoded_room-refused}
use Rattle.encoding.proofs.encode_units.Goals as goal

-- where nothing is refused before coding
module _ (s : Settings) (steps x : List ℤ) (room : ℕ) (accepted : first_refusal (encode_asked (eight_of s) s steps (units_hour x) room ∷ check_readings 0 (units_hour x).readings ∷ []) ≡ Ok tt) where
  taken : EncodeTaken (eight_of s) s steps (units_hour x) room
  taken = encode-taken (eight_of s) s steps (units_hour x) room (units-sound x) accepted

  same : units_taken (units_hour x).readings ≡ x
  same = let r = first-accepted (encode_asked (eight_of s) s steps (units_hour x) room) (check_readings 0 (units_hour x).readings ∷ []) accepted in units-taken 0 x (first-accepted (check_readings 0 (units_hour x).readings) [] r.1).0

  long : length x ≡ length (units_hour x).readings
  long = sym (length-map x measure_units)

pub base-requires : goal.base-requires
base-requires c = let a = c.args in (taken a.s a.steps.now a.x.now (length a.out.now) (sym c.check_units_hour.ensures ∙ c.in_ok-check_units_hour.was)).taken.allowed

pub layers-requires : goal.layers-requires
layers-requires c = let a = c.args in (taken a.s a.steps.now a.x.now (length a.out.now) (sym c.check_units_hour.ensures ∙ c.in_ok-check_units_hour.was)).taken.allowed

pub put_record-requires : goal.put_record-requires
put_record-requires c = let a = c.args in let e = taken a.s a.steps.now a.x.now (length a.out.now) (sym c.check_units_hour.ensures ∙ c.in_ok-check_units_hour.was) in
    let q-is : to_z w64 (of_z w64 c.base.result) ≡ c.base.result = search rules in (
      subst₂ (λ (q : ℤ) (m : ℕ). Coder q m a.steps.now) (sym (q-is ∙ c.base.ensures)) (sym c.layers.ensures) e.taken.coder,
      subst UnitsTaken (same a.s a.steps.now a.x.now (length a.out.now) (sym c.check_units_hour.ensures ∙ c.in_ok-check_units_hour.was)) e.units,
      subst₂ (λ (m n : ℕ). code_length m (n / 8) ≤ length a.out.now) (sym c.layers.ensures) (length-map a.x.now measure_units) e.fits,
    )

pub returns-in_err-check_units_hour : goal.returns-in_err-check_units_hour
returns-in_err-check_units_hour c = let a = c.args in let e = sym c.check_units_hour.ensures ∙ c.in_err-check_units_hour.was in record {
  answer = (search rules) ∙ encoded-refused (eight_of a.s) a.s a.steps.now (units_hour a.x.now) a.out.now _ e;
  room = encoded_room-refused (eight_of a.s) a.s a.steps.now (units_hour a.x.now) a.out.now _ e;
}

pub returns : goal.returns
returns c = let a = c.args in let steps = a.steps.now in let x = a.x.now in let out = a.out.now in let e = sym c.check_units_hour.ensures ∙ c.in_ok-check_units_hour.was in
    let q-is : to_z w64 (of_z w64 c.base.result) ≡ c.base.result = search rules in record {
      answer = c.put_record.ensures.answer
          ∙ ap₂ (λ (q : ℤ) (m : ℕ). valued (check_fits (code8 (nat_abs q) m) steps 0 (in_blocks x)) (pos (code_length m (length x / 8)))) (q-is ∙ c.base.ensures) c.layers.ensures
          ∙ encoded-is (eight_of a.s) a.s steps (units_hour x) out e x (same a.s steps x (length out) e) (long a.s steps x (length out) e);
      room = c.put_record.ensures.room
          ∙ ap₂ (λ (q : ℤ) (m : ℕ). written (check_fits (code8 (nat_abs q) m) steps 0 (in_blocks x)) (code_record (code8 (nat_abs q) m) steps (in_blocks x)) out) (q-is ∙ c.base.ensures) c.layers.ensures
          ∙ encoded_room-is (eight_of a.s) a.s steps (units_hour x) out e x (same a.s steps x (length out) e) (long a.s steps x (length out) e);
    }
