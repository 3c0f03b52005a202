-- The order of encoding, part by part, and what it says that the readings were taken.
use Rattle.std.specs.Prelude.{◌≡◌, ℕ, ◌/◌, ◌≤◌, leb, ℤ, pos, length, Ok, Err}
use Rattle.std.proofs.Common.{sym, ◌∙◌}
use Rattle.std.proofs.Math.Path.{ap, ap₂}
use mathlib.Core.List.{List, [], ◌∷◌}
use borrow.Author.Tests.{leb-true}
use Rattle.refusals.specs.declared.settings.Settings.{Settings}
use Rattle.refusals.specs.declared.Refusal.{Refusal}
use Rattle.refusals.specs.declared.Refusal.TheVariants.{Size, Record}
use Rattle.refusals.specs.Answers.{valued, written}
use Rattle.refusals.specs.Laws.Verdicts.{unless-accepted, first-accepted, first-last, first-append}
use Rattle.refusals.specs.Limits.{blocks_most}
use Rattle.refusals.specs.Settings.{check_settings}
use Rattle.refusals.specs.Steps.{check_steps}
use Rattle.refusals.specs.Verdicts.{unless, first_refusal, Verdict}
use Rattle.layers.specs.Code.{Code, size_of}
use Rattle.records.specs.Codes.{code_length, CoderTaken}
use Rattle.encoding.specs.Encode.{check_fits, code_record, encode_asked, check_encode, encoded, encoded_room}
use Rattle.records.specs.Frames.{whole_blocks, Framed}
use Rattle.records.specs.Laws.Asked.{coder-taken}
use Rattle.records.specs.Laws.Frames.{record-framed}
use Rattle.records.proofs.Laws.Hours.{Sound, units_small, taken-all}
use Rattle.records.specs.Vectors.{Hour, fvecs_hour, check_readings, units_taken, blocks_of, in_blocks, UnitsTaken}

-- what was asked for is allowed, and every reading was taken
pub record EncodeTaken (C : Code) (c : Settings) (steps : List ℤ) (h : Hour) (room : ℕ) : Type 0 where
  pub taken : CoderTaken c steps
  pub units : UnitsTaken (size_of C) (units_taken h.readings)
  pub long : length (units_taken h.readings) ≡ length h.readings
  pub fits : code_length C (blocks_of (size_of C) h) ≤ room

module _ (C : Code) (c : Settings) (steps : List ℤ) (h : Hour) (room : ℕ) where
  abbrev X : List ℤ
  X = units_taken h.readings

  abbrev asked : Verdict
  asked = encode_asked C c steps h room

  abbrev readings : Verdict
  readings = check_readings 0 h.readings

  abbrev fitting : Verdict
  fitting = check_fits C steps 0 (in_blocks (size_of C) X)

  -- the first two checks as one, then the count and the room
  pub asked_is : (v f w : Verdict) → first_refusal (check_settings c ∷ check_steps 0 steps ∷ []) ≡ v → h.frame ≡ f → unless (leb (code_length C (blocks_of (size_of C) h)) room) (Size 1) ≡ w
      → asked ≡ first_refusal (v ∷ f ∷ w ∷ [])
  unfolding encode_asked
  asked_is v f w d e g =
      let roomy : Verdict = unless (leb (code_length C (blocks_of (size_of C) h)) room) (Size 1) in
      first-append (check_settings c ∷ check_steps 0 steps ∷ []) (h.frame ∷ roomy ∷ [])
      ∙ ap (λ (v : Verdict). first_refusal (v ∷ h.frame ∷ roomy ∷ [])) d ∙ ap₂ (λ (f w : Verdict). first_refusal (v ∷ f ∷ w ∷ [])) e g

  -- the verdict of what comes before the last check
  opened : (v : Verdict) → first_refusal (asked ∷ readings ∷ []) ≡ v → check_encode C c steps h room ≡ first_refusal (v ∷ fitting ∷ [])
  unfolding check_encode
  opened v e = first-append (asked ∷ readings ∷ []) (fitting ∷ []) ∙ ap (λ (w : Verdict). first_refusal (w ∷ fitting ∷ [])) e

  pub encode-refused : (r : Refusal) → first_refusal (asked ∷ readings ∷ []) ≡ Err r → check_encode C c steps h room ≡ Err r
  encode-refused r e = opened (Err r) e

  pub encode-last : first_refusal (asked ∷ readings ∷ []) ≡ Ok tt → check_encode C c steps h room ≡ fitting
  encode-last e = opened (Ok tt) e ∙ first-last fitting

  pub encode-taken : Sound (size_of C) h → first_refusal (asked ∷ readings ∷ []) ≡ Ok tt → EncodeTaken C c steps h room
  unfolding encode_asked
  encode-taken sound e =
      let roomy : Verdict = unless (leb (code_length C (blocks_of (size_of C) h)) room) (Size 1) in
      let t = first-accepted asked (readings ∷ []) e in let r = first-accepted readings [] t.1 in
      let s = first-accepted (check_settings c) (check_steps 0 steps ∷ h.frame ∷ roomy ∷ []) t.0 in let l = first-accepted (check_steps 0 steps) (h.frame ∷ roomy ∷ []) s.1 in
      let f = first-accepted h.frame (roomy ∷ []) l.1 in let o = first-accepted roomy [] f.1 in let long = taken-all h.readings r.0 in
      record {
        taken = coder-taken c 0 steps s.0 l.0;
        units = record { whole = ap (whole_blocks (size_of C) 1 blocks_most) long ∙ sound.counted f.0; small = units_small h.readings sound.ranged };
        long = long;
        fits = leb-true (code_length C (blocks_of (size_of C) h)) room (unless-accepted _ (Size 1) o.0);
      }

-- a record whose frame was accepted
pub asked-framed : (C : Code) (c : Settings) (steps : List ℤ) (b : List ℕ) (room : ℕ) → encode_asked C c steps (fvecs_hour (size_of C) b) room ≡ Ok tt → Framed 4 (size_of C) 1 blocks_most b
unfolding encode_asked
asked-framed C c steps b room e =
    let h : Hour = fvecs_hour (size_of C) b in let roomy : Verdict = unless (leb (code_length C (blocks_of (size_of C) h)) room) (Size 1) in
    let s = first-accepted (check_settings c) (check_steps 0 steps ∷ h.frame ∷ roomy ∷ []) e in let l = first-accepted (check_steps 0 steps) (h.frame ∷ roomy ∷ []) s.1 in
    record-framed 4 (size_of C) 1 blocks_most b (unless-accepted _ (Record 0) (first-accepted h.frame (roomy ∷ []) l.1).0)

-- what the core answers and writes is the whole answer and the room
module _ (C : Code) (c : Settings) (steps : List ℤ) (h : Hour) (out : List ℕ) (e : first_refusal (encode_asked C c steps h (length out) ∷ check_readings 0 h.readings ∷ []) ≡ Ok tt)
    (X : List ℤ) (same : units_taken h.readings ≡ X) (long : length X ≡ length h.readings) where
  abbrev n : ℕ
  n = size_of C

  last : check_encode C c steps h (length out) ≡ check_fits C steps 0 (in_blocks (size_of C) X)
  last = encode-last C c steps h (length out) e ∙ ap (λ (X : List ℤ). check_fits C steps 0 (in_blocks (size_of C) X)) same

  pub encoded-is : valued (check_fits C steps 0 (in_blocks (size_of C) X)) (pos (code_length C (length X / n))) ≡ encoded C c steps h (length out)
  unfolding encoded
  encoded-is = ap₂ (λ (v : Verdict) (k : ℕ). valued v (pos (code_length C (k / n)))) (sym last) long

  pub encoded_room-is : written (check_fits C steps 0 (in_blocks (size_of C) X)) (code_record C steps (in_blocks (size_of C) X)) out ≡ encoded_room C c steps h out
  unfolding encoded_room
  encoded_room-is = ap₂ (λ (v : Verdict) (X : List ℤ). written v (code_record C steps (in_blocks (size_of C) X)) out) (sym last) (sym same)

-- a refusal before the last check
module _ (C : Code) (c : Settings) (steps : List ℤ) (h : Hour) (out : List ℕ) (r : Refusal) (e : first_refusal (encode_asked C c steps h (length out) ∷ check_readings 0 h.readings ∷ []) ≡ Err r) where
  pub encoded-refused : valued (Err r) (pos 0) ≡ encoded C c steps h (length out)
  unfolding encoded
  encoded-refused = ap (λ (v : Verdict). valued v (pos (code_length C (blocks_of (size_of C) h)))) (sym (encode-refused C c steps h (length out) r e))

  pub encoded_room-refused : out ≡ encoded_room C c steps h out
  unfolding encoded_room
  encoded_room-refused = ap (λ (v : Verdict). written v (code_record C steps (in_blocks (size_of C) (units_taken h.readings))) out) (sym (encode-refused C c steps h (length out) r e))
