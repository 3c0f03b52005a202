-- Which hours encoding accepts, and what it refuses first.
use Rattle.readings.specs.declared.Fault.TheVariants as fault
use Rattle.readings.specs.Taking.{Measured}
use Rattle.refusals.specs.Verdicts.{Verdict}
use Rattle.std.specs.Prelude.{◌≡◌, true, ◌↔◌, ℕ, ◌+◌, ◌*◌, ◌<◌, ℤ, length, get_or, Ok, Err}
use Rattle.std.proofs.Common.{◌∙◌, arith}
use mathlib.Core.List.{List, [], ◌∷◌}
use Rattle.std.specs.Float.{binary32}
use Rattle.std.specs.Float.Ieee.{nan_bits}
use Rattle.readings.specs.Words.{word_at, measure_at}
use Rattle.refusals.specs.declared.settings.Settings.{Settings}
use Rattle.refusals.specs.declared.Refusal.TheVariants.{Missing, OutOfRange}
use Rattle.refusals.specs.Laws.Verdicts.{first-accepted}
use Rattle.layers.specs.Code.{Code, size_of}
use Rattle.encoding.specs.Encode.{check_fits, encode_asked, check_encode}
use Rattle.encoding.proofs.Laws.Encoded.{encode-refused, encode-last}
use Rattle.encoding.specs.Laws.Fitting.{AllFitted, accepted-iff}
use Rattle.records.proofs.Laws.Hours.{fvecs-count, fvecs-reading, word-missing}
use Rattle.records.proofs.Laws.Vectors.{AllUnits, first-missing, first-beyond}
use Rattle.records.specs.Vectors.{Hour, fvecs_hour, check_readings, units_taken, in_blocks}

module _ (C : Code) (c : Settings) (steps : List ℤ) (h : Hour) (room : ℕ) where
  abbrev blocks : List (List ℤ)
  blocks = in_blocks (size_of C) (units_taken h.readings)

  -- an hour is accepted exactly where settings, steps, count and room are, no reading is missing or out of range, and every block has a listed step that fits it
  pub encode-accepted : (check_encode C c steps h room ≡ Ok tt)
      ↔ ((encode_asked C c steps h room ≡ Ok tt) × (check_readings 0 h.readings ≡ Ok tt) × AllFitted C steps (length blocks) blocks)
  unfolding check_encode
  encode-accepted =
      let asked : Verdict = encode_asked C c steps h room in let readings : Verdict = check_readings 0 h.readings in let fitting : Verdict = check_fits C steps 0 blocks in (
        λ e. let a = first-accepted asked (readings ∷ fitting ∷ []) e in let r = first-accepted readings (fitting ∷ []) a.1 in
            (a.0, r.0, (accepted-iff C steps 0 blocks).0 (first-accepted fitting [] r.1).0),
        λ t. encode-last C c steps h room (rw (t.0, t.1)) ∙ (accepted-iff C steps 0 blocks).1 t.2,
      )

  module _ (asked : encode_asked C c steps h room ≡ Ok tt) (i : ℕ) (d : Measured) (within : i < length h.readings) (before : AllUnits i h.readings d) where
    -- the first reading that is missing is named by 4, whatever the blocks are: so a null in the last block outranks overload in the first
    pub null-refused : get_or h.readings i d ≡ Err fault.Missing → check_encode C c steps h room ≡ Err (Missing i)
    null-refused e = encode-refused C c steps h room (Missing i) (rw (asked, first-missing i h.readings d within before e))

    -- and the first that is out of range by 5
    pub beyond-refused : get_or h.readings i d ≡ Err fault.OutOfRange → check_encode C c steps h room ≡ Err (OutOfRange i)
    beyond-refused e = encode-refused C c steps h room (OutOfRange i) (rw (asked, first-beyond i h.readings d within before e))

-- so the first NaN is named by 4
pub nan-refused : (C : Code) (c : Settings) (steps : List ℤ) (b : List ℕ) (room i : ℕ) → encode_asked C c steps (fvecs_hour (size_of C) b) room ≡ Ok tt → i < word_at b 0
    → ((j : ℕ) → j < i → (X : ℤ) × (measure_at b (4 + 4 * j) ≡ Ok X)) → nan_bits binary32 (word_at b (4 + 4 * i)) ≡ true → check_encode C c steps (fvecs_hour (size_of C) b) room ≡ Err (Missing i)
nan-refused C c steps b room i asked h before e = let d : Measured = Err fault.Missing in
    null-refused C c steps (fvecs_hour (size_of C) b) room asked i d (omega (arith, fvecs-count (size_of C) b)) (λ j k. ((before j k).0, fvecs-reading (size_of C) b j d (omega arith) ∙ (before j k).1)) (fvecs-reading (size_of C) b i d h ∙ word-missing b i e)
