-- What it says that an hour and a code record were taken for a score and not refused.
use Rattle.std.specs.Prelude.{◌≡◌, refl, Bool, true, false, ℕ, ◌<◌, ℤ, length, get_or, drop, Ok, Err}
use Rattle.std.proofs.Common.{sym, ◌∙◌, subst, arith}
use Rattle.std.proofs.Math.Path.{ap, ap₂}
use mathlib.Core.List.{List, [], ◌∷◌, ◌++◌}
use Rattle.layers.specs.Code.{Code}
use Rattle.records.specs.Codes.{IsBlock, block_size, blocks_in, code_blocks, check_frame, check_blocks, CoderTaken, RecordTaken}
use Rattle.records.specs.Frames.{whole_blocks, good_record, Framed}
use Rattle.records.specs.Laws.Asked.{coder-taken, record-taken}
use Rattle.records.specs.Laws.Frames.{record-framed}
use Rattle.records.proofs.Laws.Hours.{Sound, units_small, taken-all}
use Rattle.records.specs.Laws.Parts.{cut_at}
use Rattle.records.specs.Vectors.{Hour, fvecs_hour, check_readings, units_taken, UnitsTaken}
use Rattle.refusals.specs.declared.settings.Settings.{Settings}
use Rattle.refusals.specs.declared.Refusal.TheVariants.{Record}
use Rattle.refusals.specs.Laws.Verdicts.{unless-accepted, first-accepted, first-last, first-append}
use Rattle.refusals.specs.Limits.{blocks_most}
use Rattle.refusals.specs.Settings.{check_settings}
use Rattle.refusals.specs.Steps.{check_steps}
use Rattle.refusals.specs.Verdicts.{unless, first_refusal, Verdict}
use Rattle.scores.specs.Hours.{check_hour, units_front, hour_room}
use Rattle.scores.specs.Scores.{check_code}

-- a code record
pub code-taken : (steps : ℕ) (C : Code) (least most place first : ℕ) (b : List ℕ) → check_code steps C least most place first b ≡ Ok tt → RecordTaken steps C least most b
unfolding check_code
code-taken steps C least most place first b e =
    let bytes : Verdict = check_blocks steps C.q (block_size C) first (code_blocks C b) in let f = first-accepted (check_frame C least most place b) (bytes ∷ []) e in
    record-taken steps C least most place first b f.0 (first-accepted bytes [] f.1).0

-- its block i
pub taken-block : (steps : ℕ) (C : Code) (least most : ℕ) (b : List ℕ) → RecordTaken steps C least most b → (i : ℕ) → i < blocks_in C b → IsBlock steps C (get_or (code_blocks C b) i [])
taken-block steps C least most b h i k = subst (IsBlock steps C) (sym (cut_at (block_size C) (blocks_in C b) i (drop 4 b) k)) (h.blocks.each i k)

-- of exactly K blocks
pub exact-blocks : (C : Code) (K : ℕ) (b : List ℕ) → Framed 1 (block_size C) K K b → blocks_in C b ≡ K
exact-blocks C K b h = omega (arith, h.whole.some, h.whole.few)

-- so one of another number of blocks is refused by its place, whatever its bytes are
pub other-refused : (steps : ℕ) (C : Code) (K place first : ℕ) (b : List ℕ) → (blocks_in C b ≡ K → ⊥) → check_code steps C K K place first b ≡ Err (Record place)
unfolding check_code
other-refused steps C K place first b apart = go (good_record 1 (block_size C) K K b) (record-framed 1 (block_size C) K K b)
  where
    go : (f : Bool) → (f ≡ true → Framed 1 (block_size C) K K b) → first_refusal (unless f (Record place) ∷ check_blocks steps C.q (block_size C) first (code_blocks C b) ∷ []) ≡ Err (Record place)
    go true h = absurd (apart (exact-blocks C K b (h refl)))
    go false h = refl

-- an hour
pub record HourTaken (n : ℕ) (c : Settings) (steps : List ℤ) (h : Hour) : Type 0 where
  pub taken : CoderTaken c steps
  pub units : UnitsTaken n (units_taken h.readings)
  pub long : length (units_taken h.readings) ≡ length h.readings
  pub readings : check_readings 0 h.readings ≡ Ok tt

module _ (c : Settings) (steps : List ℤ) (h : Hour) where
  pub hour-taken : (n : ℕ) → Sound n h → check_hour c steps h ≡ Ok tt → HourTaken n c steps h
  unfolding check_hour
  hour-taken n sound e =
      let readings : Verdict = check_readings 0 h.readings in
      let s = first-accepted (check_settings c) (check_steps 0 steps ∷ h.frame ∷ readings ∷ []) e in let l = first-accepted (check_steps 0 steps) (h.frame ∷ readings ∷ []) s.1 in
      let f = first-accepted h.frame (readings ∷ []) l.1 in let r = first-accepted readings [] f.1 in let long = taken-all h.readings r.0 in
      record {
        taken = coder-taken c 0 steps s.0 l.0;
        units = record { whole = ap (whole_blocks n 1 blocks_most) long ∙ sound.counted f.0; small = units_small h.readings sound.ranged };
        long = long;
        readings = r.0;
      }

  -- by what each check says, the first two made as one
  pub hour-is : (v f r : Verdict) → first_refusal (check_settings c ∷ check_steps 0 steps ∷ []) ≡ v → h.frame ≡ f → check_readings 0 h.readings ≡ r → check_hour c steps h ≡ first_refusal (v ∷ f ∷ r ∷ [])
  unfolding check_hour
  hour-is v f r d e g =
      first-append (check_settings c ∷ check_steps 0 steps ∷ []) (h.frame ∷ check_readings 0 h.readings ∷ [])
      ∙ ap (λ (v : Verdict). first_refusal (v ∷ h.frame ∷ check_readings 0 h.readings ∷ [])) d ∙ ap₂ (λ (f r : Verdict). first_refusal (v ∷ f ∷ r ∷ [])) e g

  -- after settings, steps and count, the readings decide
  pub hour-last : first_refusal (check_settings c ∷ check_steps 0 steps ∷ h.frame ∷ []) ≡ Ok tt → check_hour c steps h ≡ check_readings 0 h.readings
  unfolding check_hour
  hour-last e = let readings : Verdict = check_readings 0 h.readings in
      first-append (check_settings c ∷ check_steps 0 steps ∷ h.frame ∷ []) (readings ∷ []) ∙ ap (λ (v : Verdict). first_refusal (v ∷ readings ∷ [])) e ∙ first-last readings

  pub room-is : (v f : Verdict) (x : List ℤ) → first_refusal (check_settings c ∷ check_steps 0 steps ∷ []) ≡ v → h.frame ≡ f → hour_room c steps h x ≡ units_front (first_refusal (v ∷ f ∷ [])) (units_taken h.readings) x
  unfolding hour_room
  room-is v f x d e =
      ap (λ (w : Verdict). units_front w (units_taken h.readings) x)
      (first-append (check_settings c ∷ check_steps 0 steps ∷ []) (h.frame ∷ []) ∙ ap₂ (λ (v f : Verdict). first_refusal (v ∷ f ∷ [])) d e)

  -- the room of an accepted hour: its units, then the rest as found
  pub room-taken : (x : List ℤ) → check_hour c steps h ≡ Ok tt → hour_room c steps h x ≡ units_taken h.readings ++ drop (length (units_taken h.readings)) x
  unfolding hour_room check_hour
  room-taken x e =
      let readings : Verdict = check_readings 0 h.readings in let asked : List Verdict = check_settings c ∷ check_steps 0 steps ∷ h.frame ∷ [] in
      ap (λ (v : Verdict). units_front v (units_taken h.readings) x) (first-accepted (first_refusal asked) (readings ∷ []) (sym (first-append asked (readings ∷ [])) ∙ e)).0

-- an fvecs record that was accepted
pub hour-framed : (n : ℕ) (c : Settings) (steps : List ℤ) (b : List ℕ) → check_hour c steps (fvecs_hour n b) ≡ Ok tt → Framed 4 n 1 blocks_most b
unfolding check_hour
hour-framed n c steps b e =
    let h : Hour = fvecs_hour n b in let readings : Verdict = check_readings 0 h.readings in
    let s = first-accepted (check_settings c) (check_steps 0 steps ∷ h.frame ∷ readings ∷ []) e in let l = first-accepted (check_steps 0 steps) (h.frame ∷ readings ∷ []) s.1 in
    record-framed 4 n 1 blocks_most b (unless-accepted _ (Record 0) (first-accepted h.frame (readings ∷ []) l.1).0)
