-- What decoding makes of an encoded hour: for every hour, q, M and K, the nearest points again.
use Rattle.std.specs.Prelude.{◌≡◌, leb, ℤ, nat_abs, length, get_or, take, drop, Ok}
use Rattle.std.proofs.Math.Path.{sym, ap}
use Rattle.std.proofs.Common.{◌∙◌, arith, length-take, length-drop}
use mathlib.Core.List.{List, [], ◌∷◌, ◌++◌}
use Prim.Native.Nat.{ℕ, ◌+◌, ◌*◌, ◌/◌, ◌<◌, ◌≤◌}
use Rattle.blocks.specs.Trials.{point_at, first_fitting, block_code}
use Rattle.layers.specs.E8.{e8, nearest}
use Rattle.refusals.specs.declared.settings.Settings.{Settings}
use Rattle.refusals.specs.declared.Refusal.TheVariants.{Size}
use Rattle.refusals.specs.Answers.{written}
use Rattle.refusals.specs.Laws.Verdicts.{first-accepted}
use Rattle.refusals.specs.Limits.{blocks_most}
use Rattle.refusals.specs.Settings.{check_settings}
use Rattle.refusals.specs.Steps.{check_steps}
use Rattle.refusals.specs.Verdicts.{unless, Verdict}
use Rattle.records.specs.Eight.Codes.{block_size, code_length, blocks_in, code_blocks, step_of, whole_point}
use Rattle.decoding.specs.Decode.{fvecs_length, check_decode}
use Rattle.layers.specs.Code.{code8, eight_of}
use Rattle.encoding.specs.Encode.{code_record, encode_asked, check_encode, encoded_room}
use Rattle.decoding.specs.Laws.Decode.{decode-accepted}
use Rattle.encoding.proofs.Laws.Theorems.{encode-accepted}
use Rattle.encoding.proofs.Laws.Encoded.{EncodeTaken, encode-taken}
use Rattle.encoding.specs.Laws.Fitting.{AllFitted}
use Rattle.records.specs.Laws.Frames.{blocks-whole}
use Rattle.records.specs.Frames.{Whole}
use Rattle.records.proofs.Eight.Hours.{Sound}
use Rattle.records.specs.Laws.Parts.{cut-long, cut_at}
use Rattle.decoding.specs.Laws.Recorded.{record-count, record-good, block-bytes, encode-decodes, encoded-good}
use Rattle.records.specs.Eight.Vectors.{Hour, check_readings, units_taken, blocks_of, in_blocks}

module _ (c : Settings) (steps : List ℤ) (h : Hour) (sound : Sound h) (out : List ℕ) (ok : check_encode (eight_of c) c steps h (length out) ≡ Ok tt) where
  abbrev q : ℕ
  q = nat_abs c.q

  abbrev m : ℕ
  m = nat_abs c.m

  abbrev X : List ℤ
  X = units_taken h.readings

  -- the eight readings of block i
  abbrev part : ℕ → List ℤ
  part i = take 8 (drop (8 * i) X)

  -- what it says that the hour was accepted
  accepted : (encode_asked (eight_of c) c steps h (length out) ≡ Ok tt) × (check_readings 0 h.readings ≡ Ok tt) × AllFitted (code8 q m) steps (length (in_blocks X)) (in_blocks X)
  accepted = (encode-accepted (eight_of c) c steps h (length out)).0 ok

  taken : EncodeTaken (eight_of c) c steps h (length out)
  taken = encode-taken (eight_of c) c steps h (length out) sound (rw (accepted.0, accepted.1))

  whole : Whole 8 1 blocks_most (length X)
  whole = blocks-whole 8 1 blocks_most (length X) taken.units.whole

  -- its K blocks, each of eight readings
  count : length (in_blocks X) ≡ length X / 8
  count = cut-long 8 (length X / 8) X

  same_count : blocks_of h ≡ length (in_blocks X)
  same_count = ap (λ (n : ℕ). n / 8) (sym taken.long) ∙ sym count

  few : length (in_blocks X) ≤ blocks_most
  few = omega (arith, count, whole.few)

  block-is : (i : ℕ) → i < length (in_blocks X) → get_or (in_blocks X) i [] ≡ part i
  block-is i k = cut_at 8 (length X / 8) i X (omega (arith, count))

  eight : (i : ℕ) → i < length (in_blocks X) → length (get_or (in_blocks X) i []) ≡ 8
  eight i k = rw (block-is i k) (simp (length-take, length-drop) (omega (arith, count, whole.times)))

  abbrev after : List ℕ
  after = encoded_room (eight_of c) c steps h out

  abbrev rest : List ℕ
  rest = drop (length (code_record (code8 q m) steps (in_blocks X))) out

  -- the room: their record, then as found
  after_is : after ≡ code_record (code8 q m) steps (in_blocks X) ++ rest
  unfolding encoded_room
  after_is = ap (λ (v : Verdict). written v (code_record (code8 q m) steps (in_blocks X)) out) ok

  -- the room is a record that decoding accepts, where there is room for its readings
  pub room-accepted : (room : ℕ) → fvecs_length (blocks_of h) ≤ room → check_decode c steps after room ≡ Ok tt
  unfolding encode_asked
  room-accepted room k =
      let roomy : Verdict = unless (leb (code_length m (blocks_of h)) (length out)) (Size 1) in let b : List ℕ = code_record (code8 q m) steps (in_blocks X) ++ rest in let coder = taken.taken.coder in
      let s = first-accepted (check_settings c) (check_steps 0 steps ∷ h.frame ∷ roomy ∷ []) accepted.0 in let l = first-accepted (check_steps 0 steps) (h.frame ∷ roomy ∷ []) s.1 in
      let n : blocks_in m b ≡ blocks_of h = record-count q m steps (in_blocks X) rest few coder.few ∙ sym same_count in
      rw after_is (decode-accepted c steps b room s.0 l.0 (record-good q m steps (in_blocks X) rest few coder.few (omega (arith, count, whole.some))) (omega arith)
      (encoded-good c.q m steps coder (in_blocks X) rest few eight accepted.2))

  module _ (i : ℕ) (within : i < blocks_of h) where
    here : i < length (in_blocks X)
    here = omega (arith, same_count)

    -- each block of it names the first listed step that fits, and decodes to the nearest point of its eight readings at that step
    pub room-decodes : let b = get_or (code_blocks m after) i [] in (get_or b 0 0 ≡ first_fitting e8 nearest q m steps (part i)) × (whole_point q m b ≡ point_at e8 nearest (step_of steps b) (part i))
    room-decodes = rw (after_is, ← (block-is i here)) (encode-decodes c.q m steps taken.taken.coder (in_blocks X) rest few eight accepted.2 i here)

    -- its bytes are the code of those readings
    pub room-bytes : take (block_size m) (drop (4 + block_size m * i) after) ≡ block_code e8 nearest q m steps (part i)
    room-bytes = ap (λ (b : List ℕ). take (block_size m) (drop (4 + block_size m * i) b)) after_is ∙ block-bytes q m steps (in_blocks X) rest i here ∙ ap (block_code e8 nearest q m steps) (block-is i here)

-- so in two accepted encodings with equal settings and steps, a block's bytes depend on its own eight readings alone
pub room-bytes-same : (c : Settings) (steps : List ℤ) (h h' : Hour) (out out' : List ℕ) (i i' : ℕ) → Sound h → Sound h'
    → check_encode (eight_of c) c steps h (length out) ≡ Ok tt → check_encode (eight_of c) c steps h' (length out') ≡ Ok tt → i < blocks_of h → i' < blocks_of h'
    → take 8 (drop (8 * i) (units_taken h.readings)) ≡ take 8 (drop (8 * i') (units_taken h'.readings))
    → let n = block_size (nat_abs c.m) in take n (drop (4 + n * i) (encoded_room (eight_of c) c steps h out)) ≡ take n (drop (4 + n * i') (encoded_room (eight_of c) c steps h' out'))
room-bytes-same c steps h h' out out' i i' s s' ok ok' k k' e =
    room-bytes c steps h s out ok i k ∙ ap (block_code e8 nearest (nat_abs c.q) (nat_abs c.m) steps) e ∙ sym (room-bytes c steps h' s' out' ok' i' k')
