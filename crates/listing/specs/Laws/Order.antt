-- What is shown of eight X: the order of its refusals, and what it says that none is given.
use Rattle.readings.specs.declared.Fault.TheVariants as fault
use Rattle.std.specs.Prelude.{◌≡◌, refl, Bool, true, false, cond, leb, ltb, ℤ, pos, length, replicate, Ok, Err}
use Rattle.std.proofs.Common.{sym, ◌∙◌, ap₂, arith, le-leb, take_all}
use Rattle.std.proofs.Math.Path.{ap}
use mathlib.Core.List.{List, [], ◌∷◌, ◌++◌, map, append-nil}
use Prim.Native.Nat.{ℕ, suc, ◌+◌, ◌/◌, ◌<◌, ◌≤◌}
use Rattle.std.proofs.Math.Decide.{dec_le}
use Rattle.std.proofs.Math.IntN.{nat_abs}
use Rattle.std.proofs.Math.ListN.{take, drop}
use Rattle.std.proofs.lemmas.List.{length-map}
use Rattle.std.proofs.Math.Seq.{take_at}
use Rattle.blocks.specs.Laws.Theorems.{block-digits, block-long8}
use Rattle.blocks.specs.Trials.{first_fitting, block_code}
use Rattle.layers.specs.Digits.{cut}
use Rattle.layers.specs.E8.{e8, nearest}
use Rattle.coding.specs.Laws.Asked.{checked-allowed}
use Rattle.readings.specs.Taking.{measure_units, Measured}
use Rattle.refusals.specs.declared.settings.Settings.{Settings}
use Rattle.refusals.specs.declared.Refusal.{Refusal}
use Rattle.refusals.specs.declared.Refusal.TheVariants.{Settings as BadSettings, Steps, Size, Overload, Record}
use Rattle.refusals.specs.Answers.{valued, written}
use Rattle.refusals.specs.Laws.Verdicts.{refused-never, first-accepted}
use Rattle.refusals.specs.Limits.{m_most}
use Rattle.refusals.specs.Settings.{good_settings, check_settings}
use Rattle.refusals.specs.Steps.{good_steps, check_steps}
use Rattle.refusals.specs.Verdicts.{spot_of, place_of, unless, first_refusal, Verdict, verdict_of}
use Rattle.records.specs.Eight.Codes.{IsBlock, block_size, code_length}
use Rattle.records.specs.Frames.{whole_blocks}
use Rattle.records.specs.Eight.Asked.{CoderTaken, coder-taken, coder-positive, steps-positive}
use Rattle.records.proofs.Eight.Hours.{units-taken}
use Rattle.records.specs.Eight.Vectors.{Hour, units_hour, check_readings, units_taken, blocks_of, in_blocks}
use Rattle.layers.specs.Code.{code8, eight_of}
use Rattle.encoding.specs.Encode.{check_fits, code_bytes, code_record, encode_asked, check_encode, encoded, encoded_room}
use Rattle.encoding.specs.Laws.Encode.{fits-none}
use Rattle.listing.specs.Listing.{block_listing, refusal_line, printed, check_shown, block_shown, shown}
use Rattle.texts.specs.Text.{line_of, numbers, settings_in, well_formed}

-- the frame passes, and so does the room where the settings do
in_order : (a b f g r k l : Verdict) → f ≡ Ok tt → (a ≡ Ok tt → g ≡ Ok tt) → (r ≡ Ok tt → k ≡ l) → first_refusal (first_refusal (a ∷ b ∷ f ∷ g ∷ []) ∷ r ∷ k ∷ []) ≡ first_refusal (a ∷ b ∷ r ∷ l ∷ [])
in_order (Err p) b f g r k l e h m = refl
in_order (Ok u) (Err p) f g r k l e h m = refl
in_order (Ok u) (Ok u2) f g (Err p) k l e h m = ap₂ (λ (f g : Verdict). first_refusal (first_refusal (f ∷ g ∷ []) ∷ Err p ∷ k ∷ [])) e (h refl)
in_order (Ok u) (Ok u2) f g (Ok u3) k l e h m = ap₂ (λ (f g : Verdict). first_refusal (first_refusal (f ∷ g ∷ []) ∷ (Ok tt) ∷ k ∷ [])) e (h refl) ∙ ap (λ (k : Verdict). first_refusal (k ∷ [])) (m refl)

-- ---- places

readings-place : (i : ℕ) (l : List Measured) → place_of (check_readings i l) ≤ i + length l
readings-place i [] = omega arith
readings-place i (Ok x ∷ l) = omega (arith, readings-place (suc i) l)
readings-place i (Err fault.Missing ∷ l) = omega arith
readings-place i (Err fault.OutOfRange ∷ l) = omega arith

unless-place : (b : Bool) (r : Refusal) → place_of (unless b r) ≤ spot_of r
unless-place true r = omega arith
unless-place false r = omega arith

fits-place : (q m : ℕ) (steps X : List ℤ) → place_of (check_fits (code8 q m) steps 0 (X ∷ [])) ≤ 0
fits-place q m steps X = go (ltb (first_fitting e8 nearest q m steps X) (length steps))
  where
    go : (b : Bool) → place_of {A = Unit {0}} (cond b (Ok tt) (Err (Overload 0))) ≤ 0
    go true = omega arith
    go false = omega arith

first-place : (a b r k : Verdict) → place_of a ≤ 8 → place_of b ≤ 8 → place_of r ≤ 8 → place_of k ≤ 8 → place_of (first_refusal (a ∷ b ∷ r ∷ k ∷ [])) ≤ 8
first-place (Err p) b r k h i j l = h
first-place (Ok u) (Err p) r k h i j l = i
first-place (Ok u) (Ok u2) (Err p) k h i j l = j
first-place (Ok u) (Ok u2) (Ok u3) (Err p) h i j l = l
first-place (Ok u) (Ok u2) (Ok u3) (Ok u4) h i j l = h

-- ---- eight X

module _ (c : Settings) (steps X : List ℤ) (eight : length X ≡ 8) where
  abbrev q : ℕ
  q = nat_abs c.q

  abbrev m : ℕ
  m = nat_abs c.m

  -- eight X are one block
  one_block : in_blocks X ≡ X ∷ []
  one_block = ap (λ (n : ℕ). cut 8 (n / 8) X) eight ∙ ap (λ (x : List ℤ). x ∷ []) (take_all 8 X (omega (arith, eight)))

  framed : (units_hour X).frame ≡ Ok tt
  unfolding whole_blocks
  framed = ap (λ (n : ℕ). unless (whole_blocks 8 1 64 n) (Size 0)) eight

  roomy : check_settings c ≡ Ok tt → unless (leb (code_length m (blocks_of (units_hour X))) (code_length m_most 1)) (Size 1) ≡ Ok tt
  roomy e =
      let one : blocks_of (units_hour X) ≡ 1 = ap (λ (n : ℕ). n / 8) (length-map X measure_units ∙ eight) in
      ap (λ (n : ℕ). unless (leb (code_length m n) (code_length m_most 1)) (Size 1)) one
      ∙ ap (λ (b : Bool). unless b (Size 1)) (le-leb (code_length m 1) (code_length m_most 1) (omega (arith, (checked-allowed c e).m-most)))

  -- the order of its refusals: 1, 2, 5 at the first reading that is out of range, 6
  pub shown-order : check_shown c steps X ≡ first_refusal (check_settings c ∷ check_steps 0 steps ∷ check_readings 0 (map measure_units X) ∷ check_fits (code8 q m) steps 0 (X ∷ []) ∷ [])
  unfolding check_shown check_encode encode_asked
  shown-order = in_order (check_settings c) (check_steps 0 steps) _ _ (check_readings 0 (map measure_units X)) _ (check_fits (code8 q m) steps 0 (X ∷ [])) framed roomy
      (λ e. ap (check_fits (code8 q m) steps 0) (ap in_blocks (units-taken 0 X e) ∙ one_block))

  -- a refusal's place is small
  pub shown-place : (r : Refusal) → check_shown c steps X ≡ Err r → spot_of r ≤ 8
  shown-place r e =
      let a : Verdict = check_settings c in let b : Verdict = check_steps 0 steps in let v : Verdict = check_readings 0 (map measure_units X) in let k : Verdict = check_fits (code8 q m) steps 0 (X ∷ []) in
      let ha : place_of a ≤ 0 = unless-place (good_settings c.q c.m) BadSettings in let hb : place_of b ≤ 0 = unless-place (good_steps steps) (Steps 0) in
      let hv : place_of v ≤ 0 + length (map measure_units X) = readings-place 0 (map measure_units X) in let hk : place_of k ≤ 0 = fits-place q m steps X in
      omega (arith, first-place a b v k (omega arith) (omega arith) (omega (arith, length-map X measure_units, eight)) (omega arith), ap place_of (sym shown-order ∙ e))

  -- ---- where nothing is refused

  module _ (ok : check_shown c steps X ≡ Ok tt) where
    checked : (check_settings c ≡ Ok tt) × (check_steps 0 steps ≡ Ok tt) × (check_readings 0 (map measure_units X) ≡ Ok tt) × (check_fits (code8 q m) steps 0 (X ∷ []) ≡ Ok tt)
    checked =
        let b : Verdict = check_steps 0 steps in let r : Verdict = check_readings 0 (map measure_units X) in let k : Verdict = check_fits (code8 q m) steps 0 (X ∷ []) in
        let s = first-accepted (check_settings c) (b ∷ r ∷ k ∷ []) (sym shown-order ∙ ok) in let l = first-accepted b (r ∷ k ∷ []) s.1 in
        let v = first-accepted r (k ∷ []) l.1 in (s.0, l.0, v.0, (first-accepted k [] v.1).0)

    -- settings and steps are allowed
    pub shown-taken : CoderTaken c steps
    shown-taken = coder-taken c 0 steps checked.0 checked.1

    fitting : first_fitting e8 nearest q m steps X < length steps
    fitting = elim (dec_le (length steps) (first_fitting e8 nearest q m steps X)) [
      | yes h ↦ refused-never (sym (fits-none (code8 q m) steps 0 X [] h) ∙ checked.3)
      | no h ↦ omega arith
    ]

    abbrev code : List ℕ
    code = block_code e8 nearest q m steps X

    -- the code is a block
    pub shown-block : IsBlock (length steps) q m code
    shown-block = let coder = shown-taken.coder in record {
      long = block-long8 q m steps X;
      first = fitting;
      code = block-digits e8 nearest X eight q m (coder-positive c.q m steps coder) steps (steps-positive c.q m steps coder) fitting;
    }

    -- and it stands after the dimension of the record that is left in fresh room
    pub shown-code : take (block_size m) (drop 4 (encoded_room (eight_of c) c steps (units_hour X) (replicate 37 0))) ≡ code
    unfolding encoded_room check_shown
    shown-code =
        let n : ℕ = block_size m in let rest : List (List ℤ) → List ℕ = λ l. drop (length (code_record (code8 q m) steps l)) (replicate 37 0) in
        let one : in_blocks (units_taken (map measure_units X)) ≡ X ∷ [] = ap in_blocks (units-taken 0 X checked.2) ∙ one_block in
        ap (λ (v : Verdict). take n (drop 4 (written v (code_record (code8 q m) steps (in_blocks (units_taken (map measure_units X)))) (replicate 37 0)))) ok
        ∙ ap (λ (l : List (List ℤ)). take n (code_bytes (code8 q m) steps l ++ rest l)) one
        ∙ ap (λ (f : List ℕ). take n (f ++ rest (X ∷ []))) (append-nil code) ∙ take_at code (rest (X ∷ [])) n (block-long8 q m steps X)

-- the answer's verdict is the operation's
pub encoded-verdict : (c : Settings) (steps : List ℤ) (h : Hour) (room : ℕ) → verdict_of (encoded (eight_of c) c steps h room) ≡ check_encode (eight_of c) c steps h room
unfolding encoded
encoded-verdict c steps h room = go (check_encode (eight_of c) c steps h room) (pos (code_length (nat_abs c.m) (blocks_of h)))
  where
    go : (v : Verdict) (z : ℤ) → verdict_of (valued v z) ≡ v
    go (Ok u) z = refl
    go (Err r) z = refl

-- what is shown of eight X by their verdict
module _ (c : Settings) (steps X : List ℤ) where
  pub block_refused : (r : Refusal) → check_shown c steps X ≡ Err r → refusal_line r ≡ block_shown c steps X
  unfolding block_shown
  block_refused r e = let q = nat_abs c.q in let m = nat_abs c.m in ap (λ (v : Verdict). printed v (block_listing q m steps (block_code e8 nearest q m steps X))) (sym e)

  pub block-accepted : check_shown c steps X ≡ Ok tt → let q = nat_abs c.q in let m = nat_abs c.m in block_listing q m steps (block_code e8 nearest q m steps X) ≡ block_shown c steps X
  unfolding block_shown
  block-accepted e = let q = nat_abs c.q in let m = nat_abs c.m in ap (λ (v : Verdict). printed v (block_listing q m steps (block_code e8 nearest q m steps X))) (sym e)

-- what is shown of a text by its form
module _ (t : List ℕ) where
  pub text-malformed : well_formed t ≡ false → refusal_line (Record 0) ≡ shown t
  unfolding shown
  text-malformed e = ap (λ (b : Bool). printed (unless b (Record 0)) (block_shown (settings_in (line_of t 0)) (numbers (line_of t 1)) (numbers (line_of t 2)))) (sym e)

  pub text-formed : well_formed t ≡ true → block_shown (settings_in (line_of t 0)) (numbers (line_of t 1)) (numbers (line_of t 2)) ≡ shown t
  unfolding shown
  text-formed e = ap (λ (b : Bool). printed (unless b (Record 0)) (block_shown (settings_in (line_of t 0)) (numbers (line_of t 1)) (numbers (line_of t 2)))) (sym e)
