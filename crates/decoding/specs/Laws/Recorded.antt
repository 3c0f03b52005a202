-- What a reader finds in the code record of blocks l, whatever follows it, for every q, M and K.
use Rattle.std.specs.Prelude.{◌≡◌, true, List, [], ◌++◌, map, ℕ, ◌+◌, ◌*◌, ◌/◌, ◌<◌, ◌≤◌, ℤ, nat_abs, length, get_or, take, drop, Ok}
use Rattle.std.proofs.Common.{sym, ◌∙◌, ap, mul-le-mul, arith, length-append, drop-drop}
use Rattle.std.proofs.Math.Nat.{mul-div_right}
use Rattle.std.proofs.lemmas.List.{length-map}
use Rattle.integers.specs.Laws.Loops.{map_at}
use Rattle.blocks.specs.Laws.Fitting.{fitting-iff}
use Rattle.blocks.specs.Laws.Theorems.{block-digits, block-decodes, block-long8}
use Rattle.blocks.specs.Trials.{point_at, first_fitting, block_code}
use Rattle.layers.specs.E8.{e8, nearest}
use Rattle.readings.proofs.Laws.Words.{word_first}
use Rattle.readings.specs.Words.{word_at}
use Rattle.refusals.specs.Limits.{blocks_most, m_most}
use Rattle.records.specs.Eight.Codes.{block_size, blocks_in, code_blocks, check_blocks, Coder, IsBlock, step_of, whole_point}
use Rattle.layers.specs.Code.{code8}
use Rattle.encoding.specs.Encode.{code_bytes, code_record}
use Rattle.records.specs.Frames.{good_record}
use Rattle.records.specs.Eight.Asked.{coder-positive, steps-positive, blocks-accepted}
use Rattle.encoding.specs.Laws.Encode.{code_record-long}
use Rattle.encoding.specs.Laws.Fitting.{AllFitted}
use Rattle.records.specs.Laws.Frames.{whole-blocks, frame-good}
use Rattle.records.specs.Laws.Parts.{cut-made, part-made}

module _ (q m : ℕ) (steps : List ℤ) (l : List (List ℤ)) (rest : List ℕ) where
  abbrev found : List ℕ
  found = code_record (code8 q m) steps l ++ rest

  abbrev code : List ℤ → List ℕ
  code = block_code e8 nearest q m steps

  module _ (few : length l ≤ blocks_most) (layers : m ≤ m_most) where
    dimension : word_at found 0 ≡ block_size m * length l
    dimension = let s : block_size m ≤ 33 = omega arith in word_first (block_size m * length l) (code_bytes (code8 q m) steps l ++ rest) (omega (arith, mul-le-mul s few))

    -- as many blocks as there are
    pub record-count : blocks_in m found ≡ length l
    record-count = let s : 0 < block_size m = omega arith in ap (λ (n : ℕ). n / block_size m) dimension ∙ mul-div_right (length l) s

    -- and these are the blocks' codes
    pub record-blocks : code_blocks m found ≡ map code l
    record-blocks = rw record-count (cut-made code (block_size m) (block-long8 q m steps) l rest)

    -- in a good frame
    pub record-good : 1 ≤ length l → good_record 1 (block_size m) 1 blocks_most found ≡ true
    record-good h = frame-good 1 (block_size m) 1 blocks_most found (rw dimension (simp length-append (omega (arith, code_record-long q m steps l))))
        (rw dimension (whole-blocks (block_size m) 1 blocks_most (length l) (omega arith) h few))

  -- block i's bytes stand in their own place
  pub block-bytes : (i : ℕ) → i < length l → take (block_size m) (drop (4 + block_size m * i) found) ≡ code (get_or l i [])
  block-bytes i h = ap (take (block_size m)) (sym (drop-drop (block_size m * i) 4 found)) ∙ part-made code (block_size m) (block-long8 q m steps) l rest i [] h

-- so they depend on its own eight readings alone, whatever the other blocks, their number K, and its place
pub block-bytes-same : (q m : ℕ) (steps : List ℤ) (l l' : List (List ℤ)) (rest rest' : List ℕ) (i i' : ℕ) → i < length l → i' < length l' → get_or l i [] ≡ get_or l' i' []
    → take (block_size m) (drop (4 + block_size m * i) (code_record (code8 q m) steps l ++ rest)) ≡ take (block_size m) (drop (4 + block_size m * i') (code_record (code8 q m) steps l' ++ rest'))
block-bytes-same q m steps l l' rest rest' i i' h h' e =
    block-bytes q m steps l rest i h ∙ ap (block_code e8 nearest q m steps) e ∙ sym (block-bytes q m steps l' rest' i' h')

-- ---- decoding what was encoded

module _ (q : ℤ) (m : ℕ) (steps : List ℤ) (coder : Coder q m steps) (l : List (List ℤ)) (rest : List ℕ) (few : length l ≤ blocks_most)
    (eight : (i : ℕ) → i < length l → length (get_or l i []) ≡ 8) (fitted : AllFitted (code8 (nat_abs q) m) steps (length l) l) where
  abbrev read : List (List ℕ)
  read = code_blocks m (code_record (code8 (nat_abs q) m) steps l ++ rest)

  read_is : read ≡ map (block_code e8 nearest (nat_abs q) m steps) l
  read_is = record-blocks (nat_abs q) m steps l rest few coder.few

  module _ (i : ℕ) (within : i < length l) where
    abbrev X : List ℤ
    X = get_or l i []

    abbrev b : List ℕ
    b = get_or read i []

    b-is : b ≡ block_code e8 nearest (nat_abs q) m steps X
    b-is = ap (λ (r : List (List ℕ)). get_or r i []) read_is ∙ map_at (block_code e8 nearest (nat_abs q) m steps) l i [] [] within

    fits-here : first_fitting e8 nearest (nat_abs q) m steps X < length steps
    fits-here = (fitting-iff e8 nearest (nat_abs q) m X steps).1 (fitted i within)

    -- each block names the first listed step that fits it, and decodes to the nearest point of its readings at that step
    pub encode-decodes : (get_or b 0 0 ≡ first_fitting e8 nearest (nat_abs q) m steps X) × (whole_point (nat_abs q) m b ≡ point_at e8 nearest (step_of steps b) X)
    encode-decodes = rw b-is (block-decodes e8 nearest X (eight i within) (nat_abs q) m (coder-positive q m steps coder) steps (steps-positive q m steps coder) fits-here)

    block-good : IsBlock (length steps) (nat_abs q) m b
    block-good = rw b-is (record {
      long = block-long8 (nat_abs q) m steps X;
      first = fits-here;
      code = block-digits e8 nearest X (eight i within) (nat_abs q) m (coder-positive q m steps coder) steps (steps-positive q m steps coder) fits-here;
    })

  -- so that no byte of it is refused
  pub encoded-good : check_blocks (length steps) (nat_abs q) (block_size m) 0 read ≡ Ok tt
  encoded-good = let n : length read ≡ length l = ap length read_is ∙ length-map l (block_code e8 nearest (nat_abs q) m steps) in
      blocks-accepted (length steps) (nat_abs q) m (block_size m) 0 read (λ j k. block-good j (omega arith))
