-- Code records: which are good (01, Bytes; When the unit says no).
use Rattle.std.specs.Prelude.{◌≡◌, cond, List, [], ◌∷◌, ℕ, suc, ◌+◌, ◌*◌, ◌/◌, ◌^◌, ◌<◌, ◌≤◌, ltb, ℤ, nat_abs, length, get_or, take, drop, Ok, Err}
use Rattle.integers.specs.Vectors.{«at»}
use Rattle.coding.specs.Answers.{check_below}
use Rattle.layers.specs.Digits.{IsCode, cut}
use Rattle.layers.specs.Layers.{decode}
use Rattle.layers.specs.Sizes.{Base}
use Rattle.readings.specs.Words.{word_at}
use Rattle.refusals.specs.declared.Refusal.TheVariants.{Byte, Record}
use Rattle.refusals.specs.declared.settings.Settings.{Settings}
use Rattle.refusals.specs.Settings.{Allowed}
use Rattle.refusals.specs.Steps.{AllowedSteps}
use Rattle.refusals.specs.Limits.{q_most, m_most, power_most}
use Rattle.refusals.specs.Verdicts.{unless, first_refusal, Verdict}
use Rattle.layers.specs.Code.{Code, size_of}
use Rattle.records.specs.Frames.{good_record, Framed}

-- a block's bytes: T, then n digits for each of m layers
abbrev pub block_bytes : ℕ → ℕ → ℕ
block_bytes n m = n * m + 1

abbrev pub block_size : Code → ℕ
block_size C = block_bytes (size_of C) C.m

-- the bytes of a code record of K blocks, its dimension included
abbrev pub code_length : Code → ℕ → ℕ
code_length C K = 4 + block_size C * K

-- K of a code record, and its blocks
abbrev pub blocks_in : Code → List ℕ → ℕ
blocks_in C b = word_at b 0 / block_size C

abbrev pub code_blocks : Code → List ℕ → List (List ℕ)
code_blocks C b = cut (block_size C) (blocks_in C b) (drop 4 b)

-- the step that a coded block names, and its doubled point
abbrev pub step_of : List ℤ → List ℕ → ℤ
step_of steps b = «at» steps (get_or b 0 0)

abbrev pub whole_point : Code → List ℕ → List ℤ
whole_point C b = decode C.lattice C.rule C.q (cut (size_of C) C.m (drop 1 b))

-- refusal 10 at the record's place, unless its dimension is K blocks' bytes, with K from least to most, and no byte is cut off
abbrev pub check_frame : Code → ℕ → ℕ → ℕ → List ℕ → Verdict
check_frame C least most place b = unless (good_record 1 (block_size C) least most b) (Record place)

-- a block's bytes, the first in the place i: T below the number of steps, each digit below q; else refusal 7 at the first that is not
abbrev pub check_block : ℕ → ℕ → ℕ → List ℕ → Verdict
check_block steps q i [] = Ok tt
check_block steps q i (t ∷ ds) = cond (ltb t steps) (check_below q (suc i) ds) (Err (Byte i))

-- blocks of n bytes in turn
abbrev pub check_blocks : ℕ → ℕ → ℕ → ℕ → List (List ℕ) → Verdict
check_blocks steps q n i [] = Ok tt
check_blocks steps q n i (b ∷ l) = first_refusal (check_block steps q i b ∷ check_blocks steps q n (i + n) l ∷ [])

-- k blocks of n bytes that are accepted, whatever place the first byte has
abbrev pub AllAccepted : ℕ → ℕ → ℕ → ℕ → List ℕ → Type 0
AllAccepted steps q n k f = (i : ℕ) → check_blocks steps q n i (cut n k f) ≡ Ok tt

-- eight numbers, and eight digits of ds from the place a: the first n of r are below neither of theirs
pub record Raised (top ds : List ℕ) (a n : ℕ) (r : List ℕ) : Type 0 where
  pub long : length r ≡ 8
  pub kept : (j : ℕ) → j < n → get_or top j 0 ≤ get_or r j 0
  pub found : (j : ℕ) → j < n → get_or ds (a + j) 0 ≤ get_or r j 0

-- ---- what the code relies on, once checked

-- q and m within their limits
pub record Digital (q : ℤ) (m : ℕ) : Type 0 where
  pub base : Base q
  pub digit : nat_abs q ≤ q_most
  pub few : m ≤ m_most
  pub power : nat_abs q ^ m ≤ power_most

-- q, m and a step list
pub record Coder (q : ℤ) (m : ℕ) (steps : List ℤ) : Type 0 where
  pub base : Base q
  pub digit : nat_abs q ≤ q_most
  pub few : m ≤ m_most
  pub power : nat_abs q ^ m ≤ power_most
  pub listed : AllowedSteps steps

-- settings and a step list that were taken
pub record CoderTaken (c : Settings) (steps : List ℤ) : Type 0 where
  pub allowed : Allowed c.q c.m
  pub coder : Coder c.q (nat_abs c.m) steps

-- a block: T below the number of steps, then the digits of m layers, below q
pub record IsBlock (steps : ℕ) (C : Code) (b : List ℕ) : Type 0 where
  pub long : length b ≡ block_size C
  pub first : get_or b 0 0 < steps
  pub code : IsCode (size_of C) C.q C.m (drop 1 b)

-- k of them in a row
pub record AreBlocks (steps : ℕ) (C : Code) (k : ℕ) (f : List ℕ) : Type 0 where
  pub long : block_size C * k ≤ length f
  pub each : (i : ℕ) → i < k → IsBlock steps C (take (block_size C) (drop (block_size C * i) f))

-- of each, the digits alone
pub record AreCodes (C : Code) (k : ℕ) (f : List ℕ) : Type 0 where
  pub long : block_size C * k ≤ length f
  pub each : (i : ℕ) → i < k → IsCode (size_of C) C.q C.m (drop 1 (take (block_size C) (drop (block_size C * i) f)))

-- a code record of least to most blocks
pub record RecordTaken (steps : ℕ) (C : Code) (least most : ℕ) (b : List ℕ) : Type 0 where
  pub frame : Framed 1 (block_size C) least most b
  pub blocks : AreBlocks steps C (blocks_in C b) (drop 4 b)
