-- From codes to readings (01, Layers and steps; Bytes).
use Rattle.std.specs.Prelude.{◌≡◌, List, [], ◌∷◌, ◌++◌, map, ℕ, ◌+◌, ◌*◌, ◌^◌, ◌≤◌, leb, ℤ, pos, nat_abs, ◌*ℤ◌, length}
use Rattle.std.specs.Float.{binary32}
use Rattle.std.specs.Float.Ieee.{to_bits}
use Rattle.integers.specs.Vectors.{«at»}
use Rattle.layers.specs.Digits.{joined}
use Rattle.readings.specs.Report.{decoded_value}
use Rattle.readings.specs.Words.{bytes_of}
use Rattle.refusals.specs.declared.settings.Settings.{Settings}
use Rattle.refusals.specs.declared.Refusal.TheVariants.{Size}
use Rattle.refusals.specs.Answers.{valued, written, Answer}
use Rattle.refusals.specs.Limits.{blocks_most}
use Rattle.refusals.specs.Settings.{check_settings}
use Rattle.refusals.specs.Steps.{check_steps}
use Rattle.refusals.specs.Verdicts.{unless, first_refusal, Verdict}
use Rattle.records.specs.Eight.Codes.{block_size, blocks_in, code_blocks, step_of, whole_point, check_frame, check_blocks}

-- a decoded reading s·e / 2048 as the four bytes of its binary32 pattern
abbrev pub reading_bytes : ℤ → ℤ → List ℕ
reading_bytes s e = bytes_of (to_bits binary32 (decoded_value s e))

-- eight coordinates whose readings at the step s are exact in single precision
pub record Readable (s : ℤ) (e : List ℤ) : Type 0 where
  pub long : length e ≡ 8
  pub exact : (i : ℕ) → nat_abs (s *ℤ «at» e i) ≤ 2 ^ 24

-- the 32 bytes of a decoded block
abbrev pub decoded_bytes : ℕ → ℕ → List ℤ → List ℕ → List ℕ
decoded_bytes q m steps b = joined (map (reading_bytes (step_of steps b)) (whole_point q m b))

-- the bytes of an fvecs record of K blocks, its dimension included
abbrev pub fvecs_length : ℕ → ℕ
fvecs_length K = 4 + 32 * K

-- the fvecs record of K coded blocks
abbrev pub decoded_record : ℕ → ℕ → List ℤ → ℕ → List (List ℕ) → List ℕ
decoded_record q m steps K l = bytes_of (8 * K) ++ joined (map (decoded_bytes q m steps) l)

-- settings; steps; the record's frame; room for 4 + 32 K bytes; the record's bytes
unfoldable pub check_decode : Settings → List ℤ → List ℕ → ℕ → Verdict
check_decode c steps b room = let m = nat_abs c.m in
    first_refusal (check_settings c ∷ check_steps 0 steps ∷ check_frame m 1 blocks_most 0 b ∷ unless (leb (fvecs_length (blocks_in m b)) room) (Size 1)
    ∷ check_blocks (length steps) (nat_abs c.q) (block_size m) 0 (code_blocks m b) ∷ [])

-- the whole answer: how many bytes were written
unfoldable pub decoded : Settings → List ℤ → List ℕ → ℕ → Answer
decoded c steps b room = valued (check_decode c steps b room) (pos (fvecs_length (blocks_in (nat_abs c.m) b)))

-- the room afterwards
unfoldable pub decoded_room : Settings → List ℤ → List ℕ → List ℕ → List ℕ
decoded_room c steps b out = let m = nat_abs c.m in written (check_decode c steps b (length out)) (decoded_record (nat_abs c.q) m steps (blocks_in m b) (code_blocks m b)) out
