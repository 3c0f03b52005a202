use Rattle.std.specs.Prelude.{◌≡◌, List, [], ℕ, ◌*◌, ◌<◌, ◌≤◌, length, get_or, drop, Ok}
use Rattle.layers.specs.Digits.{cut}
use Rattle.layers.specs.Code.{code8}
use Rattle.records.specs.Eight.Codes.{block_size, blocks_in, code_blocks, check_frame, check_blocks, IsBlock, AreBlocks}
use Rattle.records.specs.Codes as code
use Rattle.records.specs.Laws.Asked as asked
use Rattle.records.specs.Frames.{Framed}
pub use Rattle.records.specs.Laws.Asked.{coder-taken, coder-accepted, used-steps, coder-positive, steps-positive}
pub use Rattle.records.specs.Codes.{CoderTaken}

pub blocks-accepted : (steps q m n i : ℕ) (l : List (List ℕ)) → ((j : ℕ) → j < length l → IsBlock steps q m (get_or l j [])) → check_blocks steps q n i l ≡ Ok tt
blocks-accepted steps q m = asked.blocks-accepted steps (code8 q m)

pub blocks-taken : (steps q m k i : ℕ) (f : List ℕ) → block_size m * k ≤ length f → check_blocks steps q (block_size m) i (cut (block_size m) k f) ≡ Ok tt → AreBlocks steps q m k f
blocks-taken steps q m = asked.blocks-taken steps (code8 q m)

abbrev pub RecordTaken : ℕ → ℕ → ℕ → ℕ → ℕ → List ℕ → Type 0
RecordTaken steps q m least most b = code.RecordTaken steps (code8 q m) least most b

pub frame-holds : (m least most : ℕ) (b : List ℕ) → Framed 1 (block_size m) least most b → block_size m * blocks_in m b ≤ length (drop 4 b)
frame-holds m = asked.frame-holds (code8 0 m)

pub record-taken : (steps q m least most place i : ℕ) (b : List ℕ) → check_frame m least most place b ≡ Ok tt → check_blocks steps q (block_size m) i (code_blocks m b) ≡ Ok tt → RecordTaken steps q m least most b
record-taken steps q m = asked.record-taken steps (code8 q m)
