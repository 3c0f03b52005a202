use Rattle.std.specs.Prelude.{List, ℕ, ◌+◌, ◌*◌, ◌/◌, ℤ, drop}
use Rattle.layers.specs.Digits.{cut}
use Rattle.readings.specs.Words.{word_at}
use Rattle.refusals.specs.declared.Refusal.TheVariants.{Record}
use Rattle.refusals.specs.Verdicts.{unless, Verdict}
use Rattle.layers.specs.Code.{code8}
use Rattle.records.specs.Codes as code
use Rattle.records.specs.Frames.{good_record}
pub use Rattle.records.specs.Codes.{step_of, check_block, check_blocks, AllAccepted, Raised, Digital, Coder}

abbrev pub block_size : ℕ → ℕ
block_size m = code.block_bytes 8 m

abbrev pub code_length : ℕ → ℕ → ℕ
code_length m K = 4 + block_size m * K

abbrev pub blocks_in : ℕ → List ℕ → ℕ
blocks_in m b = word_at b 0 / block_size m

abbrev pub code_blocks : ℕ → List ℕ → List (List ℕ)
code_blocks m b = cut (block_size m) (blocks_in m b) (drop 4 b)

abbrev pub whole_point : ℕ → ℕ → List ℕ → List ℤ
whole_point q m b = code.whole_point (code8 q m) b

abbrev pub check_frame : ℕ → ℕ → ℕ → ℕ → List ℕ → Verdict
check_frame m least most place b = unless (good_record 1 (block_size m) least most b) (Record place)

abbrev pub IsBlock : ℕ → ℕ → ℕ → List ℕ → Type 0
IsBlock steps q m b = code.IsBlock steps (code8 q m) b

abbrev pub AreBlocks : ℕ → ℕ → ℕ → ℕ → List ℕ → Type 0
AreBlocks steps q m k f = code.AreBlocks steps (code8 q m) k f

abbrev pub AreCodes : ℕ → ℕ → ℕ → List ℕ → Type 0
AreCodes q m k f = code.AreCodes (code8 q m) k f
