use Rattle.std.specs.Prelude.{◌≡◌, List, [], ℕ, ◌<◌, ℤ, get_or, Ok}
use Rattle.layers.specs.Code.{code8}
use Rattle.records.specs.Eight.Asked.{RecordTaken}
use Rattle.records.specs.Eight.Codes.{IsBlock, block_size, blocks_in, code_blocks}
use Rattle.records.proofs.Eight.Hours.{Sound}
use Rattle.records.specs.Eight.Vectors.{Hour, fvecs_hour}
use Rattle.records.specs.Frames.{Framed}
use Rattle.refusals.specs.declared.settings.Settings.{Settings}
use Rattle.refusals.specs.Limits.{blocks_most}
use Rattle.scores.specs.Eight.Scores.{check_code}
use Rattle.scores.specs.Hours.{check_hour}
use Rattle.scores.specs.Laws.Asked as asked
pub use Rattle.scores.specs.Laws.Asked.{hour-is, hour-last, room-is, room-taken}

pub code-taken : (steps q m least most place first : ℕ) (b : List ℕ) → check_code steps q m least most place first b ≡ Ok tt → RecordTaken steps q m least most b
code-taken steps q m = asked.code-taken steps (code8 q m)

pub taken-block : (steps q m least most : ℕ) (b : List ℕ) → RecordTaken steps q m least most b → (i : ℕ) → i < blocks_in m b → IsBlock steps q m (get_or (code_blocks m b) i [])
taken-block steps q m = asked.taken-block steps (code8 q m)

pub exact-blocks : (m K : ℕ) (b : List ℕ) → Framed 1 (block_size m) K K b → blocks_in m b ≡ K
exact-blocks m = asked.exact-blocks (code8 0 m)

abbrev pub HourTaken : Settings → List ℤ → Hour → Type 0
HourTaken = asked.HourTaken 8

pub hour-taken : (c : Settings) (steps : List ℤ) (h : Hour) → Sound h → check_hour c steps h ≡ Ok tt → HourTaken c steps h
hour-taken c steps h = asked.hour-taken c steps h 8

pub hour-framed : (c : Settings) (steps : List ℤ) (b : List ℕ) → check_hour c steps (fvecs_hour b) ≡ Ok tt → Framed 4 8 1 blocks_most b
hour-framed = asked.hour-framed 8
