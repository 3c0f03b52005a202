-- From readings to codes (01, Layers and steps; Bytes).
use Rattle.std.specs.Prelude.{cond, List, [], ◌∷◌, ◌++◌, map, ℕ, suc, ◌*◌, leb, ltb, ℤ, pos, length, Ok, Err}
use Rattle.blocks.specs.Trials.{first_fitting, block_code}
use Rattle.layers.specs.Digits.{joined}
use Rattle.readings.specs.Words.{bytes_of}
use Rattle.refusals.specs.declared.settings.Settings.{Settings}
use Rattle.refusals.specs.declared.Refusal.TheVariants.{Size, Overload}
use Rattle.refusals.specs.Answers.{valued, written, Answer}
use Rattle.refusals.specs.Settings.{check_settings}
use Rattle.refusals.specs.Steps.{check_steps}
use Rattle.refusals.specs.Verdicts.{unless, first_refusal, Verdict}
use Rattle.layers.specs.Code.{Code, size_of}
use Rattle.records.specs.Codes.{block_size, code_length}
use Rattle.records.specs.Vectors.{Hour, check_readings, units_taken, blocks_of, in_blocks}

-- a block that every listed step overloads is refused by its number, counted from k
abbrev pub check_fits : Code → List ℤ → ℕ → List (List ℤ) → Verdict
check_fits C steps k [] = Ok tt
check_fits C steps k (X ∷ l) = cond (ltb (first_fitting C.lattice C.rule C.q C.m steps X) (length steps)) (check_fits C steps (suc k) l) (Err (Overload k))

-- the bytes of the blocks, each at the first step that fits it
abbrev pub code_bytes : Code → List ℤ → List (List ℤ) → List ℕ
code_bytes C steps l = joined (map (block_code C.lattice C.rule C.q C.m steps) l)

-- their bvecs record: its dimension, then these
abbrev pub code_record : Code → List ℤ → List (List ℤ) → List ℕ
code_record C steps l = bytes_of (block_size C * length l) ++ code_bytes C steps l

-- settings; steps; the hour's count; room for the record
unfoldable pub encode_asked : Code → Settings → List ℤ → Hour → ℕ → Verdict
encode_asked C c steps h room = first_refusal (check_settings c ∷ check_steps 0 steps ∷ h.frame ∷ unless (leb (code_length C (blocks_of (size_of C) h)) room) (Size 1) ∷ [])

-- these; then its readings; last whether each block has a step that fits
unfoldable pub check_encode : Code → Settings → List ℤ → Hour → ℕ → Verdict
check_encode C c steps h room = first_refusal (encode_asked C c steps h room ∷ check_readings 0 h.readings ∷ check_fits C steps 0 (in_blocks (size_of C) (units_taken h.readings)) ∷ [])

-- the whole answer: how many bytes were written
unfoldable pub encoded : Code → Settings → List ℤ → Hour → ℕ → Answer
encoded C c steps h room = valued (check_encode C c steps h room) (pos (code_length C (blocks_of (size_of C) h)))

-- the room afterwards
unfoldable pub encoded_room : Code → Settings → List ℤ → Hour → List ℕ → List ℕ
encoded_room C c steps h out = written (check_encode C c steps h (length out)) (code_record C steps (in_blocks (size_of C) (units_taken h.readings))) out
