-- `put_record` codes the blocks aside, and writes the dimension and the blocks only where each has a step that fits.
use Rattle.std.specs.Prelude.{Ok}
use Rattle.refusals.specs.Verdicts.{Verdict}
use Rattle.std.proofs.Common.{◌≡◌, List, ◌++◌, ℕ, ◌+◌, ◌*◌, ◌-◌, ◌/◌, ◌≤◌, ℤ, nat_abs, refl, sym, ◌∙◌, ap, ap₂, take, drop, length, length-take, length-drop, mul-le-mul, arith}
use borrow.Rule.Slice.PartMut.{put_mid}
use lib.Seq.{take_at}
use mir.Facts.{to_z-of_z}
use Rattle.readings.specs.Words.{bytes_of}
use Rattle.refusals.specs.Answers.{written}
use Rattle.layers.specs.Code.{Code, code8}
use Rattle.records.specs.Eight.Codes.{Coder, block_size, code_length}
use Rattle.records.specs.Eight.Vectors.{in_blocks, UnitsTaken}
use Rattle.records.specs.Eight.Asked.{used-steps}
use Rattle.records.specs.Laws.Parts.{cut-long, write-rest}
use Rattle.records.specs.Laws.Frames.{blocks-whole}
use Rattle.records.specs.Frames.{Whole}
use Rattle.encoding.specs.Encode.{code_bytes, code_record}
use Rattle.encoding.specs.Laws.Encode.{code_bytes-long, code_record-long}
use Rattle.encoding.proofs.put_record.Goals as goal

-- so many blocks of X, in their bytes
module _ (q : ℤ) (m : ℕ) (steps X : List ℤ) (coder : Coder q m steps) (units : UnitsTaken X) where
  abbrev C : Code
  C = code8 (nat_abs q) m

  abbrev k : ℕ
  k = length X / 8

  abbrev bytes : List ℕ
  bytes = code_bytes C steps (in_blocks X)

  whole : Whole 8 1 64 (length X)
  whole = blocks-whole 8 1 64 (length X) units.whole

  few : block_size m * k ≤ 33 * 64
  few = let l : block_size m ≤ 33 = omega (arith, coder.few) in mul-le-mul l whole.few

  bytes-are : length bytes ≡ block_size m * k
  bytes-are = code_bytes-long (nat_abs q) m steps (in_blocks X) ∙ ap (λ (j : ℕ). block_size m * j) (cut-long 8 k X)

  -- they stand at the front of what was coded aside, and are written after the dimension
  module _ (n : ℕ) (n-is : n ≡ block_size m) where
    all-is : (code first part found : List ℕ) (rest : List ℕ) → code ≡ bytes ++ rest → first ≡ bytes_of (n * k) ++ drop 4 found
        → part ≡ take (n * k) code ++ drop (n * k) (take (length first - 4) (drop 4 first)) → (v : Verdict) → v ≡ Ok tt
        → put_mid 4 (length first - 4) first part ≡ written v (code_record C steps (in_blocks X)) found
    all-is code first part found rest code-is first-is part-is v e =
        let size : n * k ≡ block_size m * k = ap (λ (j : ℕ). j * k) n-is in
        let coded : take (n * k) code ≡ bytes = ap (take (n * k)) code-is ∙ take_at bytes rest (n * k) (bytes-are ∙ sym size) in
        let record-is : code_record C steps (in_blocks X) ≡ bytes_of (n * k) ++ bytes = ap (λ (j : ℕ). bytes_of j ++ bytes) (ap (λ (j : ℕ). block_size m * j) (cut-long 8 k X) ∙ sym size) in
        let long : length (code_record C steps (in_blocks X)) ≡ 4 + n * k = code_record-long (nat_abs q) m steps (in_blocks X) ∙ ap (code_length m) (cut-long 8 k X) ∙ ap (λ (j : ℕ). 4 + j) (sym size) in
        ap (put_mid 4 (length first - 4) first) (part-is ∙ ap (λ (f : List ℕ). f ++ drop (n * k) (take (length first - 4) (drop 4 first))) coded)
        ∙ ap (λ (x : List ℕ). take 4 x ++ ((bytes ++ drop (n * k) (take (length x - 4) (drop 4 x))) ++ drop (length x - 4) (drop 4 x))) first-is
        ∙ write-rest (bytes_of (n * k)) found 4 bytes (n * k) refl
        ∙ ap₂ (λ (r : List ℕ) (j : ℕ). r ++ drop j found) (sym record-is) (sym long)
        ∙ ap (λ (v : Verdict). written v (code_record C steps (in_blocks X)) found) (sym e)

pub code_blocks-requires : goal.code_blocks-requires
code_blocks-requires c = let a = c.args in let r = c.requires.0 in let X = a.x.now in
    simp (to_z-of_z, c.ranges.q) (
      record { long = (whole a.q a.m a.steps.now X r c.requires.1).times; small = c.requires.1.small },
      used-steps a.steps.now r.listed,
      r.base,
      omega (arith, r.few),
      omega (arith, r.power),
      omega (arith, few a.q a.m a.steps.now X r c.requires.1),
    )

pub overflow_cast-n : goal.overflow_cast-n
overflow_cast-n c = record { fits = omega (arith, few c.args.q c.args.m c.args.steps.now c.args.x.now c.requires.0 c.requires.1, ap (λ (j : ℕ). j * (length c.args.x.now / 8)) c.block_size-n.ensures) }

pub put_blocks-requires : goal.put_blocks-requires
put_blocks-requires c = let h = few c.args.q c.args.m c.args.steps.now c.args.x.now c.requires.0 c.requires.1 in let e = ap (λ (j : ℕ). j * (length c.args.x.now / 8)) c.block_size-n.ensures in
    (omega (arith, h, e), simp (length-take, length-drop) (omega (arith, h, e, c.requires.2, ap length c.put_word.ensures)))

pub returns-clause-room : goal.returns-clause-room
returns-clause-room c = let a = c.args in
    all-is a.q a.m a.steps.now a.x.now c.requires.0 c.requires.1 _ c.block_size-n.ensures _ c.put_word.new.b _ a.out.now _ (simp (to_z-of_z, c.ranges.q) at c.code_blocks.ensures.room c.in_ok-code_blocks.was) c.put_word.ensures c.put_blocks.ensures
    _ (sym (simp (to_z-of_z, c.ranges.q) at c.code_blocks.ensures.answer) ∙ c.in_ok-code_blocks.was)
