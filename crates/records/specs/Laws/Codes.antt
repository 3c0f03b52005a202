-- Laws of the one check of a code record.
use Rattle.std.specs.Prelude.{◌≡◌, refl, cond, List, [], ◌∷◌, ℕ, suc, ◌+◌, ◌*◌, ◌-◌, ◌<◌, ◌≤◌, ltb, length, get_or, take, drop, Err}
use Rattle.std.proofs.Common.{◌∙◌, ap, arith}
use Rattle.coding.specs.Answers.{check_below}
use Rattle.layers.specs.Digits.{cut}
use Rattle.refusals.specs.declared.Refusal.TheVariants.{Byte}
use Rattle.refusals.specs.Verdicts.{first_refusal}
use Rattle.records.specs.Codes.{check_block, check_blocks}
use Rattle.records.specs.Laws.Parts.{cut-next}

-- a block is checked by its first byte, then by its digits
pub block-opened : (steps q i : ℕ) (b : List ℕ) → 1 ≤ length b → check_block steps q i b ≡ cond (ltb (get_or b 0 0) steps) (check_below q (suc i) (drop 1 b)) (Err (Byte i))
block-opened steps q i [] h = absurd (omega arith)
block-opened steps q i (t ∷ ds) h = refl

-- the blocks from i on are checked by block i, then by those after it
pub blocks-opened : (steps q n first k i : ℕ) (f : List ℕ) → i < k → check_blocks steps q n (first + n * i) (cut n (k - i) (drop (n * i) f))
    ≡ first_refusal (check_block steps q (first + n * i) (take n (drop (n * i) f)) ∷ check_blocks steps q n (first + n * (i + 1)) (cut n (k - (i + 1)) (drop (n * (i + 1)) f)) ∷ [])
blocks-opened steps q n first k i f h =
    let rest : List (List ℕ) = cut n (k - (i + 1)) (drop (n * (i + 1)) f) in let e : first + n * i + n ≡ first + n * (i + 1) = omega arith in
    ap (check_blocks steps q n (first + n * i)) (cut-next n f k i h)
    ∙ ap (λ (j : ℕ). first_refusal (check_block steps q (first + n * i) (take n (drop (n * i) f)) ∷ check_blocks steps q n j rest ∷ [])) e
