-- `code_blocks` codes block after block: after i turns the bytes of the first i stand in front, and the blocks left give the same verdict as all.
use Rattle.std.specs.Prelude.{Err}
use Rattle.std.proofs.Common.{◌≡◌, List, ◌∷◌, ◌++◌, ℕ, ◌+◌, ◌*◌, ◌-◌, ◌^◌, ◌<◌, ◌≤◌, ℤ, nat_abs, sym, ◌∙◌, ap, ap₂, subst, add-one, take, drop, length, arith, rules}
use borrow.Rule.Slice.PartMut.{put_mid}
use mir.Facts.{to_z-of_z}
use Rattle.integers.specs.Laws.Sums.{sized-part}
use Rattle.integers.specs.Vectors.{Sized}
use Rattle.layers.specs.Code.{Code, code8}
use Rattle.layers.specs.Digits.{cut}
use Rattle.layers.specs.E8.{e8, nearest}
use Rattle.layers.proofs.Laws.Loops.{write-in}
use Rattle.layers.specs.Sizes.{Base}
use Rattle.blocks.specs.Laws.Theorems.{tried-block8}
use Rattle.blocks.specs.Limits.{UsedSteps}
use Rattle.blocks.specs.Trials.{first_fitting, block_code, tried_room}
use Rattle.refusals.specs.declared.Refusal.TheVariants.{Overload}
use Rattle.records.specs.Eight.Codes.{block_size}
use Rattle.records.specs.Laws.Parts.{part-ends, cut-next, cut-long}
use Rattle.encoding.specs.Encode.{check_fits, code_bytes}
use Rattle.encoding.specs.Laws.Encode.{fits_next, fits-none, code_bytes-long, code_bytes-more}
use Rattle.encoding.proofs.code_blocks.Goals as goal

-- block i of k
module _ (q : ℤ) (m k i : ℕ) (steps X : List ℤ) (h : i < k) where
  abbrev C : Code
  C = code8 (nat_abs q) m

  abbrev block : List ℤ
  block = take 8 (drop (8 * i) X)

  abbrev rest : List (List ℤ)
  rest = cut 8 (k - (i + 1)) (drop (8 * (i + 1)) X)

  eight : 8 * i + 8 - 8 * i ≡ 8
  eight = omega arith

  opened : check_fits C steps 0 (cut 8 k X) ≡ check_fits C steps i (cut 8 (k - i) (drop (8 * i) X)) → check_fits C steps 0 (cut 8 k X) ≡ check_fits C steps i (block ∷ rest)
  opened e = e ∙ ap (check_fits C steps i) (cut-next 8 X k i h)

  -- its bytes in their part
  module _ (t : ℕ) (t-is : t ≡ first_fitting e8 nearest (nat_abs q) m steps (take (8 * i + 8 - 8 * i) (drop (8 * i) X))) where
    place_is : t ≡ first_fitting e8 nearest (nat_abs q) m steps block
    place_is = t-is ∙ ap (λ (j : ℕ). first_fitting e8 nearest (nat_abs q) m steps (take j (drop (8 * i) X))) eight

    none-fits : length steps ≤ t → check_fits C steps i (block ∷ rest) ≡ Err (Overload i)
    none-fits l = fits-none C steps i block rest (omega (arith, place_is))

    one-fits : t < length steps → check_fits C steps i (block ∷ rest) ≡ check_fits C steps (i + 1) rest
    one-fits l = fits_next C steps i block rest (omega (arith, place_is)) ∙ ap (λ (j : ℕ). check_fits C steps j rest) (sym (add-one i))

    more-is : Sized (8 * k) (2 ^ 24) X → UsedSteps steps → Base q → t < length steps → (n : ℕ) → n ≡ block_size m → (found out part room : List ℕ) → out ≡ code_bytes C steps (cut 8 i X) ++ drop (n * i) found
        → part ≡ tried_room e8 nearest (nat_abs q) m 0 steps (take (8 * i + 8 - 8 * i) (drop (8 * i) X)) room
        → put_mid (n * i) (n * i + n - n * i) out part ≡ code_bytes C steps (cut 8 (i + 1) X) ++ drop (n * (i + 1)) found
    more-is sized used base l n n-is found out part room out-is part-is =
        let code = block_code e8 nearest (nat_abs q) m steps block in let before = code_bytes C steps (cut 8 i X) in let a = n * i in
        let size : a + n - a ≡ n = omega arith in let next : a + n ≡ n * (i + 1) = omega arith in
        let coded : part ≡ code = part-is ∙ ap (λ (j : ℕ). tried_room e8 nearest (nat_abs q) m 0 steps (take j (drop (8 * i) X)) room) eight
        ∙ tried-block8 q m steps block base used (sized-part 8 k (2 ^ 24) X sized i h) (omega (arith, place_is)) room in
        ap₂ (λ (k : ℕ) (p : List ℕ). put_mid a k out p) size coded
        ∙ ap (λ (x : List ℕ). take a x ++ (code ++ drop n (drop a x))) out-is
        ∙ write-in before code found a n (code_bytes-long (nat_abs q) m steps (cut 8 i X) ∙ ap₂ ◌*◌ (sym n-is) (cut-long 8 i X))
        ∙ ap₂ (λ (w : List ℕ) (j : ℕ). w ++ drop j found) (sym (code_bytes-more (nat_abs q) m steps i X)) next

pub slice_bounds-code_block-end-in-loop-i : goal.slice_bounds-code_block-end-in-loop-i
slice_bounds-code_block-end-in-loop-i c = omega (arith, part-ends c.block_size-n.result c.loop-i.i c.args.k c.loop-i-test.true, subst (λ (t : ℕ). t * c.args.k ≤ length c.args.out.now) (sym c.block_size-n.ensures) c.requires.5)

pub returns-then-code_block-steps-clause-answer : goal.returns-then-code_block-steps-clause-answer
returns-then-code_block-steps-clause-answer c = let a = c.args in
    let t-is = simp (to_z-of_z, c.ranges.q) at c.code_block.ensures.answer in
    sym (opened a.q a.m a.k c.loop-i.i a.steps.now a.x.now c.loop-i-test.true (simp (to_z-of_z, c.ranges.q) at c.loop-i.invariant.1)
    ∙ none-fits a.q a.m a.k c.loop-i.i a.steps.now a.x.now c.loop-i-test.true _ t-is c.if-code_block-steps.true)

pub loop-i-preserved : goal.loop-i-preserved
loop-i-preserved c = let a = c.args in
    let t-is = simp (to_z-of_z, c.ranges.q) at c.code_block.ensures.answer in (
      search rules,
      simp (to_z-of_z, c.ranges.q) (
          opened a.q a.m a.k c.loop-i.i a.steps.now a.x.now c.loop-i-test.true (simp (to_z-of_z, c.ranges.q) at c.loop-i.invariant.1)
          ∙ one-fits a.q a.m a.k c.loop-i.i a.steps.now a.x.now c.loop-i-test.true _ t-is c.if-code_block-steps.false
          ),
      simp (to_z-of_z, c.ranges.q) (
          more-is a.q a.m a.k c.loop-i.i a.steps.now a.x.now c.loop-i-test.true _ t-is c.requires.0 c.requires.1 c.requires.2 c.if-code_block-steps.false
          _ c.block_size-n.ensures a.out.now c.loop-i.out _ _ (simp (to_z-of_z, c.ranges.q) at c.loop-i.invariant.2) (simp (to_z-of_z, c.ranges.q) at c.code_block.ensures.room)
          ),
    )
