-- `check_code` tests the frame, then the bytes: the two checks in their order.
use mathlib.Core.Path.{◌≡◌, sym, ◌∙◌, ap, ap₂, subst₂}
use mathlib.Core.Bool.{Bool, true}
use mathlib.Core.List.{List, [], ◌∷◌}
use Prim.Native.Nat.{ℕ, ◌*◌, ◌≤◌}
use native.Mathlib.Omega.{arith}
use lib.ListN.{length, drop, length-drop}
use Rattle.integers.specs.Laws.Loops.{rest-whole}
use Rattle.refusals.specs.declared.Refusal.TheVariants.{Record}
use Rattle.refusals.specs.Laws.Verdicts.{first-last}
use Rattle.refusals.specs.Verdicts.{unless, first_refusal, Verdict}
use Rattle.layers.specs.Digits.{cut}
use Rattle.records.specs.Eight.Codes.{block_size, blocks_in, code_blocks, check_blocks}
use Rattle.records.specs.Frames.{good_record, Framed}
use Rattle.records.specs.Eight.Asked.{frame-holds}
use Rattle.records.specs.Laws.Frames.{record-framed}
use Rattle.scores.specs.Eight.Scores.{check_code}
use Rattle.scores.proofs.codes.check_code.Goals as goal
use Rattle.scores.proofs.codes.check_code.Goals.{After-good_record}

-- the frame is tested
module _ (c : After-good_record) where
  abbrev b : List ℕ
  b = c.args.b.now

  abbrev bytes : Verdict
  bytes = check_blocks c.args.steps c.args.q (block_size c.args.m) c.args.first (code_blocks c.args.m b)

  framed : good_record 1 (block_size c.args.m) c.args.least c.args.most b ≡ c.good_record.result
  framed = ap (λ (n : ℕ). good_record 1 n c.args.least c.args.most b) (sym c.block_size-size.ensures) ∙ sym c.good_record.ensures

  decided : (f : Bool) → c.good_record.result ≡ f
      → check_code c.args.steps c.args.q c.args.m c.args.least c.args.most c.args.place c.args.first b ≡ first_refusal (unless f (Record c.args.place) ∷ bytes ∷ [])
  unfolding Rattle.scores.specs.Scores.check_code
  decided f e = ap (λ (f : Bool). first_refusal (unless f (Record c.args.place) ∷ bytes ∷ [])) (framed ∙ e)

  -- it is good
  frame : c.good_record.result ≡ true → Framed 1 (block_size c.args.m) c.args.least c.args.most b
  frame e = record-framed 1 (block_size c.args.m) c.args.least c.args.most b (framed ∙ e)

pub blocks_in-k-requires : goal.blocks_in-k-requires
blocks_in-k-requires c = (c.requires.0, (frame (goal.at.blocks_in-k-requires c).After-good_record c.if-good_record.true).there)

pub slice_bounds-check_blocks-count : goal.slice_bounds-check_blocks-count
slice_bounds-check_blocks-count c = omega (arith, (frame (goal.at.slice_bounds-check_blocks-count c).After-good_record c.if-good_record.true).there)

pub slice_bounds-check_blocks-start : goal.slice_bounds-check_blocks-start
slice_bounds-check_blocks-start c = omega (arith, (frame (goal.at.slice_bounds-check_blocks-start c).After-good_record c.if-good_record.true).there)

pub check_blocks-requires : goal.check_blocks-requires
check_blocks-requires c =
    let holds : block_size c.args.m * blocks_in c.args.m c.args.b.now ≤ length (drop 4 c.args.b.now) = frame-holds c.args.m c.args.least c.args.most c.args.b.now (frame (goal.at.check_blocks-requires c).After-good_record c.if-good_record.true) in
    rw (rest-whole 4 c.args.b.now) (
      omega (arith, c.block_size-size.ensures),
      subst₂ (λ (n k : ℕ). n * k ≤ length (drop 4 c.args.b.now)) (sym c.block_size-size.ensures) (sym c.blocks_in-k.ensures) holds,
      simp length-drop (omega (arith, c.requires.1)),
    )

pub returns-then-good_record : goal.returns-then-good_record
returns-then-good_record c = let a = (goal.at.returns-then-good_record c).After-good_record in let v = c.args in
    c.check_blocks.ensures
    ∙ ap (λ (f : List ℕ). check_blocks v.steps v.q c.block_size-size.result v.first (cut c.block_size-size.result c.blocks_in-k.result f)) (rest-whole 4 v.b.now)
    ∙ ap₂ (λ (n k : ℕ). check_blocks v.steps v.q n v.first (cut n k (drop 4 v.b.now))) c.block_size-size.ensures c.blocks_in-k.ensures
    ∙ sym (decided a true c.if-good_record.true ∙ first-last (bytes a))

pub returns-else-good_record : goal.returns-else-good_record
returns-else-good_record c = sym (decided (goal.at.returns-else-good_record c).After-good_record _ c.if-good_record.false)
