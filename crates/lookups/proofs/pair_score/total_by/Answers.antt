-- `total_by` adds block after block: after i turns z is the total of the first i, each of which is small whatever the table holds.
use Rattle.std.proofs.Common.{◌≡◌, sym, ◌∙◌, ap₂, List, ℕ, ◌+◌, ◌*◌, ◌-◌, ◌^◌, ◌≤◌, ℤ, nat_abs, ◌+ℤ◌, take, drop, arith, w64, to_z}
use mir.Val.{SFits}
use mir.Facts.{to_z-of_z}
use Rattle.integers.specs.Laws.Sizes.{fits-abs, abs-add}
use Rattle.layers.specs.Digits.{cut}
use Rattle.records.specs.Eight.Codes.{block_size}
use Rattle.scores.specs.Laws.Totals.{parts_more}
use Rattle.scores.specs.Scores.{total}
use Rattle.lookups.specs.Scoring.{block_pair_by}
use Rattle.lookups.proofs.pair_score.total_by.Goals as goal
use Rattle.lookups.proofs.pair_score.total_by.Goals.{After-block_pair_by-z}
use Rattle.lookups.proofs.pair_score.total_by.Given.{Over}

-- block i as it is lent
block-is : (n m i : ℕ) (g : List ℕ) → n ≡ m → take (n * i + n - n * i) (drop (n * i) g) ≡ take m (drop (m * i) g)
block-is n m i g e = let whole : n * i + n - n * i ≡ m = omega (arith, e) in ap₂ (λ (j n : ℕ). take j (drop (n * i) g)) whole e

-- it is added
module _ (g : Over) (c : After-block_pair_by-z g) where
  abbrev n : ℕ
  n = block_size g.row.M

  abbrev f : List ℕ → List ℕ → ℤ
  f = block_pair_by g.row.M c.args.steps.now c.args.steps2.now c.args.table.now

  abbrev i : ℕ
  i = c.loop-i.i

  abbrev z : ℤ
  z = to_z w64 c.loop-i.z-bits

  abbrev y : ℤ
  y = c.block_pair_by-z.result

  y-fits : SFits w64 y
  y-fits = record { sfits = c.block_pair_by-z.type_inv }

  more-is : z +ℤ y ≡ total f (cut n (i + 1) c.args.body.now) (cut n (i + 1) c.args.body2.now)
  more-is =
      ap₂ ◌+ℤ◌ c.loop-i.invariant.0 (c.block_pair_by-z.ensures.value ∙ ap₂ f (block-is c.block_size-n.result n i c.args.body.now c.block_size-n.ensures) (block-is c.block_size-n.result n i c.args.body2.now c.block_size-n.ensures))
      ∙ sym (parts_more f n n c.args.body.now c.args.body2.now i)

  more-small : nat_abs (z +ℤ y) ≤ (i + 1) * 2 ^ 35
  more-small = omega (arith, abs-add z y, c.loop-i.invariant.1, c.block_pair_by-z.ensures.small)

  more-fits : SFits w64 (z +ℤ y)
  more-fits = fits-abs _ (omega (arith, more-small))

pub loop-i-preserved : goal.loop-i-preserved
loop-i-preserved g c = simp (to_z-of_z, y-fits g c, more-fits g c) (more-is g c, more-small g c)
