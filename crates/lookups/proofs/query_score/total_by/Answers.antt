-- `total_by` adds block after block: after i turns z is the total of the first i, each of which is small whatever its part holds.
use Rattle.std.proofs.Common.{◌≡◌, sym, ◌∙◌, ap, ap₂, List, ℕ, ◌+◌, ◌*◌, ◌-◌, ◌^◌, ◌≤◌, ℤ, pos, nat_abs, ◌+ℤ◌, take, drop, arith, w64, to_z}
use mir.Val.{SFits}
use mir.Facts.{to_z-of_z}
use Rattle.integers.specs.Laws.Sizes.{fits-abs, abs-add}
use Rattle.layers.specs.Digits.{cut}
use Rattle.records.specs.Eight.Codes.{block_size}
use Rattle.scores.specs.Laws.Totals.{parts_more}
use Rattle.scores.specs.Scores.{total}
use Rattle.tables.specs.Tables.{part_size}
use Rattle.lookups.specs.Scoring.{block_query_by}
use Rattle.lookups.proofs.query_score.total_by.Goals as goal
use Rattle.lookups.proofs.query_score.total_by.Goals.{After-block_query_by-z}
use Rattle.lookups.proofs.query_score.total_by.Given.{Over}

-- block i, or its part, as it is lent
block-is : {A : Type 0} (n m i : ℕ) (g : List A) → n ≡ m → take (n * i + n - n * i) (drop (n * i) g) ≡ take m (drop (m * i) g)
block-is n m i g e = let whole : n * i + n - n * i ≡ m = omega (arith, e) in ap₂ (λ (j n : ℕ). take j (drop (n * i) g)) whole e

-- it is added
module _ (g : Over) (c : After-block_query_by-z g) where
  abbrev q : ℕ
  q = g.row.Q

  abbrev n : ℕ
  n = block_size g.row.M

  abbrev f : List ℤ → List ℕ → ℤ
  f = block_query_by q g.row.M c.args.steps.now

  abbrev i : ℕ
  i = c.loop-i.i

  abbrev z : ℤ
  z = to_z w64 c.loop-i.z-bits

  abbrev y : ℤ
  y = c.block_query_by-z.result

  y-fits : SFits w64 y
  y-fits = record { sfits = c.block_query_by-z.type_inv }

  size_is : c.part_size-size.result ≡ part_size q
  size_is = let f : SFits w64 (pos q) = fits-abs (pos q) (omega (arith, c.requires.2)) in c.part_size-size.ensures ∙ ap (λ (z : ℤ). part_size (nat_abs z)) (to_z-of_z f)

  more-is : z +ℤ y ≡ total f (cut (part_size q) (i + 1) c.args.table.now) (cut n (i + 1) c.args.body.now)
  more-is =
      ap₂ ◌+ℤ◌ c.loop-i.invariant.0
      (c.block_query_by-z.ensures.value
      ∙ ap₂ f (block-is c.part_size-size.result (part_size q) i c.args.table.now size_is) (block-is c.block_size-n.result n i c.args.body.now c.block_size-n.ensures))
      ∙ sym (parts_more f (part_size q) n c.args.table.now c.args.body.now i)

  more-small : nat_abs (z +ℤ y) ≤ (i + 1) * 2 ^ 53
  more-small = omega (arith, abs-add z y, c.loop-i.invariant.1, c.block_query_by-z.ensures.small)

  more-fits : SFits w64 (z +ℤ y)
  more-fits = fits-abs _ (omega (arith, more-small))

pub loop-i-preserved : goal.loop-i-preserved
loop-i-preserved g c = simp (to_z-of_z, y-fits g c, more-fits g c) (more-is g c, more-small g c)
