-- `table_total` has the points made, then adds block after block: after i turns z is the total of the first i, which stays small.
use mathlib.Core.Path.{◌≡◌, sym, ◌∙◌, ap, ap₂, subst}
use mathlib.Core.List.{List, []}
use Prim.Native.Nat.{ℕ, ◌+◌, ◌*◌, ◌^◌, ◌<◌, ◌≤◌}
use native.Mathlib.Omega.{arith}
use lib.IntN.{ℤ, nat_abs, ◌+ℤ◌, ◌*ℤ◌}
use lib.ListN.{get_or, take, drop}
use mir.Syntax.{w64}
use mir.Val.{SFits, to_z}
use mir.Facts.{to_z-of_z}
use Rattle.integers.specs.Laws.Sizes.{fits-abs}
use Rattle.integers.specs.Laws.Sums.{sized-part}
use Rattle.integers.specs.Vectors.{dot, Sized}
use Rattle.layers.specs.Digits.{cut}
use Rattle.records.specs.Eight.Codes.{block_size, step_of, whole_point}
use Rattle.points.specs.Laws.Points.{row_at}
use Rattle.scores.specs.Laws.Sizes.{block-scored, block_query-most}
use Rattle.scores.specs.Laws.Totals.{parts_more, parts-small}
use Rattle.scores.specs.Eight.Scores.{Scored, total, block_query}
use Rattle.scores.proofs.query.table_total.Goals as goal
use Rattle.scores.proofs.query.table_total.Goals.{After-part}

-- block i
module _ (c : After-part) where
  abbrev q : ℕ
  q = nat_abs c.args.q

  abbrev m : ℕ
  m = c.args.m

  abbrev k : ℕ
  k = c.args.k

  abbrev steps : List ℤ
  steps = c.args.steps.now

  abbrev X : List ℤ
  X = c.args.x.now

  abbrev body : List ℕ
  body = c.args.body.now

  abbrev i : ℕ
  i = c.loop-i.i

  abbrev f : List ℤ → List ℕ → ℤ
  f = block_query q m steps

  abbrev sum : ℕ → ℤ
  sum j = total f (cut 8 j X) (cut (block_size m) j body)

  sum_is : to_z w64 c.loop-i.z-bits ≡ sum i
  sum_is = simp (to_z-of_z, c.ranges.q) at c.loop-i.invariant

  abbrev part : ℕ → List ℤ
  part j = take 8 (drop (8 * j) X)

  abbrev block : ℕ → List ℕ
  block j = take (block_size m) (drop (block_size m * j) body)

  -- both as they are lent
  abbrev lent : List ℕ
  lent = c.part-b.result.now

  abbrev taken : List ℤ
  taken = c.part.result.now

  block-is : lent ≡ block i
  block-is = c.part-b.ensures ∙ ap (λ (n : ℕ). take n (drop (n * i) body)) c.block_size-n.ensures

  part-sized : (j : ℕ) → j < k → Sized 8 (2 ^ 24) (part j)
  part-sized j h = sized-part 8 k (2 ^ 24) X c.requires.2 j h

  taken-sized : Sized 8 (2 ^ 24) taken
  taken-sized = subst (Sized 8 (2 ^ 24)) (sym c.part.ensures) (part-sized i c.loop-i-test.true)

  -- the points, in their rows
  abbrev rows : List (List ℤ)
  rows = c.whole_points.new.rows

  abbrev point : List ℕ → List ℤ
  point = whole_point q m

  row_is : get_or rows i [] ≡ point (block i)
  row_is = ap (λ (r : List (List ℤ)). get_or r i []) (simp (to_z-of_z, c.ranges.q) at c.whole_points.ensures) ∙ row_at point (block_size m) body c.args.rows.now k i [] c.loop-i-test.true

  scored : Scored steps lent (get_or rows i [])
  scored = subst (λ (g : List ℕ). Scored steps g (get_or rows i [])) (sym block-is)
      (subst (Scored steps (block i)) (sym row_is) (block-scored c.args.q m steps c.requires.1 (block i) (c.requires.3.each i c.loop-i-test.true)))

  -- the first j of k blocks
  sum-small : (j : ℕ) → j ≤ k → nat_abs (sum j) ≤ j * 2 ^ 51
  sum-small j h = parts-small f 8 (block_size m) X body (2 ^ 51) j (λ a r. let o : a < k = omega arith in block_query-most c.args.q m steps c.requires.1 (block a) (c.requires.3.each a o) (part a) (part-sized a o))

  -- its part is added
  module _ (y : ℤ) (y-is : y ≡ step_of steps lent *ℤ dot taken (get_or rows i [])) where
    value-is : y ≡ f (part i) (block i)
    unfolding Rattle.scores.specs.Scores.block_query
    value-is = y-is ∙ ap₂ ◌*ℤ◌ (ap (step_of steps) block-is) (ap₂ dot c.part.ensures row_is)

    more-is : sum i +ℤ y ≡ sum (i + 1)
    more-is = ap (λ (y : ℤ). sum i +ℤ y) value-is ∙ sym (parts_more f 8 (block_size m) X body i)

    more-fits : SFits w64 (sum i +ℤ y)
    more-fits = rw more-is (fits-abs _ (omega (arith, sum-small (i + 1) (omega (arith, c.loop-i-test.true)), c.requires.4, c.loop-i-test.true)))

pub block_query-z-requires : goal.block_query-z-requires
block_query-z-requires c = let b = (goal.at.block_query-z-requires c).After-part in (taken-sized b, scored b)

pub overflow_add-z : goal.overflow_add-z
overflow_add-z c =
    let b = (goal.at.overflow_add-z c).After-part in
    let y-fits : SFits w64 c.block_query-z.result = record { sfits = c.block_query-z.type_inv } in
    simp (to_z-of_z, y-fits, sum_is b) (more-fits b _ c.block_query-z.ensures)

pub loop-i-preserved : goal.loop-i-preserved
loop-i-preserved c =
    let b = (goal.at.loop-i-preserved c).After-part in
    let y-fits : SFits w64 c.block_query-z.result = record { sfits = c.block_query-z.type_inv } in
    let fits : SFits w64 (sum b (i b) +ℤ c.block_query-z.result) = more-fits b _ c.block_query-z.ensures in
    simp (to_z-of_z, c.ranges.q, y-fits, sum_is b, fits) (more-is b _ c.block_query-z.ensures)
