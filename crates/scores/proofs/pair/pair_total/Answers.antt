-- `pair_total` has the points of both made, then adds block after block: after i turns z is the total of the first i, which stays small.
use mathlib.Core.Path.{◌≡◌, sym, ◌∙◌, ap, ap₂, subst}
use mathlib.Core.List.{List, []}
use Prim.Native.Nat.{ℕ, ◌+◌, ◌*◌, ◌^◌, ◌≤◌}
use native.Mathlib.Omega.{arith}
use lib.IntN.{ℤ, pos, nat_abs, ◌+ℤ◌, ◌*ℤ◌}
use lib.ListN.{get_or, take, drop, replicate}
use mir.Syntax.{w64}
use mir.Val.{SFits, to_z}
use mir.Facts.{to_z-of_z}
use Rattle.integers.specs.Laws.Sizes.{fits-abs}
use Rattle.layers.specs.Digits.{cut}
use Rattle.records.specs.Eight.Codes.{block_size, step_of, whole_point}
use Rattle.points.specs.Laws.Points.{row_at}
use Rattle.scores.specs.Laws.Sizes.{block-scored, block_pair-most}
use Rattle.scores.specs.Laws.Totals.{parts_more, parts-small}
use Rattle.scores.specs.Eight.Scores.{Scored, total, inner, block_pair}
use Rattle.scores.proofs.pair.pair_total.Goals as goal
use Rattle.scores.proofs.pair.pair_total.Goals.{After-part-b2}

-- the rows before
abbrev blank : List (List ℤ)
blank = replicate 64 (replicate 8 (pos 0))

-- block i
module _ (c : After-part-b2) where
  abbrev q : ℕ
  q = nat_abs c.args.q

  abbrev m : ℕ
  m = c.args.m

  abbrev k : ℕ
  k = c.args.k

  abbrev steps : List ℤ
  steps = c.args.steps.now

  abbrev steps' : List ℤ
  steps' = c.args.steps2.now

  abbrev body : List ℕ
  body = c.args.body.now

  abbrev body' : List ℕ
  body' = c.args.body2.now

  abbrev i : ℕ
  i = c.loop-i.i

  abbrev f : List ℕ → List ℕ → ℤ
  f = block_pair q m steps steps'

  abbrev sum : ℕ → ℤ
  sum j = total f (cut (block_size m) j body) (cut (block_size m) j body')

  sum_is : to_z w64 c.loop-i.z-bits ≡ sum i
  sum_is = simp (to_z-of_z, c.ranges.q) at c.loop-i.invariant

  abbrev block : List ℕ → ℕ → List ℕ
  block g j = take (block_size m) (drop (block_size m * j) g)

  -- both as they are lent
  abbrev lent : List ℕ
  lent = c.part-b.result.now

  abbrev lent' : List ℕ
  lent' = c.part-b2.result.now

  block-is : lent ≡ block body i
  block-is = c.part-b.ensures ∙ ap (λ (n : ℕ). take n (drop (n * i) body)) c.block_size-n.ensures

  block'-is : lent' ≡ block body' i
  block'-is = c.part-b2.ensures ∙ ap (λ (n : ℕ). take n (drop (n * i) body')) c.block_size-n.ensures

  abbrev point : List ℕ → List ℤ
  point = whole_point q m

  -- the points of both, in their rows
  abbrev rows : List (List ℤ)
  rows = c.whole_points.new.rows

  abbrev rows' : List (List ℤ)
  rows' = c.whole_points-2.new.rows

  row_is : get_or rows i [] ≡ point (block body i)
  row_is = ap (λ (r : List (List ℤ)). get_or r i []) (simp (to_z-of_z, c.ranges.q) at c.whole_points.ensures) ∙ row_at point (block_size m) body blank k i [] c.loop-i-test.true

  row'-is : get_or rows' i [] ≡ point (block body' i)
  row'-is = ap (λ (r : List (List ℤ)). get_or r i []) (simp (to_z-of_z, c.ranges.q) at c.whole_points-2.ensures) ∙ row_at point (block_size m) body' blank k i [] c.loop-i-test.true

  scored : Scored steps lent (get_or rows i [])
  scored = subst (λ (g : List ℕ). Scored steps g (get_or rows i [])) (sym block-is)
      (subst (Scored steps (block body i)) (sym row_is) (block-scored c.args.q m steps c.requires.1 (block body i) (c.requires.3.each i c.loop-i-test.true)))

  scored' : Scored steps' lent' (get_or rows' i [])
  scored' = subst (λ (g : List ℕ). Scored steps' g (get_or rows' i [])) (sym block'-is)
      (subst (Scored steps' (block body' i)) (sym row'-is) (block-scored c.args.q m steps' c.requires.2 (block body' i) (c.requires.4.each i c.loop-i-test.true)))

  -- the first j of k blocks
  sum-small : (j : ℕ) → j ≤ k → nat_abs (sum j) ≤ j * 2 ^ 49
  sum-small j h = parts-small f (block_size m) (block_size m) body body' (2 ^ 49) j
      (λ a r. block_pair-most c.args.q m steps steps' c.requires.1 c.requires.2 (block body a) (block body' a) (c.requires.3.each a (omega arith)) (c.requires.4.each a (omega arith)))

  -- its part is added
  module _ (y : ℤ) (y-is : y ≡ step_of steps lent *ℤ step_of steps' lent' *ℤ inner (get_or rows i []) (get_or rows' i [])) where
    part-is : y ≡ f (block body i) (block body' i)
    unfolding Rattle.scores.specs.Scores.block_pair
    part-is = y-is ∙ ap₂ ◌*ℤ◌ (ap₂ (λ (g g' : List ℕ). step_of steps g *ℤ step_of steps' g') block-is block'-is) (ap₂ inner row_is row'-is)

    more-is : sum i +ℤ y ≡ sum (i + 1)
    more-is = ap (λ (y : ℤ). sum i +ℤ y) part-is ∙ sym (parts_more f (block_size m) (block_size m) body body' i)

    more-fits : SFits w64 (sum i +ℤ y)
    more-fits = rw more-is (fits-abs _ (omega (arith, sum-small (i + 1) (omega (arith, c.loop-i-test.true)), c.requires.5, c.loop-i-test.true)))

pub block_pair-z-requires : goal.block_pair-z-requires
block_pair-z-requires c = let b = (goal.at.block_pair-z-requires c).After-part-b2 in (scored b, scored' b)

pub overflow_add-z : goal.overflow_add-z
overflow_add-z c =
    let b = (goal.at.overflow_add-z c).After-part-b2 in
    let y-fits : SFits w64 c.block_pair-z.result = record { sfits = c.block_pair-z.type_inv } in
    simp (to_z-of_z, y-fits, sum_is b) (more-fits b _ c.block_pair-z.ensures)

pub loop-i-preserved : goal.loop-i-preserved
loop-i-preserved c =
    let b = (goal.at.loop-i-preserved c).After-part-b2 in
    let y-fits : SFits w64 c.block_pair-z.result = record { sfits = c.block_pair-z.type_inv } in
    let fits : SFits w64 (sum b (i b) +ℤ c.block_pair-z.result) = more-fits b _ c.block_pair-z.ensures in
    simp (to_z-of_z, c.ranges.q, y-fits, sum_is b, fits) (more-is b _ c.block_pair-z.ensures)
