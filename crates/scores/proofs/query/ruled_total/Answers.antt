-- `ruled_total` has the points of eight blocks made at the first of them, and adds block after block: after i turns z is the total of the first i, which stays small.
use mathlib.Core.Path.{◌≡◌, refl, sym, ◌∙◌, ap, ap₂, subst}
use mathlib.Core.List.{List}
use Prim.Native.Nat.{ℕ, ◌+◌, ◌*◌, ◌-◌, ◌%◌, ◌^◌, ◌<◌, ◌≤◌}
use native.Mathlib.Omega.{arith}
use lib.IntN.{ℤ, pos, nat_abs, ◌+ℤ◌, ◌*ℤ◌}
use lib.ListN.{length, take, drop}
use mir.Syntax.{w16, w64}
use mir.Val.{SFits, to_z}
use mir.Facts.{to_z-of_z}
use Rattle.integers.specs.Laws.Loops.{rest-whole}
use Rattle.integers.specs.Laws.Sizes.{fits-mag, fits-abs}
use Rattle.integers.specs.Laws.Sums.{sized-part}
use Rattle.integers.specs.Vectors.{dot, Sized}
use Rattle.columns.specs.Columns.{column}
use Rattle.layers.specs.Digits.{cut}
use Rattle.records.specs.Eight.Codes.{AreCodes, Coder, IsBlock, block_size, step_of, whole_point}
use Rattle.points.specs.Lanes.{BlockPoints}
use Rattle.points.specs.Laws.LanePoints.{codes-from}
use Rattle.points.specs.Laws.Points.{coder-digital, blocks-codes}
use Rattle.scores.specs.Laws.Groups.{Standing, standing-first, standing-next}
use Rattle.scores.specs.Laws.Sizes.{block-scored, block_query-most}
use Rattle.scores.specs.Laws.Totals.{parts_more, parts-small}
use Rattle.scores.specs.Eight.Scores.{Scored, total, block_query}
use Rattle.scores.proofs.query.ruled_total.Goals as goal
use Rattle.scores.proofs.query.ruled_total.Goals.{After-part, Joined-i-eq0, then-i-eq0, else-i-eq0}

-- q fits 16 bits
q-narrow : (q : ℤ) (m : ℕ) (steps : List ℤ) → Coder q m steps → SFits w16 q
q-narrow q m steps h = fits-mag w16 q (omega (arith, h.digit))

-- the bytes from block i on, as they are lent
rest-is : (n m i : ℕ) (body : List ℕ) → n ≡ block_size m → take (length body - n * i) (drop (n * i) body) ≡ drop (block_size m * i) body
rest-is n m i body e = rest-whole (n * i) body ∙ ap (λ (n : ℕ). drop (n * i) body) e

-- block i
module _ (c : After-part) where
  abbrev q : ℕ
  q = nat_abs c.args.q

  abbrev m : ℕ
  m = c.args.m

  abbrev k : ℕ
  k = c.args.k

  abbrev steps : List ℤ
  steps = c.args.steps.now

  abbrev X : List ℤ
  X = c.args.x.now

  abbrev body : List ℕ
  body = c.args.body.now

  abbrev i : ℕ
  i = c.loop-i.i

  abbrev f : List ℤ → List ℕ → ℤ
  f = block_query q m steps

  abbrev sum : ℕ → ℤ
  sum j = total f (cut 8 j X) (cut (block_size m) j body)

  sum_is : to_z w64 c.loop-i.z-bits ≡ sum i
  sum_is = simp (to_z-of_z, c.ranges.q) at c.loop-i.invariant.sum

  abbrev part : ℕ → List ℤ
  part j = take 8 (drop (8 * j) X)

  abbrev block : ℕ → List ℕ
  block j = take (block_size m) (drop (block_size m * j) body)

  -- both as they are lent
  abbrev lent : List ℕ
  lent = c.part-b.result.now

  abbrev taken : List ℤ
  taken = c.part.result.now

  block-is : lent ≡ block i
  block-is = c.part-b.ensures ∙ ap (λ (n : ℕ). take n (drop (n * i) body)) c.block_size-n.ensures

  part-sized : (j : ℕ) → j < k → Sized 8 (2 ^ 24) (part j)
  part-sized j h = sized-part 8 k (2 ^ 24) X c.requires.1 j h

  taken-sized : Sized 8 (2 ^ 24) taken
  taken-sized = subst (Sized 8 (2 ^ 24)) (sym c.part.ensures) (part-sized i c.loop-i-test.true)

  is_block : (j : ℕ) → j < k → IsBlock (length steps) q m (block j)
  is_block j h = c.requires.2.each j h

  part_small : (j : ℕ) → j < k → nat_abs (f (part j) (block j)) ≤ 2 ^ 51
  part_small j h = block_query-most c.args.q m steps c.requires.0 (block j) (is_block j h) (part j) (part-sized j h)

  -- the first j of k blocks
  sum-small : (j : ℕ) → j ≤ k → nat_abs (sum j) ≤ j * 2 ^ 51
  sum-small j h = parts-small f 8 (block_size m) X body (2 ^ 51) j (λ a r. part_small a (omega arith))

  -- its group's points stand, newly made or from the turns before
  module _ (stands : Standing q m k body i c.if-i-eq0.e) where
    abbrev own : List ℤ
    own = column (pos 0) (i % 8) c.if-i-eq0.e

    own_is : own ≡ whole_point q m (block i)
    own_is = stands i (omega arith) c.loop-i-test.true refl

    scored : Scored steps lent own
    scored = subst (λ (b : List ℕ). Scored steps b own) (sym block-is)
        (subst (Scored steps (block i)) (sym own_is) (block-scored c.args.q m steps c.requires.0 (block i) (is_block i c.loop-i-test.true)))

    -- its part is added
    module _ (y : ℤ) (y-is : y ≡ step_of steps lent *ℤ dot taken own) where
      value-is : y ≡ f (part i) (block i)
      unfolding Rattle.scores.specs.Scores.block_query
      value-is = y-is ∙ ap₂ ◌*ℤ◌ (ap (step_of steps) block-is) (ap₂ dot c.part.ensures own_is)

      more-is : sum i +ℤ y ≡ sum (i + 1)
      more-is = ap (λ (y : ℤ). sum i +ℤ y) value-is ∙ sym (parts_more f 8 (block_size m) X body i)

      more-fits : SFits w64 (sum i +ℤ y)
      more-fits = rw more-is (fits-abs _ (omega (arith, sum-small (i + 1) (omega (arith, c.loop-i-test.true)), c.requires.3, c.loop-i-test.true)))

stands : (c : Joined-i-eq0) → Standing (nat_abs c.args.q) c.args.m c.args.k c.args.body.now c.loop-i.i c.if-i-eq0.e
stands c =
    let q : ℕ = nat_abs c.args.q in let m = c.args.m in let k = c.args.k in let body = c.args.body.now in let i = c.loop-i.i in
    let S : List (List ℤ) → Type 0 = Standing q m k body i in
    let narrow : SFits w16 c.args.q = q-narrow c.args.q m c.args.steps.now c.requires.0 in
    elim c.if-i-eq0.branch [
      | then-i-eq0 w ↦
          subst S (sym w.e-is) (
          standing-first q m k body i w.eight_points-e.result w.min.result (omega (arith, w.min.ensures)) w.if-i-eq0.true
          (subst (λ (f : List ℕ). BlockPoints q m w.min.result f w.eight_points-e.result) (rest-is c.block_size-n.result m i body c.block_size-n.ensures) (simp (to_z-of_z, c.ranges.q, narrow) at w.eight_points-e.ensures))
          )
      | else-i-eq0 w ↦ subst S (sym w.e-is) (simp (to_z-of_z, c.ranges.q) at (c.loop-i.invariant.standing w.if-i-eq0.false))
    ]

pub eight_points-e-requires : goal.eight_points-e-requires
eight_points-e-requires c =
    let q : ℕ = nat_abs c.args.q in let m = c.args.m in let k = c.args.k in let steps = c.args.steps.now in let body = c.args.body.now in let i = c.loop-i.i in
    let narrow : SFits w16 c.args.q = q-narrow c.args.q m steps c.requires.0 in
    let group : AreCodes q m c.min.result (drop (block_size m * i) body) = codes-from q m k body (blocks-codes (length steps) q m k body c.requires.2) i c.min.result (omega (arith, c.min.ensures, c.loop-i-test.true)) in
    simp (to_z-of_z, c.ranges.q, narrow) (coder-digital c.args.q m steps c.requires.0, subst (AreCodes q m c.min.result) (sym (rest-is c.block_size-n.result m i body c.block_size-n.ensures)) group, omega (arith, c.min.ensures))

pub column_query-z-requires : goal.column_query-z-requires
column_query-z-requires c = let p = goal.at.column_query-z-requires c in let b = p.After-part in (taken-sized b, omega arith, scored b (stands p.Joined-i-eq0))

pub overflow_add-z : goal.overflow_add-z
overflow_add-z c = let p = goal.at.overflow_add-z c in let b = p.After-part in
    let y-fits : SFits w64 c.column_query-z.result = record { sfits = c.column_query-z.type_inv } in
    simp (to_z-of_z, y-fits, sum_is b) (more-fits b (stands p.Joined-i-eq0) _ c.column_query-z.ensures)

pub loop-i-preserved : goal.loop-i-preserved
loop-i-preserved c = let p = goal.at.loop-i-preserved c in let b = p.After-part in let s = stands p.Joined-i-eq0 in
    let y-fits : SFits w64 c.column_query-z.result = record { sfits = c.column_query-z.type_inv } in
    let fits : SFits w64 (sum b (i b) +ℤ c.column_query-z.result) = more-fits b s _ c.column_query-z.ensures in record {
      sum = simp (to_z-of_z, c.ranges.q, y-fits, sum_is b, fits) (more-is b s _ c.column_query-z.ensures);
      standing = λ n. subst (λ (w : ℕ). Standing w (m b) (k b) (body b) (i b + 1) c.if-i-eq0.e) (ap nat_abs (sym (to_z-of_z c.ranges.q))) (standing-next (q b) (m b) (k b) (body b) (i b) c.if-i-eq0.e s n);
    }
