-- `ruled_points` goes by groups of up to eight blocks: before the group from i on the points of the first i stand before the rows as found.
use Rattle.std.proofs.Common.{◌≡◌, sym, ◌∙◌, ap, subst, arith, List, ◌++◌, map, ℕ, ◌+◌, ◌*◌, ◌-◌, ◌≤◌, ℤ, pos, nat_abs, length, take, drop, to_z-of_z}
use Rattle.integers.specs.Laws.Loops.{rest-whole}
use Rattle.integers.specs.Vectors.{range}
use Rattle.columns.specs.Columns.{column}
use Rattle.layers.specs.Digits.{cut}
use Rattle.records.specs.Eight.Codes.{AreCodes, block_size, whole_point}
use Rattle.points.specs.Lanes.{BlockPoints}
use Rattle.points.specs.Laws.LanePoints.{codes-from, group-more}
use Rattle.points.specs.Laws.Points.{rows_long}
use Rattle.points.proofs.ruled_points.Goals as goal
use Rattle.points.proofs.ruled_points.Goals.{After-min-n}

-- n blocks from i on
module _ (c : After-min-n) where
  abbrev q : ℕ
  q = nat_abs c.args.q

  abbrev m : ℕ
  m = c.args.m

  abbrev k : ℕ
  k = c.args.k

  abbrev body : List ℕ
  body = c.args.body.now

  abbrev found : List (List ℤ)
  found = c.args.rows.now

  abbrev i : ℕ
  i = c.loop-i.i

  abbrev n : ℕ
  n = c.min-n.result

  abbrev point : List ℕ → List ℤ
  point = whole_point q m

  abbrev size : ℕ
  size = c.block_size-size.result

  -- the rows as found, after the points of j blocks
  abbrev done : ℕ → List (List ℤ)
  done j = map point (cut (block_size m) j body) ++ drop j found

  rows_are : c.loop-i.rows ≡ done i
  rows_are = simp (to_z-of_z, c.ranges.q) at c.loop-i.invariant.rows

  same-room : length c.loop-i.rows ≡ 64
  same-room = ap length rows_are ∙ rows_long point (block_size m) body found i (omega (arith, c.requires.2, c.requires.3, c.loop-i-test.true)) ∙ c.requires.3

  few : n ≤ 8
  few = omega (arith, c.min-n.ensures)

  within : i + n ≤ k
  within = omega (arith, c.min-n.ensures, c.loop-i-test.true)

  rest-is : take (length body - size * i) (drop (size * i) body) ≡ drop (block_size m * i) body
  rest-is = rest-whole (size * i) body ∙ ap (λ (n : ℕ). drop (n * i) body) c.block_size-size.ensures

  codes : AreCodes q m n (take (length body - size * i) (drop (size * i) body))
  codes = subst (AreCodes q m n) (sym rest-is) (codes-from q m k body c.requires.1 i n within)

  -- their points
  module _ (e : List (List ℤ)) (h : BlockPoints q m n (take (length body - size * i) (drop (size * i) body)) e) where
    points-are : BlockPoints q m n (drop (block_size m * i) body) e
    points-are = subst (λ (f : List ℕ). BlockPoints q m n f e) rest-is h

    -- are written
    more-are : (take i c.loop-i.rows ++ map (λ (j : ℕ). column (pos 0) j e) (range 0 n)) ++ drop (i + n) c.loop-i.rows ≡ done (i + n)
    more-are =
        ap (λ (x : List (List ℤ)). (take i x ++ map (λ (j : ℕ). column (pos 0) j e) (range 0 n)) ++ drop (i + n) x) rows_are
        ∙ group-more q m n body found e i points-are

pub eight_points-e-requires : goal.eight_points-e-requires
eight_points-e-requires c = let b = (goal.at.eight_points-e-requires c).After-min-n in
    simp (to_z-of_z, c.ranges.q) (c.requires.0, codes b, few b)

pub put_columns-requires : goal.put_columns-requires
put_columns-requires c = let b = (goal.at.put_columns-requires c).After-min-n in
    ((points-are b c.eight_points-e.result (simp (to_z-of_z, c.ranges.q) at c.eight_points-e.ensures)).square, few b, omega (arith, within b, c.requires.2), same-room b)

pub loop-i-preserved : goal.loop-i-preserved
loop-i-preserved c = let b = (goal.at.loop-i-preserved c).After-min-n in
    let next : i b + n b ≡ c.loop-i.i + 8 = omega (arith, c.min-n.ensures) in
    record {
      within = omega arith;
      rows = simp (to_z-of_z, c.ranges.q) (c.put_columns.ensures ∙ more-are b c.eight_points-e.result (simp (to_z-of_z, c.ranges.q) at c.eight_points-e.ensures) ∙ ap (done b) next);
    }

pub returns-2 : goal.returns-2
returns-2 c = let b = (goal.at.returns-2 c).After-min-n in
    let all : i b + n b ≡ c.args.k = omega (arith, c.min-n.ensures) in
    c.put_columns.ensures ∙ more-are b c.eight_points-e.result (simp (to_z-of_z, c.ranges.q) at c.eight_points-e.ensures) ∙ ap (done b) all
