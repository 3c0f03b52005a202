-- `table_points` decodes block after block, each into its row: after i turns the points of the first i stand before the rows as found.
use mathlib.Core.Path.{◌≡◌, sym, ◌∙◌, ap, ap₂, subst}
use mathlib.Core.List.{List, [], ◌++◌, map}
use Prim.Native.Nat.{ℕ, ◌+◌, ◌*◌, ◌-◌, ◌<◌}
use native.Mathlib.Omega.{arith}
use lib.IntN.{ℤ}
use lib.ListN.{length, take, drop, set}
use Rattle.layers.specs.Digits.{IsCode, cut}
use Rattle.layers.specs.E8.{decode8}
use Rattle.records.specs.Eight.Codes.{block_size, whole_point}
use Rattle.points.specs.Laws.Points.{digits-part, rows_more, rows_long}
use Rattle.points.proofs.table_points.Goals as goal
use Rattle.points.proofs.table_points.Goals.{In-loop-i}

-- block i
module _ (c : In-loop-i) where
  abbrev m : ℕ
  m = c.args.m

  abbrev body : List ℕ
  body = c.args.body.now

  abbrev found : List (List ℤ)
  found = c.args.rows.now

  abbrev i : ℕ
  i = c.loop-i.i

  abbrev point : List ℕ → List ℤ
  point = whole_point 2 m

  abbrev size : ℕ
  size = c.block_size-size.result

  abbrev block : List ℕ
  block = take (block_size m) (drop (block_size m * i) body)

  digits_are : take (size * i + 1 + 8 * m - (size * i + 1)) (drop (size * i + 1) body) ≡ drop 1 block
  digits_are = let whole : size * i + 1 + 8 * m - (size * i + 1) ≡ 8 * m = omega arith in
      ap₂ (λ (j n : ℕ). take j (drop (n * i + 1) body)) whole c.block_size-size.ensures ∙ sym (digits-part m (block_size m * i) body)

  is_code : IsCode 8 2 m (take (size * i + 1 + 8 * m - (size * i + 1)) (drop (size * i + 1) body))
  is_code = subst (IsCode 8 2 m) (sym digits_are) (c.requires.2.each i c.loop-i-test.true)

  room : i < length found
  room = omega (arith, c.loop-i-test.true, c.requires.3, c.requires.4)

  same-room : length c.loop-i.rows ≡ length found
  same-room = ap length c.loop-i.invariant ∙ rows_long point (block_size m) body found i (omega (arith, room))

  -- its point
  more-are : (e : List ℤ) → e ≡ decode8 2 m (take (size * i + 1 + 8 * m - (size * i + 1)) (drop (size * i + 1) body)) → set c.loop-i.rows i e ≡ map point (cut (block_size m) (i + 1) body) ++ drop (i + 1) found
  more-are e h =
      ap₂ (λ (r : List (List ℤ)) (e : List ℤ). set r i e) c.loop-i.invariant (h ∙ ap (decode8 2 m) digits_are)
      ∙ rows_more point (block_size m) body found i [] room

pub table_point-requires : goal.table_point-requires
table_point-requires c = (c.requires.0, c.requires.1, is_code (goal.at.table_point-requires c).In-loop-i)

pub loop-i-preserved : goal.loop-i-preserved
loop-i-preserved c = more-are (goal.at.loop-i-preserved c).In-loop-i c.table_point.result c.table_point.ensures
