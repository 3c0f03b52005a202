-- `fill_slices` fills the slice's entries of part after part: after b turns those of the first b blocks are right, and all else is as found.
use Rattle.std.proofs.Common.{◌≡◌, sym, subst, List, ℕ, ◌+◌, ◌*◌, ◌-◌, ◌^◌, ◌<◌, ◌≤◌, ℤ, nat_abs, length, take, drop, arith}
use borrow.Rule.Slice.PartMut.{put_mid}
use mir.Syntax.{w16}
use mir.Val.{to_z, of_z}
use mir.Facts.{to_z-of_z}
use Rattle.records.specs.Laws.Parts.{part-ends}
use Rattle.slices.specs.Slices.{Dots, point_by}
use Rattle.tables.specs.Groups.{GroupFilled}
use Rattle.tables.specs.Laws.Groups.{group-more}
use Rattle.tables.proofs.query_table.fill_slices.Goals as goal

-- the entries of block b are filled, and come back
module _ (size first n k b : ℕ) (point : ℕ → List ℤ) (X o e part : List ℤ) (within : first + n ≤ size) (less : b < k) (room : size * k ≤ length o) (filled : GroupFilled size first n point X o b e) where
  abbrev from : ℕ
  from = size * b + first

  block-is : 8 * b + 8 - 8 * b ≡ 8
  block-is = omega arith

  whole : from + n - from ≡ n
  whole = omega arith

  lent : from + n ≤ length e
  lent = omega (arith, part-ends size b k less, filled.long)

  more : Dots n point (take (8 * b + 8 - 8 * b) (drop (8 * b) X)) part → GroupFilled size first n point X o (b + 1) (put_mid from (from + n - from) e part)
  more d =
      subst (λ (m : ℕ). GroupFilled size first n point X o (b + 1) (put_mid from m e part)) (sym whole)
      (group-more size first n point X o b e part filled (subst (λ (m : ℕ). Dots n point (take m (drop (8 * b) X)) part) block-is d) within lent)

pub loop-b-preserved : goal.loop-b-preserved
loop-b-preserved c =
    let a = c.args in
    let b = c.loop-b.b in
    let point = point_by (to_z w16 (of_z w16 a.q)) a.halves.now.choices a.halves.now.lows a.halves.now.highs in
    let n-is : a.n ≡ nat_abs (to_z w16 (of_z w16 a.q)) ^ 7 = simp (to_z-of_z, c.ranges.q) c.requires.1 in
    let part-is = subst (λ (m : ℕ). Dots m point (take (8 * b + 8 - 8 * b) (drop (8 * b) a.x.now)) c.fill_part.new.part) (sym n-is) c.fill_part.ensures in
    more a.size a.first a.n a.k b point a.x.now a.entries.now c.loop-b.entries c.fill_part.new.part c.requires.3 c.loop-b-test.true c.requires.6 c.loop-b.invariant part-is
