-- `fill_rows` fills row after row, each in its part: after i turns the first i rows stand before the rest as found.
use Rattle.std.proofs.Common.{◌≡◌, sym, ◌∙◌, ap, ap₂, List, ◌++◌, ℕ, ◌+◌, ◌*◌, ◌-◌, ◌<◌, ◌≤◌, ℤ, length, take, drop, add-one, arith}
use borrow.Rule.Slice.PartMut.{put_mid}
use Rattle.layers.specs.E8.{layer_point8}
use Rattle.layers.proofs.Laws.Loops.{write-in}
use Rattle.records.specs.Laws.Parts.{front_long}
use Rattle.coding.specs.Counting.{counted_up}
use Rattle.coding.specs.Laws.Counting.{counted_next}
use Rattle.slices.specs.Laws.Parts.{put-long}
use Rattle.tables.specs.Laws.Entries.{pair_rows, rows_more, rows_all, pair_row-long}
use Rattle.tables.specs.Tables.{layer_at, pair_row}
use Rattle.tables.proofs.pair_table.fill_rows.Goals as goal

two : 0 < 2
two = omega arith

-- the row i is filled, and comes back
module _ (i : ℕ) (found entries : List ℤ) (within : i < 256) (long : length entries ≡ length found) (lent : 65536 ≤ length found) (is : entries ≡ pair_rows i ++ drop (256 * i) found) (row : List ℤ) (row_is : row ≡ pair_row (layer_at 2 i)) where
  abbrev a : ℕ
  a = 256 * i

  whole : a + 256 - a ≡ 256
  whole = omega arith

  next : a + 256 ≡ 256 * (i + 1)
  next = omega arith

  room : a + 256 ≤ length entries
  room = omega arith

  more-is : put_mid a (a + 256 - a) entries row ≡ pair_rows (i + 1) ++ drop (256 * (i + 1)) found
  more-is =
      ap₂ (λ (k : ℕ) (r : List ℤ). put_mid a k entries r) whole row_is
      ∙ ap (λ (o : List ℤ). take a o ++ (pair_row (layer_at 2 i) ++ drop 256 (drop a o))) is
      ∙ write-in (pair_rows i) (pair_row (layer_at 2 i)) found a 256 (front_long (pair_rows i) found a entries is long (omega (arith, room)))
      ∙ ap₂ (λ (w : List ℤ) (k : ℕ). w ++ drop k found) (sym (rows_more i)) next

  more-long : length (put_mid a (a + 256 - a) entries row) ≡ length found
  more-long = ap (λ (k : ℕ). length (put_mid a k entries row)) whole ∙ put-long a 256 entries row (ap length row_is ∙ pair_row-long (layer_at 2 i)) room ∙ long

pub loop-i-preserved : goal.loop-i-preserved
loop-i-preserved c =
    let i = c.loop-i.i in
    let inv = c.loop-i.invariant in
    let row_is : c.fill_row.new.row ≡ pair_row (layer_at 2 i) = c.fill_row.ensures ∙ ap (λ (ds : List ℕ). pair_row (layer_point8 2 ds)) inv.1 in (
      more-long i c.args.entries.now c.loop-i.entries c.loop-i-test.true inv.0 c.requires.1 inv.2 c.fill_row.new.row row_is,
      rw (add-one i) (c.count_up.ensures ∙ ap (counted_up 2) inv.1 ∙ counted_next 2 two 8 i),
      more-is i c.args.entries.now c.loop-i.entries c.loop-i-test.true inv.0 c.requires.1 inv.2 c.fill_row.new.row row_is,
    )

pub returns : goal.returns
returns c = let found = c.args.entries.now in let e : c.loop-i.i ≡ 256 = omega (arith, c.loop-i-test.false, c.loop-i.auto.i-end) in
    c.loop-i.invariant.2 ∙ ap (λ (k : ℕ). pair_rows k ++ drop (256 * k) found) e ∙ ap (λ (f : List ℤ). f ++ drop 65536 found) rows_all
