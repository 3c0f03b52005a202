-- `fill_row` goes through the entries with the digits of each one's number: after j turns the first j entries are right.
use Rattle.std.proofs.Common.{◌≡◌, sym, ◌∙◌, ap, ap₂, subst, List, ◌++◌, ℕ, ◌+◌, ◌-◌, ◌^◌, ◌<◌, ◌≤◌, ℤ, pos, nat_abs, length, take, drop, add-one, arith}
use mathlib.Core.List.{append-nil}
use lib.ListN.{set, length-set, drop_of_length-le}
use lib.Seq.{take_all}
use mir.Syntax.{w8, w64}
use mir.Val.{SFits}
use mir.Facts.{to_z-of_z}
use Rattle.integers.specs.Laws.Sizes.{fits-mag}
use Rattle.integers.specs.Vectors.{Sized}
use Rattle.layers.specs.Digits.{IsLayer, entry_of, digits_of}
use Rattle.layers.specs.E8.{layer_point8}
use Rattle.layers.proofs.Laws.Loops.{write-next}
use Rattle.scores.specs.Scores.{inner}
use Rattle.coding.specs.Laws.Counting.{counted_next}
use Rattle.tables.specs.Laws.Entries.{layer_at-entry, pair_row-long, pair_row-at}
use Rattle.tables.specs.Laws.Sizes.{layer_at-small, pair_entry-small}
use Rattle.coding.specs.Counting.{counted_up}
use Rattle.tables.specs.Tables.{layer_at, pair_row}
use Rattle.tables.proofs.pair_table.fill_row.Goals as goal

two : 0 < 2
two = omega arith

-- the row's point e, and the layer point j
module _ (ds : List ℕ) (h : IsLayer 8 2 ds) (j : ℕ) where
  abbrev e : List ℤ
  e = layer_point8 2 ds

  e-at : e ≡ layer_at 2 (entry_of 2 ds)
  e-at = sym (layer_at-entry 2 ds h)

  module _ {p f : List ℤ} (p-is : p ≡ e) {js : List ℕ} (js-is : js ≡ digits_of 2 8 j) (f-is : f ≡ layer_point8 2 js) where
    point-is : f ≡ layer_at 2 j
    point-is = f-is ∙ ap (layer_point8 2) js-is

    p-small : Sized 8 (2 ^ 14 - 1) p
    p-small = subst (Sized 8 (2 ^ 14 - 1)) (sym (p-is ∙ e-at)) (layer_at-small 2 two (entry_of 2 ds) (omega arith))

    f-small : Sized 8 (2 ^ 14 - 1) f
    f-small = subst (Sized 8 (2 ^ 14 - 1)) (sym point-is) (layer_at-small 2 two j (omega arith))

    -- their inner product
    module _ {y : ℤ} (y-inner : y ≡ inner p f) where
      y-is : y ≡ inner e (layer_at 2 j)
      y-is = y-inner ∙ ap₂ inner p-is point-is

      y-small : nat_abs y ≤ 32
      y-small = subst (λ (y : ℤ). nat_abs y ≤ 32) (sym (y-is ∙ ap (λ (e : List ℤ). inner e (layer_at 2 j)) e-at)) (pair_entry-small (entry_of 2 ds) j)

      y-fits : SFits w8 y
      y-fits = fits-mag w8 y (omega (arith, y-small))

      more : (found row : List ℤ) → length found ≡ 256 → j < 256 → row ≡ take j (pair_row e) ++ drop j found → set row j y ≡ take (j + 1) (pair_row e) ++ drop (j + 1) found
      more found row long within is =
          ap₂ (λ (f : List ℤ) (y : ℤ). set f j y) is (y-is ∙ sym (pair_row-at e j within))
          ∙ write-next (pair_row e) found j (pos 0) (omega (arith, within, pair_row-long e)) (omega (arith, pair_row-long e, long))

pub points_inner-requires : goal.points_inner-requires
points_inner-requires c =
    let d = c.args.ds.now in let h = c.requires.1 in let j = c.loop-entry.entry-index in
    (p-small d h j c.table_point-e.ensures c.loop-entry.invariant.0 c.table_point-f.ensures, f-small d h j c.table_point-e.ensures c.loop-entry.invariant.0 c.table_point-f.ensures)

pub overflow_cast-entry : goal.overflow_cast-entry
overflow_cast-entry c =
    let fits = y-fits c.args.ds.now c.requires.1 c.loop-entry.entry-index c.table_point-e.ensures c.loop-entry.invariant.0 c.table_point-f.ensures c.points_inner.ensures in
    let wide : SFits w64 c.points_inner.result = record { sfits = c.points_inner.type_inv } in
    simp (to_z-of_z, wide) fits

pub loop-entry-preserved : goal.loop-entry-preserved
loop-entry-preserved c =
    let j = c.loop-entry.entry-index in
    let inv = c.loop-entry.invariant in
    let row = c.loop-entry.row in
    let found = c.args.row.now in
    let long : length found ≡ 256 = c.requires.2 in
    let within : j < 256 = omega (arith, c.loop-entry-test.true, c.loop-entry.auto.row, c.loop-entry.auto.entry-index-end, long) in
    let fits = y-fits c.args.ds.now c.requires.1 j c.table_point-e.ensures inv.0 c.table_point-f.ensures c.points_inner.ensures in
    let wide : SFits w64 c.points_inner.result = record { sfits = c.points_inner.type_inv } in
    let written = more c.args.ds.now c.requires.1 j c.table_point-e.ensures inv.0 c.table_point-f.ensures c.points_inner.ensures found row long within inv.1 in (
      rw (add-one j) (c.count_up.ensures ∙ ap (counted_up 2) inv.0 ∙ counted_next 2 two 8 j),
      simp (to_z-of_z, wide, fits) written,
    )

pub returns : goal.returns
returns c = let e = layer_point8 2 c.args.ds.now in let j = c.loop-entry.entry-index in
    c.loop-entry.invariant.1
    ∙ ap₂ ◌++◌ (take_all j (pair_row e) (omega (arith, pair_row-long e, c.requires.2, c.loop-entry.auto.row, c.loop-entry.auto.entry-index-end, c.loop-entry-test.false)))
    (drop_of_length-le c.args.row.now {i = j} (omega (arith, c.loop-entry.auto.row, c.loop-entry.auto.entry-index-end, c.loop-entry-test.false)))
    ∙ append-nil (pair_row e)
