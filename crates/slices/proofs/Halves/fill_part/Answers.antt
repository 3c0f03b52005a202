-- `fill_part` fills run after run: after g turns the first g are right.
use Rattle.std.proofs.Common.{◌≡◌, sym, ◌∙◌, ap, ap₂, subst, List, [], map, ℕ, ◌+◌, ◌*◌, ◌-◌, ◌%◌, ◌^◌, ◌<◌, ◌≤◌, ℤ, pos, nat_abs, length, get_or, take, drop, zero-add, arith, length-take, length-drop}
use borrow.Rule.Slice.PartMut.{put_mid}
use lib.ListN.{length-map}
use lib.Seq.{get_or-take, get_or-drop, take_all}
use mir.Syntax.{w16, w32}
use mir.Val.{SFits, to_z, of_z}
use mir.Facts.{to_z-of_z}
use Rattle.integers.specs.Vectors.{«at», dot, Sized, range}
use Rattle.integers.specs.Laws.Loops.{range-long, range_at}
use Rattle.integers.specs.Laws.Sizes.{fits-mag}
use Rattle.integers.specs.Laws.Sums.{bounded-take, bounded-drop}
use Rattle.columns.specs.Narrow.{Few}
use Rattle.layers.proofs.Laws.Bases.{base-two, base-divisor}
use Rattle.rounding.specs.Rounding.{lowered}
use Rattle.slices.specs.Slices.{Sizes, point_by}
use Rattle.slices.specs.Sums.{even_at, odd_at, mend_at, Run, run_at}
use Rattle.slices.specs.Laws.Powers.{run_size, row_count, fourth-is, seventh-is, size_few, rows_few, slice-few, run_room, low-room}
use Rattle.slices.specs.Laws.Runs.{Begun, Looked, run-at, begun-none, begun_more, begun_all}
use Rattle.slices.specs.Laws.Sums.{zeros-sized, range-sized, dot-sized, lowered-sized, mend-small}
use Rattle.slices.proofs.Halves.fill_part.Goals as goal

-- the readings by halves
module _ {X : List ℤ} (x : Sized 8 (2 ^ 24) X) where
  abbrev five : List ℤ
  five = take 5 (drop 3 X)

  three-sized : Sized 3 (2 ^ 24) (take 3 X)
  three-sized = record { long = simp length-take (omega (arith, x.long)); small = bounded-take (2 ^ 24) 3 X x.small }

  five-sized : Sized 5 (2 ^ 24) five
  five-sized = record { long = simp (length-take, length-drop) (omega (arith, x.long)); small = bounded-take (2 ^ 24) 5 (drop 3 X) (bounded-drop (2 ^ 24) 3 X x.small) }

  five-is : five ≡ drop 3 X
  five-is = take_all 5 (drop 3 X) (simp length-drop (omega (arith, x.long)))

-- the sizes at the base as the code reads it
given : {a : ℤ} → {choices : List ℕ} → {lows highs : List (List ℤ)} → SFits w16 a → Sizes a choices lows highs → Sizes (to_z w16 (of_z w16 a)) choices lows highs
given f h = simp (to_z-of_z, f) h

module _ {q : ℤ} {choices : List ℕ} {lows highs : List (List ℤ)} (sizes : Sizes q choices lows highs) where
  q≤ : nat_abs q ≤ 4
  q≤ = sizes.most

  q≥ : 2 ≤ nat_abs q
  q≥ = base-two q sizes.base

  few : Few q
  few = record { least = (base-divisor q sizes.base).least; most = omega (arith, q≤) }

  rows≤ : row_count q ≤ 256
  rows≤ = rows_few q q≤

  z-sized : {X z : List ℤ} → Sized 8 (2 ^ 24) X → z ≡ map (mend_at q X) (range 0 48) → Sized 48 (2 ^ 27) z
  z-sized {X} x z-is = rw z-is (range-sized (mend_at q X) (2 ^ 27) 48 (λ k h. mend-small q q≤ k h X x.small))

  -- the run g
  module _ (g : ℕ) (g< : g < row_count q) where
    abbrev T : ℕ
    T = run_size q

    abbrev from : ℕ
    from = T * g

    abbrev low_from : ℕ
    low_from = 2 * (T * (g % nat_abs q))

    g≤ : g < 256
    g≤ = omega (arith, g<, rows≤)

    T≤ : T ≤ 64
    T≤ = size_few q q≤

    ends : from + T ≤ T * row_count q
    ends = run_room q g g<

    ends≤ : from + T ≤ 16384
    ends≤ = omega (arith, ends, slice-few q q≤)

    low_ends≤ : low_from + 2 * T ≤ 512
    low_ends≤ = omega (arith, low-room q q≥ g, rows≤)

    row : Sized 5 4 (get_or highs g [])
    row = sizes.high g (rw (fourth-is q) g<)

    whole : from + T - from ≡ T
    whole = omega arith

    low_whole : low_from + 2 * T - low_from ≡ 2 * T
    low_whole = omega arith

    -- the sums with the high row
    module _ {X : List ℤ} (x : Sized 8 (2 ^ 24) X) where
      even-small : {e : ℤ} → e ≡ even_at (five x) highs g → nat_abs e ≤ 40 * 2 ^ 24
      even-small e = rw e (omega (arith, dot-sized 5 (2 ^ 24) 4 (five x) (get_or highs g []) (five-sized x) row))

      odd-small : {e : ℤ} → e ≡ odd_at q (five x) highs g → nat_abs e ≤ 40 * 2 ^ 24
      odd-small e = rw e (omega (arith, dot-sized 5 (2 ^ 24) 8 (five x) (map (lowered q) (get_or highs g [])) (five-sized x) (lowered-sized 5 q (get_or highs g []) q≤ row)))

      fits-even : {e : ℤ} → e ≡ even_at (five x) highs g → SFits w32 e
      fits-even e = fits-mag w32 _ (omega (arith, even-small e))

      fits-odd : {e : ℤ} → e ≡ odd_at q (five x) highs g → SFits w32 e
      fits-odd e = fits-mag w32 _ (omega (arith, odd-small e))

    -- what is lent for the run
    module _ (sums : List ℤ) (sums-sized : Sized 512 (2 ^ 29) sums) (y : List ℤ) (y-sized : Sized 48 (2 ^ 30) y) (found : List ℤ) (found-long : length found ≡ T * row_count q) where
      abbrev low_part : List ℤ
      low_part = take (low_from + 2 * T - low_from) (drop low_from sums)

      abbrev choice_part : List ℕ
      choice_part = take (from + T - from) (drop from choices)

      abbrev lent : List ℤ
      lent = take (from + T - from) (drop from found)

      lent-long : length lent ≡ T
      lent-long = simp (length-take, length-drop) (omega (arith, ends, found-long))

      low_part-long : length low_part ≡ 2 * T
      low_part-long = simp (length-take, length-drop) (omega (arith, low_ends≤, sums-sized.long))

      choice_part-long : length choice_part ≡ T
      choice_part-long = simp (length-take, length-drop) (omega (arith, ends≤, sizes.choices-long))

      low_part-sized : Sized (2 * length lent) (2 ^ 29) low_part
      low_part-sized = record {
        long = low_part-long ∙ ap (λ (n : ℕ). 2 * n) (sym lent-long);
        small = bounded-take (2 ^ 29) (low_from + 2 * T - low_from) (drop low_from sums) (bounded-drop (2 ^ 29) low_from sums sums-sized.small);
      }

      choice-is : (i : ℕ) → i < T → get_or choice_part i 0 ≡ get_or choices (from + i) 0
      choice-is i h = get_or-take (from + T - from) (drop from choices) i 0 (omega (arith, h, whole)) ∙ get_or-drop from choices i 0

      run : Run (length lent) low_part y choice_part
      run = record {
        few = omega (arith, lent-long, T≤);
        pairs-sized = low_part-sized;
        sums-sized = y-sized;
        choices-long = choice_part-long ∙ sym lent-long;
        below = λ i h. let k : i < T = omega (arith, lent-long) in rw (choice-is i k) (sizes.below (from + i) (rw (seventh-is q) (omega (arith, ends))));
      }

      -- it is filled, and comes back
      module _ (X z : List ℤ) (even odd : ℤ) (looked : Looked q lows highs X g sums z y even odd) (filled : List ℤ) (filled_is : filled ≡ map (run_at low_part y choice_part) (range 0 (length lent))) (begun : Begun q choices lows highs X g found) where
        filled-long : length filled ≡ T
        filled-long = ap length filled_is ∙ length-map (range 0 (length lent)) (run_at low_part y choice_part) ∙ range-long 0 (length lent) ∙ lent-long

        filled_at : (i : ℕ) → i < T → «at» filled i ≡ dot X (point_by q choices lows highs (from + i))
        filled_at i k =
            ap (λ (r : List ℤ). «at» r i) filled_is
            ∙ range_at (run_at low_part y choice_part) 0 (length lent) i (pos 0) (omega (arith, lent-long)) ∙ ap (run_at low_part y choice_part) (zero-add i)
            ∙ ap₂ (λ (v n : ℕ). run_at (take v (drop low_from sums)) y (take n (drop from choices)) i) low_whole whole
            ∙ run-at q lows highs X g sums z y _ _ looked choices sizes g< i k

        more : Begun q choices lows highs X (g + 1) (put_mid from (from + T - from) found filled)
        more = subst (λ (n : ℕ). Begun q choices lows highs X (g + 1) (put_mid from n found filled)) (sym whole)
            (begun_more q choices lows highs X g found filled begun g< filled-long filled_at)

pub low_sums-requires : goal.low_sums-requires
low_sums-requires c = let s = given c.ranges.q c.requires.0 in
    (three-sized c.requires.1, s.lows-long, λ j h. s.low j (rw (fourth-is (to_z w16 (of_z w16 c.args.q))) h), few s, q≤ s, rows≤ s, zeros-sized 512 (2 ^ 29))

pub loop-g-init : goal.loop-g-init
loop-g-init c = (begun-none (to_z w16 (of_z w16 c.args.q)) c.args.self.now.choices c.args.self.now.lows c.args.self.now.highs c.args.x.now c.args.part.now (simp (to_z-of_z, c.ranges.q) c.requires.2), zeros-sized 48 (2 ^ 30))

pub offset_bounds-self-g : goal.offset_bounds-self-g
offset_bounds-self-g c = let h = g≤ (given c.ranges.q c.requires.0) c.loop-g.g c.loop-g-test.true in omega (arith, h)

pub bounds-self-g : goal.bounds-self-g
bounds-self-g c = g≤ (given c.ranges.q c.requires.0) c.loop-g.g c.loop-g-test.true

pub half_sums-even-requires : goal.half_sums-even-requires
half_sums-even-requires c = let s = given c.ranges.q c.requires.0 in let x = five-sized c.requires.1 in let r = row s c.loop-g.g c.loop-g-test.true in
    (omega (arith, x.long, r.long), omega (arith, x.long), x.small, r.small, few s, q≤ s)

pub add_high-requires : goal.add_high-requires
add_high-requires c =
    let s = given c.ranges.q c.requires.0 in
    let e = even-small s c.loop-g.g c.loop-g-test.true c.requires.1 c.half_sums-even.ensures.even in
    let o = odd-small s c.loop-g.g c.loop-g-test.true c.requires.1 c.half_sums-even.ensures.odd in
    let fe = fits-even s c.loop-g.g c.loop-g-test.true c.requires.1 c.half_sums-even.ensures.even in
    let fo = fits-odd s c.loop-g.g c.loop-g-test.true c.requires.1 c.half_sums-even.ensures.odd in
    (z-sized s c.requires.1 c.mends-z.ensures, simp (to_z-of_z, fe) e, simp (to_z-of_z, fo) o, c.loop-g.invariant.1)

pub overflow_mul-at : goal.overflow_mul-at
overflow_mul-at c = let h = low_ends≤ (given c.ranges.q c.requires.0) c.loop-g.g c.loop-g-test.true in omega (arith, h)

pub overflow_mul-at-in-loop-g : goal.overflow_mul-at-in-loop-g
overflow_mul-at-in-loop-g c = let h = low_ends≤ (given c.ranges.q c.requires.0) c.loop-g.g c.loop-g-test.true in omega (arith, h)

pub overflow_add-end : goal.overflow_add-end
overflow_add-end c = let h = low_ends≤ (given c.ranges.q c.requires.0) c.loop-g.g c.loop-g-test.true in omega (arith, h)

pub overflow_mul-from : goal.overflow_mul-from
overflow_mul-from c = let h = ends≤ (given c.ranges.q c.requires.0) c.loop-g.g c.loop-g-test.true in omega (arith, h)

pub overflow_add-to : goal.overflow_add-to
overflow_add-to c = let h = ends≤ (given c.ranges.q c.requires.0) c.loop-g.g c.loop-g-test.true in omega (arith, h)

pub offset_bounds-sums-at : goal.offset_bounds-sums-at
offset_bounds-sums-at c = let h = low_ends≤ (given c.ranges.q c.requires.0) c.loop-g.g c.loop-g-test.true in omega (arith, h)

pub slice_bounds-fill_run-end : goal.slice_bounds-fill_run-end
slice_bounds-fill_run-end c = let h = low_ends≤ (given c.ranges.q c.requires.0) c.loop-g.g c.loop-g-test.true in omega (arith, h, c.low_sums.ensures.0.long)

pub slice_bounds-fill_run-end-in-loop-g : goal.slice_bounds-fill_run-end-in-loop-g
slice_bounds-fill_run-end-in-loop-g c = let h = ends≤ (given c.ranges.q c.requires.0) c.loop-g.g c.loop-g-test.true in omega (arith, h, c.requires.0.choices-long)

pub slice_bounds-fill_run-end-in-loop-g-2 : goal.slice_bounds-fill_run-end-in-loop-g-2
slice_bounds-fill_run-end-in-loop-g-2 c = let h = ends (given c.ranges.q c.requires.0) c.loop-g.g c.loop-g-test.true in omega (arith, h, c.loop-g.invariant.0.long)

pub fill_run-requires : goal.fill_run-requires
fill_run-requires c = run (given c.ranges.q c.requires.0) c.loop-g.g c.loop-g-test.true c.low_sums.new.sums c.low_sums.ensures.0 c.add_high.new.y c.add_high.ensures.0 c.loop-g.part c.loop-g.invariant.0.long

pub loop-g-preserved : goal.loop-g-preserved
loop-g-preserved c =
    let q : ℤ = to_z w16 (of_z w16 c.args.q) in
    let s = given c.ranges.q c.requires.0 in
    let high = get_or c.args.self.now.highs c.loop-g.g [] in
    let fe = fits-even s c.loop-g.g c.loop-g-test.true c.requires.1 c.half_sums-even.ensures.even in
    let fo = fits-odd s c.loop-g.g c.loop-g-test.true c.requires.1 c.half_sums-even.ensures.odd in
    let looked : Looked q c.args.self.now.lows c.args.self.now.highs c.args.x.now c.loop-g.g c.low_sums.new.sums c.mends-z.result c.add_high.new.y (to_z w32 (of_z w32 c.half_sums-even.result.0)) (to_z w32 (of_z w32 c.half_sums-even.result.1)) = record {
      low = c.low_sums.ensures.1;
      mends = c.mends-z.ensures;
      high = c.add_high.ensures.1;
      even_is = to_z-of_z fe ∙ c.half_sums-even.ensures.even ∙ ap (λ (x : List ℤ). dot x high) (five-is c.requires.1);
      odd_is = to_z-of_z fo ∙ c.half_sums-even.ensures.odd ∙ ap (λ (x : List ℤ). dot x (map (lowered q) high)) (five-is c.requires.1);
    } in (
      more s c.loop-g.g c.loop-g-test.true c.low_sums.new.sums c.low_sums.ensures.0 c.add_high.new.y c.add_high.ensures.0 c.loop-g.part c.loop-g.invariant.0.long c.args.x.now c.mends-z.result _ _ looked c.fill_run.new.run c.fill_run.ensures c.loop-g.invariant.0,
      c.add_high.ensures.0,
    )

pub returns : goal.returns
returns c = let q = to_z w16 (of_z w16 c.args.q) in
    simp (to_z-of_z, c.ranges.q) at (begun_all q c.args.self.now.choices c.args.self.now.lows c.args.self.now.highs c.args.x.now c.loop-g.g c.loop-g.part c.loop-g.invariant.0 c.loop-g-test.false)
