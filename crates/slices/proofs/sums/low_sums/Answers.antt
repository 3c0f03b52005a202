-- `low_sums` goes row by row: after j turns the first j pairs are right.
use Rattle.std.proofs.Common.{◌≡◌, ℕ, ◌+◌, ◌*◌, ◌^◌, ◌<◌, ◌≤◌, ℤ, nat_abs, List, [], map, get_or, arith}
use lib.ListN.{set}
use mir.Syntax.{w32}
use mir.Val.{SFits}
use mir.Facts.{to_z-of_z}
use Rattle.integers.specs.Vectors.{Sized}
use Rattle.integers.specs.Laws.Sizes.{fits-mag}
use Rattle.integers.specs.Laws.Sums.{sized_set}
use Rattle.rounding.specs.Rounding.{lowered}
use Rattle.slices.specs.Sums.{even_at, odd_at, Paired}
use Rattle.slices.specs.Laws.Sums.{dot-sized, lowered-sized, paired-more}
use Rattle.slices.proofs.sums.low_sums.Goals as goal

-- the two sums of the row j
module _ (X : List ℤ) (rows : List (List ℤ)) (s : ℤ) (j : ℕ) (x : Sized 3 (2 ^ 24) X) (row : Sized 3 4 (get_or rows j [])) (few : nat_abs s ≤ 4) where
  even-small : nat_abs (even_at X rows j) ≤ 2 ^ 29
  even-small = omega (arith, dot-sized 3 (2 ^ 24) 4 X (get_or rows j []) x row)

  odd-small : nat_abs (odd_at s X rows j) ≤ 2 ^ 29
  odd-small = omega (arith, dot-sized 3 (2 ^ 24) 8 X (map (lowered s) (get_or rows j [])) x (lowered-sized 3 s (get_or rows j []) few row))

  more : (before : List ℤ) → Sized 512 (2 ^ 29) before → Paired (even_at X rows) (odd_at s X rows) j before → (e o : ℤ) → e ≡ even_at X rows j → o ≡ odd_at s X rows j → j < 256
      → Sized 512 (2 ^ 29) (set (set before (2 * j) e) (2 * j + 1) o) × Paired (even_at X rows) (odd_at s X rows) (j + 1) (set (set before (2 * j) e) (2 * j + 1) o)
  more before i p e o even_is odd_is lt = (
    sized_set 512 (2 ^ 29) _ (sized_set 512 (2 ^ 29) before i (2 ^ 29) (omega arith) (2 * j) e (rw even_is even-small)) (2 ^ 29) (omega arith) (2 * j + 1) o (rw odd_is odd-small),
    paired-more (even_at X rows) (odd_at s X rows) j before p (omega (arith, i.long)) e o even_is odd_is,
  )

pub loop-j-preserved : goal.loop-j-preserved
loop-j-preserved c =
    let j = c.loop-j.j in
    let lt : j < c.args.n = c.loop-j-test.true in
    let fs = c.ranges.s in
    let few = c.requires.4 in
    let x = c.requires.0 in
    let row = c.requires.2 j lt in
    let even = c.half_sums-even.result.0 in
    let odd = c.half_sums-even.result.1 in
    let even_is : even ≡ even_at c.args.x.now c.args.lows.now j = c.half_sums-even.ensures.even in
    let odd_is : odd ≡ odd_at c.args.s c.args.x.now c.args.lows.now j = simp (to_z-of_z, fs) at c.half_sums-even.ensures.odd in
    let f1 : SFits w32 even = fits-mag w32 even (rw even_is (omega (arith, even-small c.args.x.now c.args.lows.now c.args.s j x row few))) in
    let f2 : SFits w32 odd = fits-mag w32 odd (rw odd_is (omega (arith, odd-small c.args.x.now c.args.lows.now c.args.s j x row few))) in
    let m = more c.args.x.now c.args.lows.now c.args.s j x row few c.loop-j.sums c.loop-j.invariant.0 (simp (to_z-of_z, fs) at c.loop-j.invariant.1) even odd even_is odd_is (omega (arith, c.requires.5)) in
    simp (to_z-of_z, fs, f1, f2) (m.0, m.1)
