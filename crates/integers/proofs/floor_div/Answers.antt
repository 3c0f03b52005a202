-- `floor_div` is the floor quotient: the machine's quotient where x is not negative, and one less than that of x + 1 where it is.
use mathlib.Core.Path.{◌≡◌}
use lib.IntN.{ℤ, pos, nat_abs, ◌+ℤ◌, ◌-ℤ◌}
use lib.Signed.{quot_z, ◌<ℤ◌}
use mir.Syntax.{w64}
use mir.Val.{SFits}
use mir.Facts.{to_z-of_z}
use Rattle.integers.specs.Floor.{floor_div}
use Rattle.integers.specs.Laws.Sizes.{bits_pos, le_z-true, le_z-false}
use Rattle.integers.specs.Laws.Floors.{floor_div-quot, floor_div-quot-neg, fits-floor_div, fits-quot-pos, fits_next}
use Rattle.integers.proofs.floor_div.Goals as goal
use Rattle.integers.proofs.floor_div.Goals.{Else-x-ge0, Start}

module _ (s : Start) where
  abbrev x : ℤ
  x = s.args.x

  abbrev m : ℤ
  m = s.args.m

  quot : SFits w64 (quot_z x m)
  quot = fits-quot-pos x m s.ranges.x s.requires

  module _ (neg : x <ℤ pos 0) where
    more : SFits w64 (x +ℤ pos 1)
    more = fits_next x s.ranges.x neg

    quot-2 : SFits w64 (quot_z (x +ℤ pos 1) m)
    quot-2 = fits-quot-pos (x +ℤ pos 1) m more s.requires

    is : quot_z (x +ℤ pos 1) m -ℤ pos 1 ≡ floor_div x (nat_abs m)
    is = floor_div-quot-neg x m neg s.requires

    less : SFits w64 (quot_z (x +ℤ pos 1) m -ℤ pos 1)
    less = rw is (fits-floor_div x (nat_abs m) s.ranges.x)

negative : (c : Else-x-ge0) → c.before.args.x <ℤ pos 0
negative c = le_z-false (pos 0) _ (simp (to_z-of_z, c.before.ranges.x) at c.if-x-ge0.false)

pub nonzero_div-result : goal.nonzero_div-result
nonzero_div-result c = let s = c.before in simp (to_z-of_z, s.ranges.x, s.ranges.m) (bits_pos (m s) s.requires, quot s)

pub overflow_add-result : goal.overflow_add-result
overflow_add-result c = let s = c.before in simp (to_z-of_z, s.ranges.x) (more s (negative c))

pub nonzero_div-result-else-x-ge0 : goal.nonzero_div-result-else-x-ge0
nonzero_div-result-else-x-ge0 c = let s = c.before in simp (to_z-of_z, s.ranges.x, s.ranges.m, more s (negative c)) (bits_pos (m s) s.requires, quot-2 s (negative c))

pub overflow_sub-result : goal.overflow_sub-result
overflow_sub-result c = let s = c.before in simp (to_z-of_z, s.ranges.x, s.ranges.m, more s (negative c), quot-2 s (negative c)) (less s (negative c))

pub returns-then-x-ge0 : goal.returns-then-x-ge0
returns-then-x-ge0 c = let s = c.before in simp (to_z-of_z, s.ranges.x, s.ranges.m, quot s) (floor_div-quot (x s) (m s) (le_z-true (pos 0) (x s) (simp (to_z-of_z, s.ranges.x) at c.if-x-ge0.true)) s.requires)

pub returns-else-x-ge0 : goal.returns-else-x-ge0
returns-else-x-ge0 c = let s = c.before in simp (to_z-of_z, s.ranges.x, s.ranges.m, more s (negative c), quot-2 s (negative c), less s (negative c)) (is s (negative c))
