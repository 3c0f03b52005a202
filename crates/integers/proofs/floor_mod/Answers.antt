-- `floor_mod` is the floor remainder: the machine's remainder, which has the sign of x, and m more where that is negative.
use native.Mathlib.Omega.{arith}
use lib.IntN.{ℤ, pos, nat_abs, ◌+ℤ◌}
use lib.Signed.{rem_z, ◌<ℤ◌}
use mir.Syntax.{w64}
use mir.Val.{SFits}
use mir.Facts.{to_z-of_z}
use Rattle.integers.specs.Floor.{floor_mod}
use Rattle.integers.specs.Laws.Sizes.{fits-abs, fits-rem, bits_pos, lt_z-true, lt_z-false, abs-fits}
use Rattle.integers.specs.Laws.Floors.{mod-rem, mod-rem-neg, floor_mod-lt, fits-quot-pos, abs-pos}
use Rattle.integers.proofs.floor_mod.Goals as goal
use Rattle.integers.proofs.floor_mod.Goals.{Start, Then-r-lt0}

module _ (s : Start) where
  abbrev x : ℤ
  x = s.args.x

  abbrev m : ℤ
  m = s.args.m

  r : SFits w64 (rem_z x m)
  r = fits-rem x m s.ranges.x

  up : rem_z x m <ℤ pos 0 → SFits w64 (rem_z x m +ℤ m)
  up h = rw (mod-rem-neg x m s.requires h) (fits-abs (pos (floor_mod x (nat_abs m))) (omega (arith, floor_mod-lt x (nat_abs m) (abs-pos m s.requires), abs-fits m s.ranges.m)))

pub nonzero_rem-r : goal.nonzero_rem-r
nonzero_rem-r c = simp (to_z-of_z, c.ranges.x, c.ranges.m) (bits_pos (m c) c.requires, fits-quot-pos (x c) (m c) c.ranges.x c.requires)

negative : (c : Then-r-lt0) → rem_z c.before.args.x c.before.args.m <ℤ pos 0
negative c = let s = c.before in lt_z-true _ _ (simp (to_z-of_z, s.ranges.x, s.ranges.m, r s) at c.if-r-lt0.true)

pub overflow_add-result : goal.overflow_add-result
overflow_add-result c = let s = c.before in simp (to_z-of_z, s.ranges.x, s.ranges.m, r s) (up s (negative c))

pub returns-then-r-lt0 : goal.returns-then-r-lt0
returns-then-r-lt0 c = let s = c.before in simp (to_z-of_z, s.ranges.x, s.ranges.m, r s, up s (negative c)) (mod-rem-neg (x s) (m s) s.requires (negative c))

pub returns-else-r-lt0 : goal.returns-else-r-lt0
returns-else-r-lt0 c = let s = c.before in simp (to_z-of_z, s.ranges.x, s.ranges.m, r s)
    (mod-rem (x s) (m s) s.requires (lt_z-false _ _ (simp (to_z-of_z, s.ranges.x, s.ranges.m, r s) at c.if-r-lt0.false)))
