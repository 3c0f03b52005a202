-- `rounds` fills f by the rounding of each entry, and a by what that leaves.
use mathlib.Core.Path.{◌≡◌, ap}
use mathlib.Core.List.{List}
use Prim.Native.Nat.{ℕ, ◌<◌, ◌≤◌}
use native.Mathlib.Omega.{arith}
use lib.IntN.{ℤ, pos, nat_abs, ◌-ℤ◌, ◌*ℤ◌}
use mir.Syntax.{w16}
use mir.Val.{SFits}
use mir.Facts.{to_z-of_z}
use Rattle.integers.specs.Laws.Loops.{filled_more}
use Rattle.integers.specs.Laws.Sizes.{abs-mul, abs-mul-le, fits-mag}
use Rattle.integers.specs.Vectors.{«at»}
use Rattle.columns.specs.Laws.Narrow.{few-divisor, narrow-few, narrow-near, near-small, round-few}
use Rattle.rounding.proofs.Laws.Reciprocals.{left-small}
use Rattle.columns.specs.Narrow.{Few, Narrow, Near}
use Rattle.rounding.specs.Rounding.{round, left}
use Rattle.columns.proofs.narrow.rounds.Goals as goal

-- an entry x
module _ (s : ℤ) (d : List ℤ) (h : Narrow s d) (i : ℕ) (i< : i < 8) where
  abbrev S : ℤ
  S = pos 2 *ℤ s

  abbrev x : ℤ
  x = «at» d i

  few : Few s
  few = narrow-few h

  near : Near s x
  near = narrow-near h i i<

  fx : SFits w16 x
  fx = fits-mag w16 x (omega (arith, near-small s x few near))

  f_s : SFits w16 S
  f_s = fits-mag w16 S (omega (arith, abs-mul (pos 2) s, few.most))

  -- its rounding w
  module _ (w : ℤ) (w-is : w ≡ round S x) where
    fw : SFits w16 w
    fw = rw w-is (fits-mag w16 _ (omega (arith, round-few s x few near)))

    f_sw : SFits w16 (S *ℤ w)
    f_sw = let S≤ : nat_abs S ≤ 32 = omega (arith, abs-mul (pos 2) s, few.most) in rw w-is (fits-mag w16 _ (omega (arith, abs-mul-le S (round S x) S≤ (round-few s x few near))))

    a-is : x -ℤ S *ℤ w ≡ left S x
    a-is = ap (λ (z : ℤ). x -ℤ S *ℤ z) w-is

    fa : SFits w16 (x -ℤ S *ℤ w)
    fa = rw a-is (fits-mag w16 _ (omega (arith, left-small s (few-divisor few) x, few.most)))

pub overflow_mul-a-in-loop-i : goal.overflow_mul-a-in-loop-i
overflow_mul-a-in-loop-i c = let s = c.args.s in let d = c.args.d.now in let h = c.requires.0 in let i = c.loop-i.i in let l = c.loop-i-test.true in let w = c.round-w.result in
    let e = simp (to_z-of_z, c.ranges.s, fx s d h i l) at c.round-w.ensures in simp (to_z-of_z, c.ranges.s, f_s s d h i l, fw s d h i l w e) (f_sw s d h i l w e)

pub overflow_sub-a : goal.overflow_sub-a
overflow_sub-a c = let s = c.args.s in let d = c.args.d.now in let h = c.requires.0 in let i = c.loop-i.i in let l = c.loop-i-test.true in let w = c.round-w.result in
    let e = simp (to_z-of_z, c.ranges.s, fx s d h i l) at c.round-w.ensures in simp (to_z-of_z, c.ranges.s, fx s d h i l, f_s s d h i l, fw s d h i l w e, f_sw s d h i l w e) (fa s d h i l w e)

pub loop-i-preserved : goal.loop-i-preserved
loop-i-preserved c = let s = c.args.s in let d = c.args.d.now in let h = c.requires.0 in let i = c.loop-i.i in let l = c.loop-i-test.true in let w = c.round-w.result in
    let e = simp (to_z-of_z, c.ranges.s, fx s d h i l) at c.round-w.ensures in simp (to_z-of_z, c.ranges.s, fx s d h i l, f_s s d h i l, fw s d h i l w e, f_sw s d h i l w e, fa s d h i l w e) (record {
      whole = filled_more (round (pos 2 *ℤ s)) 8 d h.long (pos 0) w e l (simp (to_z-of_z, c.ranges.s) at c.loop-i.invariant.whole);
      rest = filled_more (left (pos 2 *ℤ s)) 8 d h.long (pos 0) _ (a-is s d h i l w e) l (simp (to_z-of_z, c.ranges.s) at c.loop-i.invariant.rest);
    })
