-- `rounds` fills f by the rounding of each entry, and a by what that leaves.
use mathlib.Core.Path.{◌≡◌, ap}
use Prim.Native.Nat.{◌^◌, ◌≤◌}
use native.Mathlib.Omega.{arith}
use lib.IntN.{ℤ, pos, nat_abs, ◌*ℤ◌}
use mir.Syntax.{w64}
use mir.Val.{SFits}
use mir.Facts.{to_z-of_z}
use Rattle.integers.specs.Laws.Loops.{filled_more}
use Rattle.integers.specs.Laws.Sizes.{fits-abs}
use Rattle.integers.specs.Vectors.{«at»}
use Rattle.rounding.specs.declared.coordinate.Rounded.{Rounded}
use Rattle.rounding.proofs.Laws.Reciprocals.{left-small, round-small}
use Rattle.rounding.specs.Rounding.{Divisor, round, left, rounded}
use Rattle.rounding.proofs.half.rounds.Goals as goal

-- the coordinate x rounded to r
module _ (s x : ℤ) (h : Divisor s) (l : nat_abs x ≤ 2 ^ 30) (r : Rounded) (is : r ≡ rounded (pos 2 *ℤ s) x) where
  whole-is : r.whole ≡ round (pos 2 *ℤ s) x
  whole-is = ap (λ (r : Rounded). r.whole) is

  rest-is : r.rest ≡ left (pos 2 *ℤ s) x
  rest-is = ap (λ (r : Rounded). r.rest) is

  fw : SFits w64 r.whole
  fw = rw whole-is (fits-abs _ (omega (arith, round-small s h x)))

  fr : SFits w64 r.rest
  fr = rw rest-is (fits-abs _ (omega (arith, left-small s h x, h.most)))

pub loop-i-preserved : goal.loop-i-preserved
loop-i-preserved c = let s : ℤ = c.args.s in let d = c.args.d.now in let i = c.loop-i.i in let x : ℤ = «at» d i in let h = c.requires.0 in let l = c.requires.1.small i in let r = c.round-r.result in
    let fx : SFits w64 x = fits-abs x (omega (arith, c.requires.1.small i)) in let e = simp (to_z-of_z, c.ranges.s, fx) at c.round-r.ensures in
    simp (to_z-of_z, c.ranges.s, fw s x h l r e, fr s x h l r e) (record {
      whole = filled_more (round (pos 2 *ℤ s)) 8 d c.requires.1.long (pos 0) r.whole (whole-is s x h l r e) c.loop-i-test.true (simp (to_z-of_z, c.ranges.s) at c.loop-i.invariant.whole);
      rest = filled_more (left (pos 2 *ℤ s)) 8 d c.requires.1.long (pos 0) r.rest (rest-is s x h l r e) c.loop-i-test.true (simp (to_z-of_z, c.ranges.s) at c.loop-i.invariant.rest);
    })
