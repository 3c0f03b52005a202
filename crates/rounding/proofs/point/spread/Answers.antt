-- `spread` fills its result by twice each rounding and p times the way on.
use mathlib.Core.Path.{◌≡◌, refl, sym, ◌∙◌, ap, subst}
use Prim.Native.Nat.{ℕ, ◌^◌}
use native.Mathlib.Nat.{zero-add}
use native.Mathlib.Omega.{arith}
use lib.IntN.{ℤ, pos, ◌+ℤ◌, ◌*ℤ◌}
use lib.ListN.{get_or}
use mir.Syntax.{w64}
use mir.Val.{SFits}
use mir.Facts.{to_z-of_z}
use Rattle.integers.specs.Laws.Loops.{filled_more, filled-all, range_at}
use Rattle.integers.specs.Laws.Sizes.{abs-mul, abs-mul-le, fits-abs, fits-add, fits-mul}
use Rattle.integers.specs.Vectors.{«at», range}
use Rattle.rounding.proofs.Laws.Choice.{sign_small}
use Rattle.rounding.specs.Rounding.{sign}
use Rattle.rounding.proofs.point.spread.Goals as goal
use Rattle.rounding.proofs.point.spread.Goals.{After-sign}
use Rattle.rounding.proofs.point.spread.Invariants.{wide}

-- an entry of the rounding and of what it leaves, and the way that was read
module _ (c : After-sign) where
  abbrev i : ℕ
  i = c.loop-i.i

  abbrev p : ℤ
  p = c.args.p

  abbrev x : ℤ
  x = «at» c.args.f.now i

  abbrev y : ℤ
  y = «at» c.args.a.now i

  abbrev w : ℤ
  w = c.sign.result

  fx : SFits w64 x
  fx = fits-abs x (omega (arith, c.requires.1.small i))

  f2x : SFits w64 (pos 2 *ℤ x)
  f2x = fits-mul (pos 2) x 2 (2 ^ 32) (omega arith) (c.requires.1.small i) (omega arith)

  is : w ≡ sign y
  is = let f : SFits w64 y = fits-abs y (omega (arith, c.requires.2.small i)) in simp (to_z-of_z, f) at c.sign.ensures

  fw : SFits w64 w
  fw = subst (SFits w64) (sym is) (fits-abs _ (omega (arith, sign_small y)))

  fpw : SFits w64 (p *ℤ w)
  fpw = subst (λ (z : ℤ). SFits w64 (p *ℤ z)) (sym is) (fits-mul p (sign y) 1 1 c.requires.0 (sign_small y) (omega arith))

  fe : SFits w64 (pos 2 *ℤ x +ℤ p *ℤ w)
  fe = subst (λ (z : ℤ). SFits w64 (pos 2 *ℤ x +ℤ p *ℤ z)) (sym is) (fits-add (pos 2 *ℤ x) (p *ℤ sign y) (omega (arith, abs-mul (pos 2) x, c.requires.1.small i, abs-mul-le p (sign y) {m = 1} {n = 1} c.requires.0 (sign_small y))))

pub overflow_add-e : goal.overflow_add-e
overflow_add-e c = simp (to_z-of_z, fx c, f2x c, c.ranges.p, fw c, fpw c) (fe c)

pub loop-i-preserved : goal.loop-i-preserved
loop-i-preserved c = let n = i c in let f = wide (p c) c.args.f.now c.args.a.now in
    let e : pos 2 *ℤ x c +ℤ p c *ℤ w c ≡ f (get_or (range 0 8) n 0) = ap (λ (z : ℤ). pos 2 *ℤ x c +ℤ p c *ℤ z) (is c) ∙ ap f (sym (range_at (λ (k : ℕ). k) 0 8 n 0 (omega arith) ∙ zero-add n)) in
    simp (to_z-of_z, fx c, f2x c, c.ranges.p, fw c, fpw c, fe c) (filled_more f 8 (range 0 8) refl 0 _ e (omega arith) (simp (to_z-of_z, c.ranges.p) at c.loop-i.invariant))

pub returns : goal.returns
returns c = filled-all (wide c.args.p c.args.f.now c.args.a.now) 8 (range 0 8) refl (omega arith) (simp (to_z-of_z, c.ranges.p) at c.loop-i.invariant)
