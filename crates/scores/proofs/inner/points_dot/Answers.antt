-- `points_dot` adds the products up: after i turns t is the inner product of the first i entries of each, and fits 32 bits.
use mathlib.Core.List.{List}
use Prim.Native.Nat.{ℕ, suc, ◌-◌, ◌^◌, ◌<◌}
use native.Mathlib.Numerals.{add-one}
use native.Mathlib.Omega.{arith}
use lib.IntN.{ℤ, ◌+ℤ◌, ◌*ℤ◌}
use lib.ListN.{take}
use mir.Syntax.{w16, w32}
use mir.Val.{SFits}
use mir.Facts.{to_z-of_z}
use Rattle.integers.specs.Laws.Sizes.{fits-mag, abs-mul-le}
use Rattle.integers.specs.Laws.Sums.{dot-take-suc, dot-bound}
use Rattle.integers.specs.Vectors.{«at», dot, Sized}
use Rattle.scores.proofs.inner.points_dot.Goals as goal

-- the entries i, their product and the sum with it are small
module _ (a b : List ℤ) (h : Sized 8 (2 ^ 14 - 1) a) (k : Sized 8 (2 ^ 14 - 1) b) (i : ℕ) where
  gx : SFits w16 («at» a i)
  gx = fits-mag w16 («at» a i) (omega (arith, h.small i))

  gy : SFits w16 («at» b i)
  gy = fits-mag w16 («at» b i) (omega (arith, k.small i))

  fx : SFits w32 («at» a i)
  fx = fits-mag w32 («at» a i) (omega (arith, h.small i))

  fy : SFits w32 («at» b i)
  fy = fits-mag w32 («at» b i) (omega (arith, k.small i))

  fxy : SFits w32 («at» a i *ℤ «at» b i)
  fxy = fits-mag w32 _ (omega (arith, abs-mul-le («at» a i) («at» b i) (h.small i) (k.small i)))

  ft : i < 8 → SFits w32 (dot (take i a) (take i b) +ℤ «at» a i *ℤ «at» b i)
  ft l = rw (← dot-take-suc a b i) (fits-mag w32 _ (omega (arith, dot-bound (2 ^ 14 - 1) (2 ^ 14 - 1) a b h.small k.small (suc i))))

pub overflow_add-t : goal.overflow_add-t
overflow_add-t c = let a = c.args.e.now in let b = c.args.f.now in let i = c.loop-i.i in let h = c.requires.0 in let k = c.requires.1 in
    simp (to_z-of_z, c.from.ensures, c.from-in-loop-i.ensures, gx a b h k i, gy a b h k i, fx a b h k i, fy a b h k i, fxy a b h k i, c.loop-i.invariant) (ft a b h k i c.loop-i-test.true)

pub loop-i-preserved : goal.loop-i-preserved
loop-i-preserved c = let a = c.args.e.now in let b = c.args.f.now in let i = c.loop-i.i in let h = c.requires.0 in let k = c.requires.1 in
    simp (to_z-of_z, c.from.ensures, c.from-in-loop-i.ensures, gx a b h k i, gy a b h k i, fx a b h k i, fy a b h k i, fxy a b h k i, ft a b h k i c.loop-i-test.true, c.loop-i.invariant, add-one, dot-take-suc)
