-- `whole_coordinate` goes from the top layer down: it holds what the layers from i on give, which is never large.
use mathlib.Core.Path.{◌≡◌, ◌∙◌, ap}
use mathlib.Core.List.{List}
use Prim.Native.Nat.{ℕ, suc, ◌+◌, ◌-◌, ◌^◌, ◌<◌, ◌≤◌}
use native.Mathlib.Omega.{arith}
use lib.IntN.{ℤ, nat_abs, ◌+ℤ◌, ◌*ℤ◌}
use mir.Syntax.{w16}
use mir.Val.{SFits, to_z}
use mir.Facts.{to_z-of_z}
use Rattle.integers.specs.Laws.Sizes.{fits-mag, abs-add}
use Rattle.integers.specs.Vectors.{«at»}
use Rattle.points.specs.Lanes.{whole_coordinate}
use Rattle.points.proofs.whole_coordinate.Goals as goal
use Rattle.points.proofs.whole_coordinate.Goals.{In-loop-i}

-- layer j = i - 1, and the layers above it
module _ (c : In-loop-i) where
  abbrev l : List ℤ
  l = c.args.l.now

  abbrev q : ℤ
  q = c.args.q

  abbrev m : ℕ
  m = c.args.m

  abbrev t : ℕ
  t = c.args.t

  abbrev j : ℕ
  j = c.loop-i.i - 1

  within : j < m
  within = omega arith

  abbrev x : ℤ
  x = «at» l (t + j)

  abbrev z : ℤ
  z = to_z w16 c.loop-i.z-bits

  above-is : z ≡ whole_coordinate q (m - suc j) (t + suc j) l
  above-is = let next : c.loop-i.i ≡ suc j = omega arith in
      (simp (to_z-of_z, c.ranges.q) at c.loop-i.invariant) ∙ ap (λ (k : ℕ). whole_coordinate q (m - k) (t + k) l) next

  size : nat_abs (q *ℤ z) ≤ 2 ^ 14
  size = rw above-is (c.requires.second j within)

  fx : SFits w16 x
  fx = fits-mag w16 x (omega (arith, c.requires.first j within))

  fqz : SFits w16 (q *ℤ z)
  fqz = fits-mag w16 (q *ℤ z) (omega (arith, size))

  fsum : SFits w16 (x +ℤ q *ℤ z)
  fsum = fits-mag w16 (x +ℤ q *ℤ z) (omega (arith, abs-add x (q *ℤ z), size, c.requires.first j within))

  next-is : x +ℤ q *ℤ z ≡ whole_coordinate q (m - j) (t + j) l
  next-is = let a : t + suc j ≡ suc (t + j) = omega arith in let e : suc (m - suc j) ≡ m - j = omega arith in
      ap (λ (y : ℤ). x +ℤ q *ℤ y) (above-is ∙ ap (λ (k : ℕ). whole_coordinate q (m - suc j) k l) a) ∙ ap (λ (k : ℕ). whole_coordinate q k (t + j) l) e

pub overflow_mul-z : goal.overflow_mul-z
overflow_mul-z c = simp (to_z-of_z, c.ranges.q) (fqz (goal.at.overflow_mul-z c).In-loop-i)

pub overflow_add-z-in-loop-i : goal.overflow_add-z-in-loop-i
overflow_add-z-in-loop-i c = let p = (goal.at.overflow_add-z-in-loop-i c).In-loop-i in simp (to_z-of_z, c.ranges.q, fx p, fqz p) (fsum p)

pub loop-i-preserved : goal.loop-i-preserved
loop-i-preserved c = let p = (goal.at.loop-i-preserved c).In-loop-i in simp (to_z-of_z, c.ranges.q, fx p, fqz p, fsum p) (next-is p)
