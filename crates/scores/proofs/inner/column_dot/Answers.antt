-- `column_dot` adds the products with the column's entries up: after j turns t is the inner product of the first j entries of each.
use mathlib.Core.Path.{◌≡◌, sym, ◌∙◌, ap, subst}
use mathlib.Core.List.{List, []}
use Prim.Native.Nat.{ℕ, suc, ◌-◌, ◌^◌, ◌<◌, ◌≤◌}
use native.Mathlib.Numerals.{add-one}
use native.Mathlib.Omega.{arith}
use lib.IntN.{ℤ, pos, nat_abs, ◌+ℤ◌, ◌*ℤ◌}
use lib.ListN.{get_or, take, length-map}
use mir.Syntax.{w16, w32, w64}
use mir.Val.{SFits}
use mir.Facts.{to_z-of_z}
use Rattle.integers.specs.Laws.Loops.{map_at}
use Rattle.integers.specs.Laws.Sizes.{fits-mag, fits-abs, fits-mul}
use Rattle.integers.specs.Laws.Sums.{dot-take-suc, dot-bound}
use Rattle.integers.specs.Vectors.{«at», dot, Sized}
use Rattle.columns.specs.Columns.{column}
use Rattle.scores.proofs.inner.column_dot.Goals as goal

-- the reading j and the entry b of row j, their product and the sum with it are small
module _ (X : List ℤ) (rows : List (List ℤ)) (b : ℕ) (h : Sized 8 (2 ^ 24) X) (k : Sized 8 (2 ^ 14 - 1) (column (pos 0) b rows)) (j : ℕ) (l : j < 8) where
  abbrev e : List ℤ
  e = column (pos 0) b rows

  abbrev y : ℤ
  y = get_or (get_or rows j []) b (pos 0)

  y-is : «at» e j ≡ y
  y-is = let row : List ℤ → ℤ = λ r. get_or r b (pos 0) in map_at row rows j [] (pos 0) (omega (arith, length-map rows row, k.long))

  y-small : nat_abs y ≤ 2 ^ 14 - 1
  y-small = subst (λ (y : ℤ). nat_abs y ≤ 2 ^ 14 - 1) y-is (k.small j)

  gx : SFits w32 («at» X j)
  gx = fits-mag w32 («at» X j) (omega (arith, h.small j))

  gy : SFits w16 y
  gy = fits-mag w16 y (omega (arith, y-small))

  fx : SFits w64 («at» X j)
  fx = fits-abs («at» X j) (omega (arith, h.small j))

  fy : SFits w64 y
  fy = fits-abs y (omega (arith, y-small))

  fxy : SFits w64 («at» X j *ℤ y)
  fxy = fits-mul («at» X j) y (2 ^ 24) (2 ^ 14 - 1) (h.small j) y-small (omega arith)

  next : dot (take (suc j) X) (take (suc j) e) ≡ dot (take j X) (take j e) +ℤ «at» X j *ℤ y
  next = dot-take-suc X e j ∙ ap (λ (y : ℤ). dot (take j X) (take j e) +ℤ «at» X j *ℤ y) y-is

  ft : SFits w64 (dot (take j X) (take j e) +ℤ «at» X j *ℤ y)
  ft = subst (SFits w64) next (fits-abs _ (omega (arith, dot-bound (2 ^ 24) (2 ^ 14 - 1) X e h.small k.small (suc j))))

pub overflow_add-t : goal.overflow_add-t
overflow_add-t c = let X = c.args.x.now in let r = c.args.e.now in let b = c.args.b in let j = c.loop-j.j in let h = c.requires.0 in let k = c.requires.1 in let l = c.loop-j-test.true in
    simp (to_z-of_z, c.from.ensures, c.from-in-loop-j.ensures, gx X r b h k j l, gy X r b h k j l, fx X r b h k j l, fy X r b h k j l, fxy X r b h k j l, c.loop-j.invariant) (ft X r b h k j l)

pub loop-j-preserved : goal.loop-j-preserved
loop-j-preserved c = let X = c.args.x.now in let r = c.args.e.now in let b = c.args.b in let j = c.loop-j.j in let h = c.requires.0 in let k = c.requires.1 in let l = c.loop-j-test.true in
    simp (to_z-of_z, c.from.ensures, c.from-in-loop-j.ensures, gx X r b h k j l, gy X r b h k j l, fx X r b h k j l, fy X r b h k j l, fxy X r b h k j l, ft X r b h k j l, c.loop-j.invariant, add-one) (sym (next X r b h k j l))
