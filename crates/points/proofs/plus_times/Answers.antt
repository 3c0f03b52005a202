-- Each product and sum fits 16 bits.
use Rattle.std.proofs.Common.{◌≡◌, rules, arith, List, ℕ, ℤ, pos, nat_abs, ◌+ℤ◌, ◌*ℤ◌, ◌^◌, ◌≤◌, SFits, w16}
use Rattle.std.proofs.iter.Serving.{serving}
use Rattle.integers.specs.Laws.Arrays.{from_fn-list}
use Rattle.integers.specs.Laws.Sizes.{fits-mag, abs-add}
use Rattle.integers.specs.Laws.Sums.{entries, lengths}
use Rattle.integers.specs.Vectors.{«at», add_v, scale_v}
use Rattle.points.specs.Lanes.{Summable}
use Rattle.points.proofs.plus_times.Goals as goal

module _ (q : ℤ) (l e : List ℤ) (s : Summable q l e) (j : ℕ) where
  size : nat_abs (q *ℤ «at» e j) ≤ 2 ^ 14
  size = simp entries at (s.second.small j)

  entry_fits : SFits w16 («at» l j)
  entry_fits = fits-mag w16 («at» l j) (omega (arith, s.first.small j))

  product_fits : SFits w16 (q *ℤ «at» e j)
  product_fits = fits-mag w16 (q *ℤ «at» e j) (omega (arith, size))

  sum_fits : SFits w16 («at» l j +ℤ q *ℤ «at» e j)
  sum_fits = fits-mag w16 («at» l j +ℤ q *ℤ «at» e j) (omega (arith, abs-add («at» l j) (q *ℤ «at» e j), size, s.first.small j))

  entry : «at» (add_v l (scale_v q e)) j ≡ «at» l j +ℤ q *ℤ «at» e j
  entry = simp entries

pub from_fn-requires : goal.from_fn-requires
from_fn-requires c = let q = c.args.q in let l = c.args.l.now in let e = c.args.e.now in
    let f = entry_fits q l e c.requires in let p = product_fits q l e c.requires in let s = sum_fits q l e c.requires in
    grind (serving, f, p, s)

pub returns : goal.returns
returns c = let q = c.args.q in let l = c.args.l.now in let e = c.args.e.now in
    from_fn-list _ (add_v l (scale_v q e)) (pos 0) (simp lengths (omega (arith, c.requires.first.long, simp lengths at c.requires.second.long))) c.from_fn.ensures.items
    (λ j y g b k.
    let f = entry_fits q l e c.requires j in let p = product_fits q l e c.requires j in let s = sum_fits q l e c.requires j in let z = entry q l e c.requires j in
    search (rules, z))
