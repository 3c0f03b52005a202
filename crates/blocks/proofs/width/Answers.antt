-- Each product and sum fits 64 bits.
use Rattle.std.proofs.Common.{◌≡◌, sym, ap, ℕ, suc, ◌^◌, ◌<◌, ◌≤◌, ℤ, pos, nat_abs, ◌+ℤ◌, ◌*ℤ◌, add-one, arith, SFits, w64, to_z-of_z}
use Rattle.integers.specs.Laws.Sizes.{fits-abs, fits-mul}
use Rattle.layers.proofs.Laws.Bases.{base-is, base-two}
use Rattle.layers.specs.Sizes.{width, long_power, Base}
use Rattle.blocks.specs.Laws.Sizes.{width-under}
use Rattle.blocks.proofs.width.Goals as goal

module _ (q : ℤ) (base : Base q) (m : ℕ) (h : nat_abs q ^ m ≤ long_power) (i : ℕ) (l : i < m) where
  next : q +ℤ q *ℤ pos (width (nat_abs q) i) ≡ pos (width (nat_abs q) (suc i))
  next = ap (λ (y : ℤ). y +ℤ y *ℤ pos (width (nat_abs q) i)) (sym (base-is q base))

  product-fits : SFits w64 (q *ℤ pos (width (nat_abs q) i))
  product-fits = fits-mul q (pos (width (nat_abs q) i)) 256 (2 ^ 17) base.most (omega (arith, width-under (nat_abs q) i m (base-two q base) (omega arith) h)) (omega arith)

  next_fits : SFits w64 (q +ℤ q *ℤ pos (width (nat_abs q) i))
  next_fits = rw next (fits-abs (pos (width (nat_abs q) (suc i))) (omega (arith, width-under (nat_abs q) (suc i) m (base-two q base) (omega arith) h)))

pub overflow_mul-w : goal.overflow_mul-w
overflow_mul-w c = simp (to_z-of_z, c.ranges.q, c.loop.invariant) (product-fits c.args.q c.requires.0 c.args.m c.requires.1 c.loop.counter c.loop-test.true)

pub overflow_add-w : goal.overflow_add-w
overflow_add-w c =
    let p = product-fits c.args.q c.requires.0 c.args.m c.requires.1 c.loop.counter c.loop-test.true in
    simp (to_z-of_z, c.ranges.q, p, c.loop.invariant) (next_fits c.args.q c.requires.0 c.args.m c.requires.1 c.loop.counter c.loop-test.true)

pub loop-preserved : goal.loop-preserved
loop-preserved c =
    let q = c.args.q in let m = c.args.m in let i = c.loop.counter in let l = c.loop-test.true in
    let p = product-fits q c.requires.0 m c.requires.1 i l in let n = next_fits q c.requires.0 m c.requires.1 i l in
    simp (to_z-of_z, c.ranges.q, p, n, c.loop.invariant, add-one) (next q c.requires.0 m c.requires.1 i l)
