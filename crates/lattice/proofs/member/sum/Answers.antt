-- Each sum fits 64 bits.
use Rattle.std.proofs.Common.{◌≡◌, List, ℕ, suc, ◌+◌, ◌^◌, ◌<◌, take, ℤ, ◌+ℤ◌, SFits, to_z-of_z, add-one, arith, w64}
use Rattle.integers.specs.Vectors.{«at», sum_v, Sized}
use Rattle.integers.specs.Laws.Sizes.{fits-abs}
use Rattle.integers.specs.Laws.Sums.{sum-take-suc, sum_bound}
use Rattle.lattice.proofs.member.sum.Goals as goal

module _ {f : List ℤ} (i : ℕ) (h : Sized 8 (2 ^ 32) f) where
  fits : SFits w64 («at» f i)
  fits = fits-abs _ (omega (arith, h.small i))

  sum-fits : i < 8 → SFits w64 (sum_v (take i f) +ℤ «at» f i)
  sum-fits l = rw (← sum-take-suc f i) (fits-abs _ (omega (arith, sum_bound (2 ^ 32) f h.small (suc i), l)))

  more : sum_v (take i f) +ℤ «at» f i ≡ sum_v (take (i + 1) f)
  more = simp (add-one, sum-take-suc)

pub overflow_add-t : goal.overflow_add-t
overflow_add-t c = let i = c.loop-x.x-index in simp (to_z-of_z, fits i c.requires, c.loop-x.invariant) (sum-fits i c.requires c.loop-x-test.true)

pub loop-x-preserved : goal.loop-x-preserved
loop-x-preserved c = let i = c.loop-x.x-index in simp (to_z-of_z, fits i c.requires, sum-fits i c.requires c.loop-x-test.true, c.loop-x.invariant) (more i c.requires)
