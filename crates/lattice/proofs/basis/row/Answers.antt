-- Each entry, product and sum fits 64 bits.
use Rattle.std.proofs.Common.{◌≡◌, List, ℕ, suc, ◌+◌, ◌^◌, ◌<◌, take, ℤ, ◌+ℤ◌, ◌*ℤ◌, SFits, to_z-of_z, add-one, arith, w64}
use Rattle.integers.specs.Vectors.{«at», dot, Sized}
use Rattle.integers.specs.Laws.Sizes.{fits-abs, fits-mul}
use Rattle.integers.specs.Laws.Sums.{dot-take-suc, dot-bound}
use Rattle.lattice.proofs.basis.row.Goals as goal

module _ {a b : List ℤ} (j : ℕ) (h : Sized 8 (2 ^ 4) a) (k : Sized 8 (2 ^ 32) b) where
  fits_a : SFits w64 («at» a j)
  fits_a = fits-abs («at» a j) (omega (arith, h.small j))

  fits_b : SFits w64 («at» b j)
  fits_b = fits-abs («at» b j) (omega (arith, k.small j))

  fits-ab : SFits w64 («at» a j *ℤ «at» b j)
  fits-ab = fits-mul («at» a j) («at» b j) (2 ^ 4) (2 ^ 32) (h.small j) (k.small j) (omega arith)

  sum-fits : j < 8 → SFits w64 (dot (take j a) (take j b) +ℤ «at» a j *ℤ «at» b j)
  sum-fits l = rw (← dot-take-suc a b j) (fits-abs _ (omega (arith, dot-bound (2 ^ 4) (2 ^ 32) a b h.small k.small (suc j), l)))

  more : dot (take j a) (take j b) +ℤ «at» a j *ℤ «at» b j ≡ dot (take (j + 1) a) (take (j + 1) b)
  more = simp (add-one, dot-take-suc)

pub overflow_add-s : goal.overflow_add-s
overflow_add-s c =
    let j = c.loop-j.j in let h = c.requires.1.rows c.args.i c.requires.0 in let k = c.requires.2 in
    simp (to_z-of_z, fits_a j h k, fits_b j h k, fits-ab j h k, c.loop-j.invariant) (sum-fits j h k c.loop-j-test.true)

pub loop-j-preserved : goal.loop-j-preserved
loop-j-preserved c =
    let j = c.loop-j.j in let h = c.requires.1.rows c.args.i c.requires.0 in let k = c.requires.2 in
    simp (to_z-of_z, fits_a j h k, fits_b j h k, fits-ab j h k, sum-fits j h k c.loop-j-test.true, c.loop-j.invariant) (more j h k)
