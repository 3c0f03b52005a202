-- `mend` multiplies numbers that are small, factor by factor.
use Rattle.std.proofs.Common.{◌≡◌, refl, ◌∙◌, ◌*◌, ◌/◌, ◌%◌, ◌<◌, ◌≤◌, ℕ, List, ℤ, pos, nat_abs, ◌-ℤ◌, ◌*ℤ◌, ◌^◌, arith}
use mir.Syntax.{w32}
use mir.Val.{SFits}
use mir.Facts.{to_z-of_z}
use Rattle.integers.specs.Vectors.{«at», Bounded}
use Rattle.integers.specs.Laws.Sizes.{fits-mag}
use Rattle.slices.specs.Sums.{mend_at}
use Rattle.slices.specs.Laws.Sums.{step_small, steps-small, mend-small}
use Rattle.slices.proofs.sums.mend.Goals as goal

-- the factors of the choice k
module _ (X : List ℤ) (x : Bounded (2 ^ 24) X) (s : ℤ) (h : nat_abs s ≤ 4) (k : ℕ) (k< : k < 48) where
  fs : SFits w32 s
  fs = fits-mag w32 s (omega arith)

  fd : SFits w32 (pos (k / 16))
  fd = fits-mag w32 (pos (k / 16)) (omega arith)

  ft : SFits w32 (pos (2 * (k / 16)))
  ft = fits-mag w32 (pos (2 * (k / 16))) (omega arith)

  fp : SFits w32 (pos 2 -ℤ pos (2 * (k / 16)))
  fp = fits-mag w32 _ (omega (arith, step_small s h k k<))

  fsp : SFits w32 (s *ℤ (pos 2 -ℤ pos (2 * (k / 16))))
  fsp = fits-mag w32 _ (omega (arith, steps-small s h k k<))

  fx : SFits w32 («at» X (k / 2 % 8))
  fx = fits-mag w32 («at» X (k / 2 % 8)) (omega (arith, x (k / 2 % 8)))

  fm : SFits w32 (mend_at s X k)
  fm = fits-mag w32 (mend_at s X k) (omega (arith, mend-small s h k k< X x))

pub overflow_mul-result-3 : goal.overflow_mul-result-3
overflow_mul-result-3 c =
    let X = c.args.x.now in let x = c.requires.0.small in let s = c.args.s in let h = c.requires.1 in let k = c.args.c in let k< = c.requires.2 in
    let e : c.from.result ≡ s = c.from.ensures ∙ to_z-of_z c.ranges.s in
    rw e (simp (to_z-of_z, fs X x s h k k<, fd X x s h k k<, ft X x s h k k<, fp X x s h k k<, fsp X x s h k k<, fx X x s h k k<) (fm X x s h k k<))

pub returns : goal.returns
returns c =
    let X = c.args.x.now in let x = c.requires.0.small in let s = c.args.s in let h = c.requires.1 in let k = c.args.c in let k< = c.requires.2 in
    let e : c.from.result ≡ s = c.from.ensures ∙ to_z-of_z c.ranges.s in
    rw e (simp (to_z-of_z, fs X x s h k k<, fd X x s h k k<, ft X x s h k k<, fp X x s h k k<, fsp X x s h k k<, fx X x s h k k<, fm X x s h k k<) refl)
