-- `middle` sums coefficients of at most 16, so that everything stays under 128.
use mathlib.Core.Path.{refl}
use Prim.Native.Nat.{ℕ, ◌+◌, ◌≤◌}
use native.Mathlib.Omega.{arith}
use lib.IntN.{ℤ, pos, nat_abs, ◌+ℤ◌, ◌-ℤ◌, ◌*ℤ◌}
use mir.Syntax.{w16}
use mir.Val.{SFits}
use mir.Facts.{to_z-of_z}
use Rattle.integers.specs.Laws.Sizes.{fits-mag, abs-add, abs-sub, abs-mul}
use Rattle.integers.specs.Vectors.{«at»}
use Rattle.columns.proofs.middle.Goals as goal
use Rattle.columns.proofs.middle.Goals.{Start}

module _ (s : Start) where
  abbrev x : ℕ → ℤ
  x i = «at» s.args.c.now i

  fx : (i : ℕ) → SFits w16 (x i)
  fx i = fits-mag w16 (x i) (omega (arith, s.requires.1.small i))

  twice : (i : ℕ) → nat_abs (pos 2 *ℤ x i) ≤ 32
  twice i = omega (arith, abs-mul (pos 2) (x i), s.requires.1.small i)

  f2x : (i : ℕ) → SFits w16 (pos 2 *ℤ x i)
  f2x i = fits-mag w16 (pos 2 *ℤ x i) (omega (arith, twice i))

  abbrev k : ℕ
  k = s.args.k

  abbrev less : ℤ
  less = pos 2 *ℤ x k -ℤ pos 2 *ℤ x (k + 1)

  less-small : nat_abs less ≤ 64
  less-small = omega (arith, abs-sub (pos 2 *ℤ x k) (pos 2 *ℤ x (k + 1)), twice k, twice (k + 1))

  fless : SFits w16 less
  fless = fits-mag w16 less (omega (arith, less-small))

  small : nat_abs (less +ℤ x 7) ≤ 128
  small = omega (arith, abs-add less (x 7), less-small, s.requires.1.small 7)

  fsum : SFits w16 (less +ℤ x 7)
  fsum = fits-mag w16 (less +ℤ x 7) (omega (arith, small))

pub overflow_add-result-2 : goal.overflow_add-result-2
overflow_add-result-2 c = let s = (goal.at.overflow_add-result-2 c).Start in simp (to_z-of_z, fx s (k s), fx s (k s + 1), fx s 7, f2x s (k s), f2x s (k s + 1), fless s) (fsum s)

pub returns : goal.returns
returns c = let s = (goal.at.returns c).Start in simp (to_z-of_z, fx s (k s), fx s (k s + 1), fx s 7, f2x s (k s), f2x s (k s + 1), fless s, fsum s) (refl, small s)
