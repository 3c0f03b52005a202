-- `point_of` is the basis by the coefficients, coordinate by coordinate; none is over 160.
use mathlib.Core.Path.{refl, ◌∙◌, ap, ap₂}
use mathlib.Core.List.{◌∷◌}
use Prim.Native.Nat.{ℕ, ◌≤◌}
use native.Mathlib.Omega.{arith}
use borrow.Author.Rules.{rules}
use lib.IntN.{ℤ, pos, nat_abs, ◌+ℤ◌, ◌*ℤ◌}
use mir.Syntax.{w16}
use mir.Val.{SFits}
use mir.Facts.{to_z-of_z}
use Rattle.integers.specs.Laws.Sizes.{fits-mag, abs-add, abs-mul}
use Rattle.integers.specs.Vectors.{«at»}
use Rattle.columns.specs.Laws.Columns.{point_of-coordinates}
use Rattle.columns.proofs.point_of.Goals as goal
use Rattle.columns.proofs.point_of.Goals.{Start}

module _ (s : Start) where
  abbrev x : ℕ → ℤ
  x i = «at» s.args.c.now i

  fx : (i : ℕ) → SFits w16 (x i)
  fx i = fits-mag w16 (x i) (omega (arith, s.requires.small i))

  twice : (i : ℕ) → nat_abs (pos 2 *ℤ x i) ≤ 32
  twice i = omega (arith, abs-mul (pos 2) (x i), s.requires.small i)

  f2x : (i : ℕ) → SFits w16 (pos 2 *ℤ x i)
  f2x i = fits-mag w16 (pos 2 *ℤ x i) (omega (arith, twice i))

  fseventh : SFits w16 (pos 2 *ℤ x 6 +ℤ x 7)
  fseventh = fits-mag w16 (pos 2 *ℤ x 6 +ℤ x 7) (omega (arith, abs-add (pos 2 *ℤ x 6) (x 7), twice 6, s.requires.small 7))

  -- the first coordinate, of the middle one m
  module _ (m : ℤ) (h : nat_abs m ≤ 128) where
    ffirst : SFits w16 (pos 2 *ℤ x 0 +ℤ m)
    ffirst = fits-mag w16 (pos 2 *ℤ x 0 +ℤ m) (omega (arith, abs-add (pos 2 *ℤ x 0) m, twice 0, h))

pub overflow_mul-result-2 : goal.overflow_mul-result-2
overflow_mul-result-2 c = let s = (goal.at.overflow_mul-result-2 c).Start in simp (to_z-of_z, fx s 6) (f2x s 6)

pub overflow_add-result-2 : goal.overflow_add-result-2
overflow_add-result-2 c = let s = (goal.at.overflow_add-result-2 c).Start in simp (to_z-of_z, fx s 6, f2x s 6, fx s 7) (fseventh s)

pub returns : goal.returns
returns c = let s = (goal.at.returns c).Start in
    let f : SFits w16 c.middle.result = search rules in let f2 : SFits w16 c.middle-2.result = search rules in let f3 : SFits w16 c.middle-3.result = search rules in
    let f4 : SFits w16 c.middle-4.result = search rules in let f5 : SFits w16 c.middle-5.result = search rules in let f6 : SFits w16 c.middle-6.result = search rules in
    simp (to_z-of_z, fx s 0, f2x s 0, f, ffirst s c.middle.result c.middle.ensures.1, f2, f3, f4, f5, f6, fx s 6, f2x s 6, fx s 7, fseventh s)
    (ap₂ ◌∷◌ (ap (λ (t : ℤ). pos 2 *ℤ x s 0 +ℤ t) c.middle.ensures.0)
    (ap₂ ◌∷◌ c.middle-2.ensures.0 (ap₂ ◌∷◌ c.middle-3.ensures.0 (ap₂ ◌∷◌ c.middle-4.ensures.0 (ap₂ ◌∷◌ c.middle-5.ensures.0 (ap₂ ◌∷◌ c.middle-6.ensures.0 refl)))))
    ∙ point_of-coordinates c.args.c.now c.requires.long)
