-- `reciprocal` is 2^31 over s: the divisor is positive and fits 32 bits, so that the quotient is the one of naturals.
use native.Mathlib.Omega.{arith}
use lib.IntN.{ℤ, pos}
use lib.Signed.{yes_non_neg}
use mir.Syntax.{w64}
use mir.Val.{SFits}
use mir.Facts.{to_z-of_z}
use Rattle.integers.specs.Laws.Floors.{abs-pos}
use Rattle.integers.specs.Laws.Signed.{<ℤ-weak}
use Rattle.integers.specs.Laws.Sizes.{fits-abs}
use Rattle.rounding.proofs.Laws.Reciprocals.{twice-pos, reciprocal-small}
use Rattle.rounding.specs.Rounding.{reciprocal}
use Rattle.rounding.proofs.coordinate.reciprocal.Goals as goal
use Rattle.rounding.proofs.coordinate.reciprocal.Goals.{Start}

quot : (c : Start) → SFits w64 (pos (reciprocal c.args.s))
quot c = fits-abs _ (omega (arith, reciprocal-small c.args.s c.requires.least))

pub overflow_cast-result : goal.overflow_cast-result
overflow_cast-result c = let s : ℤ = c.args.s in simp (to_z-of_z, c.ranges.s) (yes_non_neg (<ℤ-weak (pos 0) s (twice-pos s c.requires.least).1), record { fits = omega (arith, c.requires.most) })

pub nonzero_div-result : goal.nonzero_div-result
nonzero_div-result c = simp (to_z-of_z, c.ranges.s) (abs-pos c.args.s c.requires.least)

pub overflow_cast-result-2 : goal.overflow_cast-result-2
overflow_cast-result-2 c = simp (to_z-of_z, c.ranges.s) (quot c)

pub returns : goal.returns
returns c = simp (to_z-of_z, c.ranges.s, quot c)
