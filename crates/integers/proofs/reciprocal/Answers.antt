-- `reciprocal` is one division.
use native.Mathlib.Omega.{arith}
use lib.IntN.{pos}
use lib.Signed.{quot_z}
use mir.Syntax.{w64}
use mir.Val.{SFits}
use mir.Facts.{to_z-of_z}
use Rattle.integers.specs.Laws.Reciprocals.{reciprocal-quot}
use Rattle.integers.specs.Laws.Sizes.{bits_pos, fits-quot}
use Rattle.integers.proofs.reciprocal.Goals as goal
use Rattle.integers.proofs.reciprocal.Goals.{Start}

quot : (c : Start) → SFits w64 (quot_z (pos 4294967296) c.args.m)
quot c = fits-quot (pos 4294967296) c.args.m (omega arith)

pub nonzero_div-result : goal.nonzero_div-result
nonzero_div-result c = simp (to_z-of_z, c.ranges.m) (bits_pos c.args.m c.requires, quot c)

pub returns : goal.returns
returns c = simp (to_z-of_z, c.ranges.m, quot c) (reciprocal-quot c.args.m c.requires)
