-- `block_query` multiplies the block's step with the inner product of the readings and its point; both are small.
use mathlib.Core.Path.{◌≡◌, sym, ap₂, subst}
use lib.IntN.{◌*ℤ◌}
use mir.Syntax.{w64}
use mir.Val.{SFits}
use mir.Facts.{to_z-of_z}
use Rattle.integers.specs.Vectors.{dot}
use Rattle.records.specs.Eight.Codes.{step_of}
use Rattle.scores.specs.Laws.Sizes.{scored-fits}
use Rattle.scores.proofs.query.block_query.Goals as goal
use Rattle.scores.proofs.query.block_query.Goals.{After-point_dot}

module _ (c : After-point_dot) where
  step_fits : SFits w64 c.step_of.result
  step_fits = record { sfits = c.step_of.type_inv }

  dot-fits : SFits w64 c.point_dot.result
  dot-fits = record { sfits = c.point_dot.type_inv }

  value-is : c.step_of.result *ℤ c.point_dot.result ≡ step_of c.args.steps.now c.args.b.now *ℤ dot c.args.x.now c.args.e.now
  value-is = ap₂ ◌*ℤ◌ c.step_of.ensures c.point_dot.ensures

  fits : SFits w64 (c.step_of.result *ℤ c.point_dot.result)
  fits = subst (SFits w64) (sym value-is) (scored-fits c.args.steps.now c.args.b.now c.args.x.now c.args.e.now c.requires.0 c.requires.1)

pub overflow_mul-result : goal.overflow_mul-result
overflow_mul-result c = let i = (goal.at.overflow_mul-result c).After-point_dot in simp (to_z-of_z, step_fits i, dot-fits i) (fits i)

pub returns : goal.returns
returns c = let i = (goal.at.returns c).After-point_dot in simp (to_z-of_z, step_fits i, dot-fits i, fits i) (value-is i)
