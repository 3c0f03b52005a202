-- `points_inner` shifts the sum right by two places, which divides by 4 and rounds down.
use mathlib.Core.Path.{◌∙◌, ap}
use native.Mathlib.Omega.{arith}
use lib.IntN.{ℤ}
use lib.Signed.{shr_z, mag_shr}
use mir.Syntax.{w32, w64}
use mir.Val.{SFits}
use mir.Facts.{to_z-of_z}
use Rattle.integers.specs.Floor.{floor_div}
use Rattle.integers.specs.Laws.Floors.{floor_div-shr}
use Rattle.scores.specs.Scores.{inner}
use Rattle.scores.proofs.inner.points_inner.Goals as goal
use Rattle.scores.proofs.inner.points_inner.Goals.{After-points_dot}

module _ (c : After-points_dot) where
  abbrev z : ℤ
  z = c.points_dot.result

  fz : SFits w32 z
  fz = record { sfits = c.points_dot.type_inv }

  fq : SFits w32 (shr_z z 4)
  fq = record { sfits = omega (arith, mag_shr z 4, fz.sfits) }

  gq : SFits w64 (shr_z z 4)
  gq = record { sfits = omega (arith, mag_shr z 4, fz.sfits) }

pub returns : goal.returns
unfolding inner
returns c = let i = (goal.at.returns c).After-points_dot in simp (to_z-of_z, c.from.ensures, fz i, fq i, gq i) (floor_div-shr (z i) 4 ∙ ap (λ (z : ℤ). floor_div z 4) c.points_dot.ensures)
