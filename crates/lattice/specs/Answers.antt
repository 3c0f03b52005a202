-- What is answered where the nearest point is asked for by itself (01, The lattice).
use Rattle.std.specs.Prelude.{◌&&◌, List, [], ◌∷◌, eqb, ℤ, pos, length, Result}
use Rattle.integers.specs.Vectors.{within, small}
use Rattle.refusals.specs.declared.Refusal.{Refusal}
use Rattle.refusals.specs.declared.Refusal.TheVariants.{Size, Point}
use Rattle.refusals.specs.Answers.{valued}
use Rattle.refusals.specs.Limits.{step_most, point_most}
use Rattle.refusals.specs.Verdicts.{unless, first_refusal, Verdict}
use Rattle.lattice.specs.Computed.{nearest_point}

-- what an operation answers whose value is a doubled point
abbrev pub PointAnswer : Type 0
PointAnswer = Result (List ℤ) Refusal

-- the point where the verdict accepts, else the refusal
abbrev pub answered : Verdict → List ℤ → PointAnswer
answered = valued

-- eight numbers; each at most 2^26 in magnitude and s from 1 to 1024
unfoldable pub check_nearest : List ℤ → ℤ → Verdict
check_nearest d s = first_refusal (unless (eqb (length d) 8) (Size 0) ∷ unless (small point_most d && within (pos 1) (pos step_most) s) Point ∷ [])

-- the whole answer
unfoldable pub nearest : List ℤ → ℤ → PointAnswer
nearest d s = answered (check_nearest d s) (nearest_point s d)
