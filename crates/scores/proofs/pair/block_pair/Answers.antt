-- `block_pair` multiplies both steps with the inner product of both points; all are small.
use mathlib.Core.Path.{◌≡◌, sym, ap₂, subst}
use mathlib.Core.List.{List}
use Prim.Native.Nat.{ℕ, ◌*◌, ◌≤◌}
use native.Mathlib.Omega.{arith}
use lib.IntN.{ℤ, nat_abs, ◌*ℤ◌}
use mir.Syntax.{w64}
use mir.Val.{SFits}
use mir.Facts.{to_z-of_z}
use Rattle.integers.specs.Laws.Sizes.{fits-abs, abs-mul-le}
use Rattle.records.specs.Eight.Codes.{step_of}
use Rattle.refusals.specs.Limits.{step_most}
use Rattle.scores.specs.Laws.Sizes.{inner-narrow, scored-step}
use Rattle.scores.specs.Scores.{inner, Scored}
use Rattle.scores.proofs.pair.block_pair.Goals as goal
use Rattle.scores.proofs.pair.block_pair.Goals.{After-points_inner}

both_small : (steps steps' : List ℤ) (b b' : List ℕ) (e f : List ℤ) → Scored steps b e → Scored steps' b' f → nat_abs (step_of steps b *ℤ step_of steps' b') ≤ step_most * step_most
both_small steps steps' b b' e f h h' = abs-mul-le (step_of steps b) (step_of steps' b') (scored-step steps b e h) (scored-step steps' b' f h')

both-fit : (steps steps' : List ℤ) (b b' : List ℕ) (e f : List ℤ) (x x' : ℤ) → Scored steps b e → Scored steps' b' f → x ≡ step_of steps b → x' ≡ step_of steps' b' → SFits w64 (x *ℤ x')
both-fit steps steps' b b' e f x x' h h' p q = subst (SFits w64) (sym (ap₂ ◌*ℤ◌ p q)) (fits-abs _ (omega (arith, both_small steps steps' b b' e f h h')))

-- the inner product
module _ (c : After-points_inner) where
  abbrev x : ℤ
  x = c.step_of-s.result

  abbrev x' : ℤ
  x' = c.step_of-s2.result

  abbrev y : ℤ
  y = c.points_inner.result

  abbrev steps : ℤ
  steps = step_of c.args.steps.now c.args.b.now *ℤ step_of c.args.steps2.now c.args.b2.now

  abbrev product : ℤ
  product = inner c.args.e.now c.args.f.now

  x_fits : SFits w64 x
  x_fits = record { sfits = c.step_of-s.type_inv }

  x'-fits : SFits w64 x'
  x'-fits = record { sfits = c.step_of-s2.type_inv }

  xx-fits : SFits w64 (x *ℤ x')
  xx-fits = both-fit c.args.steps.now c.args.steps2.now c.args.b.now c.args.b2.now c.args.e.now c.args.f.now x x' c.requires.0 c.requires.1 c.step_of-s.ensures c.step_of-s2.ensures

  y-fits : SFits w64 y
  y-fits = record { sfits = c.points_inner.type_inv }

  value-is : x *ℤ x' *ℤ y ≡ steps *ℤ product
  value-is = ap₂ ◌*ℤ◌ (ap₂ ◌*ℤ◌ c.step_of-s.ensures c.step_of-s2.ensures) c.points_inner.ensures

  value-fits : SFits w64 (steps *ℤ product)
  value-fits = fits-abs _ (omega (arith, abs-mul-le steps product (both_small c.args.steps.now c.args.steps2.now c.args.b.now c.args.b2.now c.args.e.now c.args.f.now c.requires.0 c.requires.1) (inner-narrow c.args.e.now c.args.f.now c.requires.0.narrow c.requires.1.narrow)))

  fits : SFits w64 (x *ℤ x' *ℤ y)
  fits = subst (SFits w64) (sym value-is) value-fits

pub overflow_mul-result : goal.overflow_mul-result
overflow_mul-result c =
    let x-fits : SFits w64 c.step_of-s.result = record { sfits = c.step_of-s.type_inv } in
    let x'-fits : SFits w64 c.step_of-s2.result = record { sfits = c.step_of-s2.type_inv } in
    simp (to_z-of_z, x-fits, x'-fits) (both-fit c.args.steps.now c.args.steps2.now c.args.b.now c.args.b2.now c.args.e.now c.args.f.now _ _ c.requires.0 c.requires.1 c.step_of-s.ensures c.step_of-s2.ensures)

pub overflow_mul-result-2 : goal.overflow_mul-result-2
overflow_mul-result-2 c = let i = (goal.at.overflow_mul-result-2 c).After-points_inner in simp (to_z-of_z, x_fits i, x'-fits i, xx-fits i, y-fits i) (fits i)

pub returns : goal.returns
returns c = let i = (goal.at.returns c).After-points_inner in simp (to_z-of_z, x_fits i, x'-fits i, xx-fits i, y-fits i, fits i) (value-is i)
