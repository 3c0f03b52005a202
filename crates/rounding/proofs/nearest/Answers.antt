-- `nearest` answers the computed point where nothing is refused, and that point is the nearest by its definition.
use Rattle.std.specs.Prelude.{Ok, Err}
use Rattle.std.proofs.Common.{rules}
use Rattle.refusals.specs.Verdicts.{Verdict}
use mathlib.Core.Path.{◌≡◌, sym, ◌∙◌, ap}
use Prim.Native.Nat.{◌^◌}
use native.Mathlib.Omega.{arith}
use mir.Syntax.{w32, w64}
use mir.Val.{SFits, to_z, of_z}
use mathlib.Core.List.{List}
use lib.IntN.{ℤ}
use mir.Facts.{to_z-of_z, sfits_widen}
use Rattle.integers.specs.Laws.Linear.{Z}
use Rattle.integers.specs.Laws.Sums.{sized-more}
use Rattle.refusals.specs.Laws.Verdicts.{valued-ok, valued-err}
use Rattle.lattice.specs.Computed.{nearest_point}
use Rattle.lattice.specs.Answers.{check_nearest, nearest}
use Rattle.lattice.specs.Laws.Asked.{Asked, accepted-asked, nearest-sized}
use Rattle.lattice.specs.Laws.Theorems.{nearest8}
use Rattle.rounding.proofs.nearest.Goals as goal

-- a verdict as the check answers it, s as the machine holds it
module _ (d : List ℤ) (s : ℤ) (v : Verdict) (f : SFits w32 s) (e : v ≡ check_nearest d (to_z w32 (of_z w32 s))) where
  judged : v ≡ check_nearest d s
  judged = simp (to_z-of_z, f) at e

  asked : v ≡ Ok tt → Asked d s
  asked a = accepted-asked d s (sym judged ∙ a)

pub widen-requires : goal.widen-requires
widen-requires c = (asked c.args.d.now c.args.s _ c.ranges.s c.check_nearest.ensures c.in_ok-check_nearest.was).input.long

pub overflow_cast-s : goal.overflow_cast-s
overflow_cast-s c = simp (to_z-of_z, c.ranges.s) (sfits_widen tt c.ranges.s)

pub nearest_point-e-requires : goal.nearest_point-e-requires
nearest_point-e-requires c =
    let a = asked c.args.d.now c.args.s _ c.ranges.s c.check_nearest.ensures c.in_ok-check_nearest.was in let wide : SFits w64 c.args.s = sfits_widen tt c.ranges.s in
    simp (to_z-of_z, c.ranges.s, wide) (record { least = a.least; most = omega (arith, a.most) }, rw c.widen.ensures (sized-more 8 (2 ^ 26) c.args.d.now a.input (2 ^ 30) (omega arith)))

-- the point found
found : (d e w : List ℤ) (s : ℤ) → SFits w32 s → e ≡ nearest_point (to_z w64 (of_z w64 (to_z w32 (of_z w32 s)))) w → w ≡ d → e ≡ nearest_point s d
found d e w s f h k = let wide : SFits w64 s = sfits_widen tt f in (simp (to_z-of_z, f, wide) at h) ∙ ap (nearest_point s) k

pub narrow-requires : goal.narrow-requires
narrow-requires c = rw (found c.args.d.now _ _ c.args.s c.ranges.s c.nearest_point-e.ensures c.widen.ensures) (nearest-sized c.args.d.now c.args.s (asked c.args.d.now c.args.s _ c.ranges.s c.check_nearest.ensures c.in_ok-check_nearest.was))

pub returns-in_err-check_nearest-clause-answer : goal.returns-in_err-check_nearest-clause-answer
unfolding nearest
returns-in_err-check_nearest-clause-answer c =
    let s = c.args.s in let d = c.args.d.now in let e : c.from_residual.result ≡ Err c.in_err-check_nearest.field-0.0 = search rules in
    e ∙ sym (valued-err (nearest_point s d) (sym (judged d s _ c.ranges.s c.check_nearest.ensures) ∙ c.in_err-check_nearest.was))

pub returns-clause-answer : goal.returns-clause-answer
unfolding nearest
returns-clause-answer c =
    let s = c.args.s in let d = c.args.d.now in
    ap Ok (c.narrow.ensures ∙ found d _ _ s c.ranges.s c.nearest_point-e.ensures c.widen.ensures) ∙ sym (valued-ok (nearest_point s d) (sym (judged d s _ c.ranges.s c.check_nearest.ensures) ∙ c.in_ok-check_nearest.was))

pub returns-clause-closest : goal.returns-clause-closest
returns-clause-closest c =
    let s = c.args.s in let d = c.args.d.now in let a = asked d s _ c.ranges.s c.check_nearest.ensures c.in_ok-check_nearest.was in
    rw (c.narrow.ensures ∙ found d _ _ s c.ranges.s c.nearest_point-e.ensures c.widen.ensures) (nearest8 s (omega (arith, Z, a.least)) d a.input.long)
