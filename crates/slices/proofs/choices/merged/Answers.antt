-- `merged` puts two passes together, field by field; the sums are small.
use Rattle.std.proofs.Common.{ap₂, ℕ, ◌≤◌, ℤ, nat_abs, ◌+ℤ◌, arith}
use mir.Syntax.{w16}
use mir.Val.{SFits}
use mir.Facts.{to_z-of_z}
use Rattle.integers.specs.Laws.Sizes.{abs-add, fits-mag}
use Rattle.columns.specs.Narrow.{wide}
use Rattle.rounding.specs.Pass.{Scan}
use Rattle.slices.specs.Slices.{merge}
use Rattle.slices.proofs.choices.merged.Goals as goal

pub returns : goal.returns
returns c =
    let x : Scan = wide c.args.a in
    let y : Scan = wide c.args.b in
    let m : Scan = merge x y in
    let f : (z : ℤ) → nat_abs z ≤ 8192 → SFits w16 z = λ z h. fits-mag w16 z (omega arith) in
    let fs : SFits w16 (x.sum +ℤ y.sum) = fits-mag w16 _ (omega (arith, abs-add x.sum y.sum, c.requires.0.sum, c.requires.1.sum)) in
    let fe : SFits w16 (x.even +ℤ y.even) = fits-mag w16 _ (omega (arith, abs-add x.even y.even, c.requires.0.even, c.requires.1.even)) in
    let fo : SFits w16 (x.odd +ℤ y.odd) = fits-mag w16 _ (omega (arith, abs-add x.odd y.odd, c.requires.0.odd, c.requires.1.odd)) in
    simp (to_z-of_z, f x.sum (omega (arith, c.requires.0.sum)), f y.sum (omega (arith, c.requires.1.sum)), fs, f x.even (omega (arith, c.requires.0.even)), f y.even (omega (arith, c.requires.1.even)), fe, f x.odd c.requires.0.odd, f y.odd c.requires.1.odd, fo)
    (ap₂ (λ (u v : ℕ). record { most = u; least = v; keys = m.keys; sum = m.sum; even = m.even; odd = m.odd }) c.max.ensures c.min.ensures)
