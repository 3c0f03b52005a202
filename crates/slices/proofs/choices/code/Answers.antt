-- `code` puts the fields of the choice together; each is small, so that no cast changes it.
use mathlib.Core.Path.{◌≡◌, sym, ap, subst}
use native.Mathlib.Omega.{arith}
use lib.IntN.{pos, ◌+ℤ◌}
use lib.Signed.{yes_non_neg}
use mir.Syntax.{w16}
use mir.Val.{SFits}
use mir.Facts.{to_z-of_z}
use Rattle.integers.specs.Laws.Sizes.{fits-mag}
use Rattle.rounding.specs.Pass as choices
use Rattle.columns.specs.Narrow.{wide, brief}
use Rattle.rounding.specs.Pass.{chosen}
use Rattle.slices.specs.Laws.Codes.{Coded, coded-below, chosen-coded}
use Rattle.slices.specs.Slices.{code_of}
use Rattle.slices.proofs.choices.code.Goals as goal
use Rattle.slices.proofs.choices.code.Goals.{After-chosen-h, Start}

module _ (c : After-chosen-h) where
  abbrev s : Start
  s = c.before

  abbrev h : choices.Choice
  h = c.chosen-h.result

  h-is : h ≡ brief (chosen s.args.q (wide s.args.c) s.args.way)
  h-is = simp (to_z-of_z, s.ranges.q, s.ranges.way) at c.chosen-h.ensures

  coded : Coded h
  coded = subst Coded (sym h-is) (chosen-coded s.args.q (wide s.args.c) s.args.way)

  fp : SFits w16 h.parity
  fp = fits-mag w16 _ (omega (arith, coded.parity.1))

  ft : SFits w16 h.step
  ft = fits-mag w16 _ (omega (arith, coded.step.0))

  ft2 : SFits w16 (h.step +ℤ pos 2)
  ft2 = fits-mag w16 _ (omega (arith, coded.step.2))

pub chosen-h-requires : goal.chosen-h-requires
chosen-h-requires c = simp (to_z-of_z, c.ranges.q, c.ranges.way) (c.requires.0, c.requires.1, c.requires.2)

pub overflow_cast-result : goal.overflow_cast-result
overflow_cast-result c = let k = c.before.before in simp (to_z-of_z, fp k.before) (yes_non_neg (coded k.before).parity.0, record { fits = omega (arith, (coded k.before).parity.1) })

pub overflow_mul-result : goal.overflow_mul-result
overflow_mul-result c = let k = c.before.before.before in record { fits = omega (arith, (coded k.before).place) }

pub overflow_add-result : goal.overflow_add-result
overflow_add-result c = let k = c.before.before.before in simp (to_z-of_z, fp k.before) (record { fits = omega (arith, (coded k.before).place, (coded k.before).parity.1) })

pub overflow_add-result-2 : goal.overflow_add-result-2
overflow_add-result-2 c = let k = c.before.before.before.before.before in simp (to_z-of_z, ft k) (ft2 k)

pub overflow_cast-result-2 : goal.overflow_cast-result-2
overflow_cast-result-2 c = let k = c.before.before.before.before.before in simp (to_z-of_z, ft k, ft2 k) (yes_non_neg (coded k).step.1, record { fits = omega (arith, (coded k).step.2) })

pub overflow_mul-result-2 : goal.overflow_mul-result-2
overflow_mul-result-2 c = let k = c.before.before.before.before.before in simp (to_z-of_z, ft k, ft2 k) (record { fits = omega (arith, (coded k).step.2) })

pub overflow_add-result-3 : goal.overflow_add-result-3
overflow_add-result-3 c = let k = c.before.before.before.before.before in simp (to_z-of_z, fp k, ft k, ft2 k) (record { fits = omega (arith, (coded k).step.2, (coded k).place, (coded k).parity.1) })

pub returns : goal.returns
returns c = let k = c.before.before.before.before.before in simp (to_z-of_z, fp k, ft k, ft2 k) (ap code_of (h-is k), coded-below (coded k))
