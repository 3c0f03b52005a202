-- `lane_of` lists the fields; each is small, so that no cast changes it.
use mathlib.Core.Path.{refl}
use native.Mathlib.Omega.{arith}
use lib.IntN.{pos}
use mir.Syntax.{w16}
use mir.Val.{SFits}
use mir.Facts.{to_z-of_z}
use Rattle.integers.specs.Laws.Sizes.{fits-mag}
use Rattle.columns.specs.Narrow.{wide}
use Rattle.rounding.specs.Pass.{Scan}
use Rattle.slices.proofs.choices.lane_of.Goals as goal
use Rattle.slices.proofs.choices.lane_of.Goals.{Start}

module _ (s : Start) where
  abbrev x : Scan
  x = wide s.args.c

  fm : SFits w16 (pos x.most)
  fm = fits-mag w16 _ (omega (arith, s.requires.most))

  fl : SFits w16 (pos x.least)
  fl = fits-mag w16 _ (omega (arith, s.requires.least))

  fk : SFits w16 (pos x.keys)
  fk = fits-mag w16 _ (omega (arith, s.requires.keys))

  fs : SFits w16 x.sum
  fs = fits-mag w16 _ (omega (arith, s.requires.sum))

  fe : SFits w16 x.even
  fe = fits-mag w16 _ (omega (arith, s.requires.even))

  fo : SFits w16 x.odd
  fo = fits-mag w16 _ (omega (arith, s.requires.odd))

pub overflow_cast-result : goal.overflow_cast-result
overflow_cast-result c = fm c.before

pub overflow_cast-result-2 : goal.overflow_cast-result-2
overflow_cast-result-2 c = fl c.before.before

pub overflow_cast-result-3 : goal.overflow_cast-result-3
overflow_cast-result-3 c = fk c.before.before.before

pub returns : goal.returns
returns c = let b = c.before.before.before.before in simp (to_z-of_z, fm b, fl b, fk b, fs b, fe b, fo b, b.ranges.way) refl
