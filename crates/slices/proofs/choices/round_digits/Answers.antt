-- `round_digits` makes the digits' point, which is narrow, and rounds it.
use mathlib.Core.Path.{◌≡◌, sym, ◌∙◌, ap, subst}
use mathlib.Core.List.{List, map}
use Prim.Native.Nat.{ℕ}
use lib.IntN.{ℤ, pos, nat_abs, ◌*ℤ◌}
use mir.Facts.{to_z-of_z}
use Rattle.integers.specs.Vectors.{Sized}
use Rattle.lattice.specs.Basis.{point_of}
use Rattle.columns.specs.Laws.Columns.{digit_point-narrow}
use Rattle.columns.specs.Narrow.{Narrow}
use Rattle.layers.specs.Digits.{IsLayer}
use Rattle.layers.proofs.Laws.Bases.{digits-sized}
use Rattle.layers.specs.Laws.Rows.{below_more}
use Rattle.rounding.specs.Rounding.{round, left}
use Rattle.slices.proofs.choices.round_digits.Goals as goal
use Rattle.slices.proofs.choices.round_digits.Goals.{After-point_of-p, Start}

module _ (s : Start) where
  abbrev q : ℤ
  q = s.args.q

  abbrev ds : List ℕ
  ds = s.args.ds.now

  is-layer : IsLayer 8 (nat_abs q) ds
  is-layer = s.requires.2

  low-digits : IsLayer 8 16 ds
  low-digits = record { long = is-layer.long; below = below_more (nat_abs q) 16 s.requires.1 ds is-layer.below }

  digits-small : Sized 8 16 (map pos ds)
  digits-small = digits-sized 8 16 ds low-digits

module _ (c : After-point_of-p) where
  abbrev start : Start
  start = c.before.before.before

  point-is : c.point_of-p.result ≡ point_of (map pos (ds start))
  point-is = c.point_of-p.ensures ∙ ap point_of c.before.before.widened-w.ensures

pub widened-w-requires : goal.widened-w-requires
widened-w-requires c = low-digits c

pub point_of-p-requires : goal.point_of-p-requires
point_of-p-requires c = subst (Sized 8 16) (sym c.before.widened-w.ensures) (digits-small c.before.before)

pub rounds-requires : goal.rounds-requires
rounds-requires c = let p = c.before.before.before in let s = start p in
    simp (to_z-of_z, s.ranges.q) (subst (Narrow (q s)) (sym (point-is p)) (digit_point-narrow (q s) s.requires.0 s.requires.1 (ds s) (is-layer s)), s.requires.3, s.requires.4)

pub returns : goal.returns
returns c = let p = c.before.before.before.before in let s = start p in let e = simp (to_z-of_z, s.ranges.q) at c.rounds.ensures in
    (e.0 ∙ ap (map (round (pos 2 *ℤ q s))) (point-is p), e.1 ∙ ap (map (left (pos 2 *ℤ q s))) (point-is p))
