-- The layer point of a column: its digits' point is narrow, and what its nearest point leaves is the layer point.
use Rattle.std.proofs.Common.{◌≡◌, sym, ◌∙◌, ap, subst, List, map, ℕ, ℤ, pos, nat_abs, to_z-of_z}
use Rattle.integers.specs.Vectors.{sub_v, scale_v, Sized}
use Rattle.lattice.specs.Basis.{point_of}
use Rattle.lattice.specs.Computed.{nearest_point}
use Rattle.columns.specs.Narrow.{Narrow}
use Rattle.columns.specs.Columns.{column}
use Rattle.layers.specs.Digits.{IsLayer}
use Rattle.layers.proofs.Laws.Bases.{digits-sized}
use Rattle.layers.specs.Laws.Rows.{below_more}
use Rattle.columns.specs.Laws.Columns.{digit_point-narrow, layer_point8-rest}
use Rattle.columns.proofs.layer_column.Goals as goal
use Rattle.columns.proofs.layer_column.Goals.{Start}

module _ (s : Start) where
  abbrev q : ℤ
  q = s.args.q

  abbrev ds : List ℕ
  ds = column 0 s.args.t s.args.c.now

  is-layer : IsLayer 8 (nat_abs q) ds
  is-layer = s.requires.3.each s.args.t s.requires.0

  low-digits : IsLayer 8 16 ds
  low-digits = record { long = is-layer.long; below = below_more (nat_abs q) 16 s.requires.2 ds is-layer.below }

pub widened-w-requires : goal.widened-w-requires
widened-w-requires c = subst (IsLayer 8 16) (sym (c.column-ds.ensures 0)) (low-digits (goal.at.widened-w-requires c).Start)

pub point_of-p-requires : goal.point_of-p-requires
point_of-p-requires c = let s = (goal.at.point_of-p-requires c).Start in
    subst (Sized 8 16) (sym (c.widened-w.ensures ∙ ap (map pos) (c.column-ds.ensures 0))) (digits-sized 8 16 (ds s) (low-digits s))

pub rest-requires : goal.rest-requires
rest-requires c = let s = (goal.at.rest-requires c).Start in let r = c.requires in
    let is : c.point_of-p.result ≡ point_of (map pos (ds s)) = c.point_of-p.ensures ∙ ap point_of (c.widened-w.ensures ∙ ap (map pos) (c.column-ds.ensures 0)) in
    simp (to_z-of_z, c.ranges.q) (subst (Narrow (q s)) (sym is) (digit_point-narrow (q s) r.1 r.2 (ds s) (is-layer s)))

pub returns : goal.returns
returns c = let s = (goal.at.returns c).Start in let r = c.requires in
    let is : c.point_of-p.result ≡ point_of (map pos (ds s)) = c.point_of-p.ensures ∙ ap point_of (c.widened-w.ensures ∙ ap (map pos) (c.column-ds.ensures 0)) in
    (simp (to_z-of_z, c.ranges.q) at c.rest.ensures) ∙ ap (λ (v : List ℤ). sub_v v (scale_v (q s) (nearest_point (q s) v))) is ∙ layer_point8-rest (q s) r.1 r.2 (ds s) (is-layer s)
