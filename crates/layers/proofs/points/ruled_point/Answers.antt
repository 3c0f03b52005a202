-- The layer point by its rule: every number on the way is small, and p + (- q) n is p - q n.
use Rattle.std.proofs.Common.{◌≡◌, sym, ◌∙◌, ap, ap₂, subst, List, map, ℕ, ℤ, pos, nat_abs, ◌-ℤ◌, ◌^◌, ◌≤◌, arith, SFits, w64, to_z-of_z}
use Rattle.integers.specs.Laws.Sizes.{fits_sub, abs-sub}
use Rattle.integers.specs.Vectors.{add_v, scale_v, Sized}
use Rattle.lattice.specs.Basis.{point_of}
use Rattle.lattice.specs.Computed.{nearest_point}
use Rattle.layers.proofs.Laws.Bases.{base-divisor, digit_point-sized, nearest_point-sized, layer_point8-is}
use Rattle.layers.specs.Digits.{IsLayer}
use Rattle.layers.specs.E8.{layer_point8}
use Rattle.layers.specs.Sizes.{Base}
use Rattle.layers.proofs.points.ruled_point.Goals as goal

module _ (q : ℤ) (base : Base q) where
  small : nat_abs (pos 0 -ℤ q) ≤ 2 ^ 30
  small = omega (arith, abs-sub (pos 0) q, base.most)

  less : SFits w64 (pos 0 -ℤ q)
  less = fits_sub (pos 0) q (omega (arith, base.most))

  module _ (ds : List ℕ) (layer : IsLayer 8 (nat_abs q) ds) {p : List ℤ} (e : p ≡ point_of (map pos ds)) where
    point-small : Sized 8 (2 ^ 30) p
    point-small = subst (Sized 8 (2 ^ 30)) (sym e) (digit_point-sized q base ds layer)

    module _ {n : List ℤ} (f : n ≡ nearest_point q p) where
      nearest-is : n ≡ nearest_point q (point_of (map pos ds))
      nearest-is = f ∙ ap (nearest_point q) e

      nearest-small : Sized 8 (2 ^ 30) n
      nearest-small = subst (Sized 8 (2 ^ 30)) (sym nearest-is) (nearest_point-sized q base ds layer)

      ruled : add_v p (scale_v (pos 0 -ℤ q) n) ≡ layer_point8 (nat_abs q) ds
      ruled = ap₂ (λ (p m : List ℤ). add_v p (scale_v (pos 0 -ℤ q) m)) e nearest-is ∙ layer_point8-is q base ds layer

pub nearest_point-n-requires : goal.nearest_point-n-requires
nearest_point-n-requires c = simp (to_z-of_z, c.ranges.q) (base-divisor c.args.q c.requires.0, point-small c.args.q c.requires.0 c.args.ds.now c.requires.1 c.digit_point-p.ensures)

pub plus_times-requires : goal.plus_times-requires
plus_times-requires c = let q = c.args.q in let b = c.requires.0 in let ds = c.args.ds.now in let l = c.requires.1 in let e = c.digit_point-p.ensures in
    simp (to_z-of_z, c.ranges.q, less q b) (point-small q b ds l e, nearest-small q b ds l e (simp (to_z-of_z, c.ranges.q) at c.nearest_point-n.ensures), small q b)

pub returns : goal.returns
returns c = let q = c.args.q in let b = c.requires.0 in let ds = c.args.ds.now in let l = c.requires.1 in let e = c.digit_point-p.ensures in
    (simp (to_z-of_z, c.ranges.q, less q b) at c.plus_times.ensures) ∙ ruled q b ds l e (simp (to_z-of_z, c.ranges.q) at c.nearest_point-n.ensures)
