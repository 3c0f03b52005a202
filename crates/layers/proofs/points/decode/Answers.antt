-- Every number on the way is small, and layer i stands before the layers above it.
use Rattle.std.proofs.Common.{◌≡◌, sym, ◌∙◌, ap, ap₂, subst, List, ℕ, suc, ◌+◌, ◌*◌, ◌-◌, ◌^◌, ◌<◌, ◌≤◌, ℤ, nat_abs, take, drop, arith, to_z-of_z}
use Rattle.integers.specs.Vectors.{add_v, scale_v, Sized}
use Rattle.layers.specs.Digits.{IsLayer, IsCode}
use Rattle.layers.specs.E8.{e8, nearest, layer_point8, decode8}
use Rattle.layers.specs.Sizes.{Base, long_power}
use Rattle.layers.proofs.Laws.Bases.{base-is, layer_point8-sized, decode8-sized}
use Rattle.layers.proofs.Laws.Loops.{code-layer, decode-down}
use Rattle.layers.proofs.points.decode.Goals as goal

-- layer j = i - 1 with its point x, and the layers above it, e
module _ (q : ℤ) (ds : List ℕ) (m : ℕ) (b : Base q) (h : nat_abs q ^ m ≤ long_power) (code : IsCode 8 (nat_abs q) m ds) (i : ℕ) (below : i ≤ m) (some : 0 < i) where
  abbrev j : ℕ
  j = i - 1

  within : j < m
  within = omega arith

  next : suc j ≡ i
  next = omega arith

  eight : 8 * j + 8 - 8 * j ≡ 8
  eight = omega arith

  is-layer : IsLayer 8 (nat_abs q) (take (8 * j + 8 - 8 * j) (drop (8 * j) ds))
  is-layer = subst (λ (k : ℕ). IsLayer 8 (nat_abs q) (take k (drop (8 * j) ds))) (sym eight) (code-layer 8 (nat_abs q) m ds code j within)

  abbrev layer : List ℕ
  layer = take 8 (drop (8 * j) ds)

  module _ (e x : List ℤ) (above : e ≡ decode8 (nat_abs q) (m - i) (drop (8 * i) ds)) (at-j : x ≡ layer_point8 (nat_abs q) (take (8 * j + 8 - 8 * j) (drop (8 * j) ds))) where
    above-is : e ≡ decode8 (nat_abs q) (m - suc j) (drop (8 * suc j) ds)
    above-is = above ∙ ap (λ (k : ℕ). decode8 (nat_abs q) (m - k) (drop (8 * k) ds)) (sym next)

    above-small : Sized 8 (2 ^ 30) e
    above-small = subst (Sized 8 (2 ^ 30)) (sym above-is) (decode8-sized q b m h ds code (suc j) within)

    layer-is : x ≡ layer_point8 (nat_abs q) layer
    layer-is = at-j ∙ ap (λ (k : ℕ). layer_point8 (nat_abs q) (take k (drop (8 * j) ds))) eight

    layer-small : Sized 8 (2 ^ 30) x
    layer-small = subst (Sized 8 (2 ^ 30)) (sym layer-is) (layer_point8-sized q b layer (code-layer 8 (nat_abs q) m ds code j within))

    down : add_v x (scale_v q e) ≡ decode8 (nat_abs q) (m - j) (drop (8 * j) ds)
    down = ap₂ (λ (x y : List ℤ). add_v x (scale_v q y)) layer-is above-is
        ∙ ap (λ (k : ℤ). add_v (layer_point8 (nat_abs q) layer) (scale_v k (decode8 (nat_abs q) (m - suc j) (drop (8 * suc j) ds)))) (sym (base-is q b))
        ∙ sym (decode-down e8 nearest (nat_abs q) m ds j within)

pub layer_point-l-requires : goal.layer_point-l-requires
layer_point-l-requires c = let r = c.requires in
    simp (to_z-of_z, c.ranges.q) (r.0, r.1, is-layer c.args.q c.args.ds.now c.args.m r.1 r.2 r.3 c.loop-i.i c.loop-i.auto.i c.loop-i-test.true)

pub plus_times-e-requires : goal.plus_times-e-requires
plus_times-e-requires c =
    let q = c.args.q in let ds = c.args.ds.now in let m = c.args.m in let r = c.requires in let i = c.loop-i.i in let l = c.loop-i.auto.i in let t = c.loop-i-test.true in
    let above : c.loop-i.e ≡ decode8 (nat_abs q) (m - i) (drop (8 * i) ds) = simp (to_z-of_z, c.ranges.q) at c.loop-i.invariant in let at-i = simp (to_z-of_z, c.ranges.q) at c.layer_point-l.ensures in
    simp (to_z-of_z, c.ranges.q) (layer-small q ds m r.1 r.2 r.3 i l t c.loop-i.e _ above at-i, above-small q ds m r.1 r.2 r.3 i l t c.loop-i.e _ above at-i, omega (arith, r.1.most))

pub loop-i-preserved : goal.loop-i-preserved
loop-i-preserved c =
    let q = c.args.q in let ds = c.args.ds.now in let m = c.args.m in let r = c.requires in let i = c.loop-i.i in let l = c.loop-i.auto.i in let t = c.loop-i-test.true in
    let above : c.loop-i.e ≡ decode8 (nat_abs q) (m - i) (drop (8 * i) ds) = simp (to_z-of_z, c.ranges.q) at c.loop-i.invariant in let at-i = simp (to_z-of_z, c.ranges.q) at c.layer_point-l.ensures in
    simp (to_z-of_z, c.ranges.q) ((simp (to_z-of_z, c.ranges.q) at c.plus_times-e.ensures) ∙ down q ds m r.1 r.2 r.3 i l t c.loop-i.e _ above at-i)
