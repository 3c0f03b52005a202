-- `table_point` goes from the top layer down: it holds what the layers from i on decode to, which is never large.
use mathlib.Core.Path.{◌≡◌, sym, ◌∙◌, ap, ap₂, subst, subst₂}
use mathlib.Core.List.{List}
use Prim.Native.Nat.{ℕ, suc, ◌+◌, ◌*◌, ◌-◌, ◌<◌}
use native.Mathlib.Omega.{arith}
use lib.IntN.{ℤ, pos}
use lib.ListN.{take, drop}
use Rattle.integers.specs.Vectors.{add_v, scale_v}
use Rattle.layers.specs.Digits.{IsLayer}
use Rattle.layers.specs.E8.{e8, nearest, layer_point8, decode8}
use Rattle.layers.proofs.Laws.Loops.{code-layer, decode-down}
use Rattle.records.specs.Eight.Codes.{Digital}
use Rattle.points.specs.Lanes.{Summable}
use Rattle.points.specs.Laws.LanePoints.{two-digital, layer-narrow, above-narrow}
use Rattle.points.proofs.table_point.Goals as goal
use Rattle.points.proofs.table_point.Goals.{In-loop-i}

-- layer j = i - 1, and the layers above it
module _ (c : In-loop-i) where
  abbrev ds : List ℕ
  ds = c.args.ds.now

  abbrev m : ℕ
  m = c.args.m

  abbrev j : ℕ
  j = c.loop-i.i - 1

  within : j < m
  within = omega arith

  next : suc j ≡ c.loop-i.i
  next = omega arith

  eight : 8 * j + 8 - 8 * j ≡ 8
  eight = omega arith

  abbrev layer : List ℕ
  layer = take 8 (drop (8 * j) ds)

  abbrev above : List ℤ
  above = decode8 2 (m - suc j) (drop (8 * suc j) ds)

  above-is : c.loop-i.e ≡ above
  above-is = c.loop-i.invariant ∙ ap (λ (k : ℕ). decode8 2 (m - k) (drop (8 * k) ds)) (sym next)

  is-layer : IsLayer 8 2 layer
  is-layer = code-layer 8 2 m ds c.requires.2 j within

  digital : Digital (pos 2) m
  digital = two-digital m c.requires.1

  summable : Summable (pos 2) (layer_point8 2 layer) above
  summable = record { first = layer-narrow (pos 2) m digital ds c.requires.2 j within; second = above-narrow (pos 2) m digital ds c.requires.2 j within }

pub table_point-l-requires : goal.table_point-l-requires
table_point-l-requires c = let l = (goal.at.table_point-l-requires c).In-loop-i in (c.requires.0, subst (λ (k : ℕ). IsLayer 8 2 (take k (drop (8 * j l) (ds l)))) (sym (eight l)) (is-layer l))

pub plus_times-e-requires : goal.plus_times-e-requires
plus_times-e-requires c = let l = (goal.at.plus_times-e-requires c).In-loop-i in
    let e : c.table_point-l.result ≡ layer_point8 2 (layer l) = c.table_point-l.ensures ∙ ap (λ (k : ℕ). layer_point8 2 (take k (drop (8 * j l) (ds l)))) (eight l) in
    subst₂ (Summable (pos 2)) (sym e) (sym (above-is l)) (summable l)

pub loop-i-preserved : goal.loop-i-preserved
loop-i-preserved c = let l = (goal.at.loop-i-preserved c).In-loop-i in
    let e : c.table_point-l.result ≡ layer_point8 2 (layer l) = c.table_point-l.ensures ∙ ap (λ (k : ℕ). layer_point8 2 (take k (drop (8 * j l) (ds l)))) (eight l) in
    c.plus_times-e.ensures ∙ ap₂ (λ (x y : List ℤ). add_v x (scale_v (pos 2) y)) e (above-is l) ∙ sym (decode-down e8 nearest 2 (m l) (ds l) (j l) (within l))
