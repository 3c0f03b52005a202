-- `gathered_layers` puts layer after layer of block after block: after i layers of block b the first m b + i columns are laid.
use mathlib.Core.Path.{◌≡◌, ◌∙◌, ap, subst}
use mathlib.Core.List.{List}
use Prim.Native.Nat.{ℕ, ◌+◌, ◌*◌, ◌<◌, ◌≤◌}
use native.Mathlib.Omega.{arith}
use lib.ListN.{length, take, drop}
use Rattle.records.specs.Eight.Codes.{block_size}
use Rattle.points.specs.Laws.Folded.{layer_of, layer-of, laid-all}
use Rattle.points.specs.Laws.Lanes.{Laid, laid_more}
use Rattle.records.specs.Laws.Parts.{part-ends}
use Rattle.points.proofs.gathered_layers.Goals as goal
use Rattle.points.proofs.gathered_layers.Goals.{In-loop-i}

-- layer i of block b
module _ (c : In-loop-i) where
  abbrev f : List ℕ
  f = c.args.body.now

  abbrev m : ℕ
  m = c.args.m

  abbrev b : ℕ
  b = c.loop-b.b

  abbrev i : ℕ
  i = c.loop-i.i

  abbrev at : ℕ
  at = c.block_size-size.result * b + (8 * i + 1)

  at-is : at ≡ block_size m * b + (8 * i + 1)
  at-is = ap (λ (n : ℕ). n * b + (8 * i + 1)) c.block_size-size.ensures

  within : m * b + i < 8
  within = omega (arith, part-ends m b c.args.n c.loop-b-test.true, c.requires.1, c.loop-i-test.true)

  ends : at + 8 ≤ length f
  ends = omega (arith, at-is, part-ends (block_size m) b c.args.n c.loop-b-test.true, c.requires.2, c.loop-i-test.true)

  layer-is : take 8 (drop at f) ≡ layer_of m f (m * b + i)
  layer-is = ap (λ (a : ℕ). take 8 (drop a f)) at-is ∙ layer-of m f b i c.loop-i-test.true

pub put_layer-requires : goal.put_layer-requires
put_layer-requires c = let p = (goal.at.put_layer-requires c).In-loop-i in (ends p, within p, c.loop-i.invariant.square)

pub loop-i-preserved : goal.loop-i-preserved
loop-i-preserved c = let p = (goal.at.loop-i-preserved c).In-loop-i in let next : m p * b p + (i p + 1) ≡ m p * b p + i p + 1 = omega arith in
    rw next (laid_more (layer_of (m p) (f p)) (m p * b p + i p) (layer-is p) c.loop-i.invariant c.put_layer.ensures)

pub returns : goal.returns
returns c = let a = c.args in let e : c.loop-b.b ≡ a.n = omega arith in
    laid-all a.m a.n a.body.now (subst (λ (b : ℕ). Laid (layer_of a.m a.body.now) (a.m * b) c.loop-b.c) e c.loop-b.invariant)
