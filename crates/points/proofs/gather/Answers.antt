-- `gather` puts block after block: after b turns the first b columns hold the layer of their blocks.
use mathlib.Core.Path.{◌≡◌, sym, ap, subst}
use Prim.Native.Nat.{ℕ, ◌+◌, ◌*◌}
use native.Mathlib.Omega.{arith}
use Rattle.records.specs.Eight.Codes.{block_size}
use Rattle.points.specs.Laws.Lanes.{Laid, laid_none, laid-gathered}
use Rattle.records.specs.Laws.Parts.{part-ends}
use Rattle.points.proofs.gather.Goals as goal
use Rattle.points.proofs.gather.Invariants.{layer}

pub loop-b-init : goal.loop-b-init
loop-b-init c = subst (Laid (layer c.args.body.now c.args.m c.args.i) 0) (sym c.requires.4) (laid_none _)

pub put_layer-requires : goal.put_layer-requires
put_layer-requires c =
    let at-is : c.block_size-size.result * c.loop-b.b + (8 * c.args.i + 1) ≡ block_size c.args.m * c.loop-b.b + (8 * c.args.i + 1) = ap (λ (n : ℕ). n * c.loop-b.b + (8 * c.args.i + 1)) c.block_size-size.ensures in
    (omega (arith, at-is, part-ends (block_size c.args.m) c.loop-b.b c.args.n c.loop-b-test.true, c.requires.3, c.requires.1), omega (arith, c.loop-b-test.true, c.requires.2), c.loop-b.invariant.square)

pub returns : goal.returns
returns c = let a = c.args in let e : c.loop-b.b ≡ a.n = omega arith in
    laid-gathered a.m a.n a.body.now a.i c.requires.1 (subst (λ (b : ℕ). Laid (layer a.body.now a.m a.i) b c.loop-b.c) e c.loop-b.invariant)
