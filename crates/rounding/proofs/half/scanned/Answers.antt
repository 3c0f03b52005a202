-- `scanned` sees one entry more in each turn.
use native.Mathlib.Omega.{arith}
use mathlib.Core.Path.{◌≡◌, sym, ◌∙◌, ap, subst}
use mathlib.Core.List.{map}
use Prim.Native.Nat.{◌+◌}
use Rattle.integers.specs.Vectors.{«at»}
use Rattle.rounding.specs.Pass.{Fair, scanned_from}
use Rattle.rounding.specs.Rounding.{key}
use Rattle.rounding.proofs.Laws.Passes.{entry-is, entry-small, scan-fair, seen_next}
use Rattle.rounding.proofs.half.scanned.Goals as goal

pub key-k-requires : goal.key-k-requires
key-k-requires g c = let t = g.T.Number in (omega (arith, g.met.T.Number.room_law.sums, entry-small t.value t.step c.args.a.now c.requires.1 c.index-a-from.result c.args.from c.requires.3), c.requires.3)

pub loop-j-init : goal.loop-j-init
unfolding scanned_from
loop-j-init g c = let t = g.T.Number in let i = c.args.from in
    let e : g.T.Key.Count.count c.key-k.result ≡ key i («at» (map t.value c.args.a.now) i) = c.key-k.ensures ∙ ap (key i) (entry-is t.value t.step c.args.a.now c.requires.1 c.index-a-from.result i c.requires.3) in cc

pub seen-c-requires : goal.seen-c-requires
seen-c-requires g c = let t = g.T.Number in let i = c.args.from + c.loop-j.j in let f = c.args.f.now in let a = c.args.a.now in (
  subst (Fair t.step t.whole) (sym c.loop-j.invariant) (scan-fair t.step t.whole (t.value c.args.s) c.requires.2.most t.step (omega arith) (map t.value f) (map t.value a) c.requires.0.small c.requires.1.small c.args.from c.requires.3 c.loop-j.j (omega arith)),
  entry-small t.value t.whole f c.requires.0 c.index-f-i.result i (omega arith),
  entry-small t.value t.step a c.requires.1 c.index-a-i.result i (omega arith),
  c.requires.2,
  omega arith,
)

pub loop-j-preserved : goal.loop-j-preserved
loop-j-preserved g c = let t = g.T.Number in let j = c.loop-j.j in let i = c.args.from + j in let f = c.args.f.now in let a = c.args.a.now in
    seen_next (t.value c.args.s) c.args.from j (map t.value f) (map t.value a) c.loop-j.invariant (entry-is t.value t.whole f c.requires.0 c.index-f-i.result i (omega arith)) (entry-is t.value t.step a c.requires.1 c.index-a-i.result i (omega arith)) c.seen-c.ensures
