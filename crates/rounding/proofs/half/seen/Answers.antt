-- `seen` adds one entry to what the pass has seen: the squares of what each half leaves, and their sums, have room.
use native.Mathlib.Omega.{arith}
use mathlib.Core.Path.{◌≡◌}
use lib.IntN.{◌*ℤ◌}
use Rattle.integers.specs.Laws.Sizes.{abs-add, abs-mul-le}
use Rattle.rounding.proofs.Laws.Passes.{square-room}
use Rattle.rounding.proofs.half.seen.Goals as goal

pub mul-requires : goal.mul-requires
mul-requires g c = let t = g.T.Number in let h = g.met.T.Number in let a = t.value c.args.a in h.can_mul_law _ _ (omega (arith, h.room_law.squares, abs-mul-le a a c.requires.2 c.requires.2))

pub add-requires-3 : goal.add-requires-3
add-requires-3 g c = let t = g.T.Number in let h = g.met.T.Number in let a = t.value c.args.a in let e : t.value c.mul.result ≡ a *ℤ a = h.mul_law _ _ _ c.mul.ensures in
    h.can_add_law _ _ (rw e (omega (arith, h.room_law.squares, c.requires.0.even, abs-add (t.value c.args.c.even) (a *ℤ a), abs-mul-le a a c.requires.2 c.requires.2)))

pub mul-requires-2 : goal.mul-requires-2
mul-requires-2 g c = let t = g.T.Number in let h = g.met.T.Number in
    h.can_mul_law _ _ (omega (arith, h.room_law.squares, square-room t.step (t.value c.args.s) (t.value c.args.a) (t.value c.lowered-b.result) c.requires.3.most c.requires.2 c.lowered-b.ensures))

pub add-requires-4 : goal.add-requires-4
add-requires-4 g c = let t = g.T.Number in let h = g.met.T.Number in let b = t.value c.lowered-b.result in let e : t.value c.mul-2.result ≡ b *ℤ b = h.mul_law _ _ _ c.mul-2.ensures in
    h.can_add_law _ _ (rw e (omega (arith, h.room_law.squares, c.requires.0.odd, abs-add (t.value c.args.c.odd) (b *ℤ b), square-room t.step (t.value c.args.s) (t.value c.args.a) b c.requires.3.most c.requires.2 c.lowered-b.ensures)))
