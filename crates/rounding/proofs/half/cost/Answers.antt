-- `cost` has room.
use native.Mathlib.Omega.{arith}
use mathlib.Core.Path.{◌≡◌}
use Prim.Native.Nat.{◌/◌}
use lib.IntN.{pos, ◌*ℤ◌, ◌-ℤ◌}
use Rattle.rounding.proofs.Laws.Passes.{cost-room}
use Rattle.rounding.proofs.half.cost.Goals as goal

pub mul-requires-2 : goal.mul-requires-2
mul-requires-2 g c = let t = g.T.Number in let h = g.met.T.Number in let k = g.T.Key.Count.count c.args.k in let s = t.value c.args.s in
    let x : t.value c.mul.result ≡ pos 4 *ℤ s = cc (h.mul_law _ _ _ c.mul.ensures) in
    let q : g.T.Key.Count.count c.div.result ≡ k / 16 = cc (g.met.T.Key.Count.div_law _ _ _ c.div.ensures) in
    let y : t.value c.sub.result ≡ s -ℤ pos (k / 16) = cc (h.sub_law _ _ _ c.sub.ensures) in
    h.can_mul_law _ _ (rw (x, y) (omega (arith, h.room_law.squares, cost-room t.step s k c.requires.0.most c.requires.1)))
