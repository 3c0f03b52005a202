-- `lead` is what its definition says: every number on the way has room.
use native.Mathlib.Omega.{arith}
use mathlib.Core.Path.{◌≡◌, ◌∙◌, ap₂}
use Prim.Native.Nat.{◌*◌}
use lib.IntN.{ℤ, pos, ◌+ℤ◌, ◌-ℤ◌, ◌*ℤ◌}
use Rattle.rounding.proofs.Laws.Choice.{lead-bound}
use Rattle.rounding.specs.Pass.{lead, mend_of}
use Rattle.rounding.proofs.point.lead.Goals as goal

pub sub-requires : goal.sub-requires
unfolding lead
sub-requires g c = let t = g.T.Number in let h = g.met.T.Number in let x = mend_of g.T.Key.Count.count t.value c.args.x in let y = mend_of g.T.Key.Count.count t.value c.args.y in
    let z : ℤ = (t.value c.args.a +ℤ x.cost) -ℤ (t.value c.args.b +ℤ y.cost) in
    let m : t.value c.mul.result ≡ pos 2 *ℤ z = cc (h.mul_law _ _ _ c.mul.ensures, h.sub_law _ _ _ c.sub-z.ensures, h.add_law _ _ _ c.add.ensures, h.add_law _ _ _ c.add-2.ensures) in
    h.can_sub_law _ _ (rw (c.earlier.ensures, m) (omega (arith, h.room_law.squares, lead-bound (56 * (t.step * t.step)) (t.value c.args.a) (t.value c.args.b) x y (omega (arith, c.requires.0, c.requires.1, c.requires.2.cost, c.requires.3.cost)) (t.value c.args.way))))

pub returns : goal.returns
unfolding lead
returns g c = let t = g.T.Number in let h = g.met.T.Number in let x = mend_of g.T.Key.Count.count t.value c.args.x in let y = mend_of g.T.Key.Count.count t.value c.args.y in
    let m : t.value c.mul.result ≡ pos 2 *ℤ ((t.value c.args.a +ℤ x.cost) -ℤ (t.value c.args.b +ℤ y.cost)) = cc (h.mul_law _ _ _ c.mul.ensures, h.sub_law _ _ _ c.sub-z.ensures, h.add_law _ _ _ c.add.ensures, h.add_law _ _ _ c.add-2.ensures) in
    h.sub_law _ _ _ c.sub.ensures ∙ ap₂ ◌-ℤ◌ c.earlier.ensures m
