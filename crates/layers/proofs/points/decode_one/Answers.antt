-- Where q is 2 the table is lent, and else nothing that is read.
use mathlib.Core.Path.{sym, ◌∙◌, ap}
use lib.IntN.{ℤ, pos, nat_abs}
use mir.Syntax.{w64}
use mir.Val.{of_z}
use mir.Facts.{to_z-of_z}
use Rattle.layers.specs.E8.{decode8}
use Rattle.layers.proofs.Laws.Bases.{base-is}
use Rattle.layers.proofs.points.decode_one.Goals as goal

pub decode-requires-else-q-eq2 : goal.decode-requires-else-q-eq2
decode-requires-else-q-eq2 c = let r = c.requires in
    simp (to_z-of_z, c.ranges.q) ((λ h. absurd (c.if-q-eq2.false (ap (of_z w64) (sym (base-is c.args.q r.0) ∙ ap pos h)))), r.0, r.1, r.2)

pub returns-then-q-eq2 : goal.returns-then-q-eq2
returns-then-q-eq2 c = c.decode.ensures ∙ ap (λ (q : ℤ). decode8 (nat_abs q) c.args.m c.args.ds.now) (to_z-of_z c.ranges.q)

pub returns-else-q-eq2 : goal.returns-else-q-eq2
returns-else-q-eq2 c = c.decode-else-q-eq2.ensures ∙ ap (λ (q : ℤ). decode8 (nat_abs q) c.args.m c.args.ds.now) (to_z-of_z c.ranges.q)
