-- Where q is 2 the table has the layer point, and else the rule gives it.
use Rattle.std.proofs.Common.{◌≡◌, sym, ◌∙◌, ap, rules, ℕ, ℤ, pos, nat_abs, length, SFits, w64, to_z, of_z, to_z-of_z}
use Rattle.integers.specs.Laws.Arrays.{from_fn-list}
use Rattle.layers.specs.E8.{layer_point8}
use Rattle.layers.proofs.Laws.Bases.{layer_point8-sized}
use Rattle.layers.proofs.points.layer_point.Goals as goal

two : (q : ℤ) → SFits w64 q → of_z w64 q ≡ 2 → 2 ≡ nat_abs q
two q f e = sym (ap nat_abs (sym (to_z-of_z f) ∙ ap (to_z w64) e))

pub returns-then-q-eq2 : goal.returns-then-q-eq2
returns-then-q-eq2 c =
    let ds = c.args.ds.now in let l = c.table_point-l.result in
    let e : l ≡ layer_point8 (nat_abs c.args.q) ds = c.table_point-l.ensures ∙ ap (λ (q : ℕ). layer_point8 q ds) (two c.args.q c.ranges.q c.if-q-eq2.true) in
    let long : length l ≡ 8 = ap length e ∙ (layer_point8-sized c.args.q c.requires.1 ds c.requires.2).long in
    from_fn-list _ l (pos 0) long c.from_fn.ensures.items (λ k y q l e. search rules) ∙ e
