-- One digit more.
use Rattle.std.proofs.Common.{◌≡◌, sym, ◌∙◌, ap₂, List, ℕ, pos, nat_abs, length, get_or, set, arith, to_z-of_z, SFits, w64}
use Rattle.std.proofs.lemmas.List.{length-map}
use Rattle.std.proofs.Math.ListN.{get_or-map}
use Rattle.integers.specs.Floor.{floor_mod}
use Rattle.integers.specs.Laws.Sizes.{fits-abs}
use Rattle.layers.specs.Layers.{remainders}
use Rattle.layers.proofs.Laws.Loops.{write-next}
use Rattle.layers.proofs.digits.remainders.Goals as goal

pub loop-k-preserved : goal.loop-k-preserved
loop-k-preserved c =
    let q = nat_abs c.args.q in let k = c.loop-k.k in let a = c.args.c.now in let ds = remainders q a in let none = floor_mod (pos 0) q in
    let long : length ds ≡ 8 = length-map a _ ∙ c.told-c in
    let fx : SFits w64 (get_or a k (pos 0)) = fits-abs _ (omega (arith, c.requires.1.small k)) in
    let digit : c.remainder.result ≡ get_or ds k none = (simp (to_z-of_z, c.ranges.q, fx) at c.remainder.ensures) ∙ sym (get_or-map (λ x. floor_mod x q) a k (pos 0)) in
    simp (to_z-of_z, c.ranges.q)
    (ap₂ (λ (o : List ℕ) (d : ℕ). set o k d) (simp (to_z-of_z, c.ranges.q) at c.loop-k.invariant) digit ∙ write-next ds c.args.out.now k none (omega (arith, long)) (omega (arith, long, c.requires.3)))
