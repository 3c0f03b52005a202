-- `small` asks each entry in turn.
use Rattle.std.proofs.Common.{◌≡◌, refl, sym, ◌∙◌, ap, rules, Bool, ◌&&◌, List, [], ◌∷◌, ℕ, ℤ, pos, neg_ℤ, nat_abs}
use Rattle.std.specs.Int.Signed.{pos-nat_abs, yes_non_neg}
use Rattle.std.specs.List.{list_all}
use Rattle.std.proofs.lemmas.Iterator.{YieldsList-from_slice}
use Rattle.std.proofs.lemmas.Iterator.Search.{all_from_yields_List}
use Rattle.integers.specs.Vectors.{within, small}
use Rattle.integers.proofs.small.Goals as goal

each : (B : ℕ) (a : List ℤ) → list_all (within (neg_ℤ (pos B)) (pos B)) a ≡ small B a
each B [] = refl
each B (x ∷ a) = ap (λ (t : Bool). within (neg_ℤ (pos B)) (pos B) x && t) (each B a)

pub returns : goal.returns
returns c =
    let e : pos (nat_abs c.args.most) ≡ c.args.most = pos-nat_abs c.args.most (yes_non_neg c.requires) in
    all_from_yields_List (within (neg_ℤ c.args.most) c.args.most) _ _ c.all.result c.all.ensures.ran (YieldsList-from_slice c.args.a.now cc) (λ x b q k. search rules)
    ∙ ap (λ (m : ℤ). list_all (within (neg_ℤ m) m) c.args.a.now) (sym e)
    ∙ each (nat_abs c.args.most) c.args.a.now
