-- Each number in turn is 0 where its bits are.
use Rattle.std.proofs.Common.{◌≡◌, refl, sym, ◌∙◌, ap, rules, Bool, ◌&&◌, List, [], ◌∷◌, ℤ, nat_abs, eqb, eq-eqb, ne_eqb, SFits, w64, to_z, of_z, to_z-of_z}
use Rattle.std.specs.List.{list_all}
use Rattle.std.proofs.Math.Decide.{ℕ_discrete}
use Rattle.std.proofs.lemmas.Iterator.{YieldsList-from_slice}
use Rattle.std.proofs.lemmas.Iterator.Search.{all_from_yields_List}
use Rattle.blocks.specs.Laws.Fitting.{zero-entry}
use Rattle.blocks.specs.Trials.{nothing_left}
use Rattle.blocks.proofs.nothing_left.Goals as goal

zero-bits : (z : ℤ) → SFits w64 z → eqb (of_z w64 z) 0 ≡ eqb (nat_abs z) 0
zero-bits z f = elim (ℕ_discrete (nat_abs z) 0) [
  | yes h ↦ eq-eqb (of_z w64 z) 0 (ap (of_z w64) (zero-entry z h)) ∙ sym (eq-eqb (nat_abs z) 0 h)
  | no h ↦ ne_eqb (of_z w64 z) 0 (λ k. h (ap nat_abs (sym (to_z-of_z f) ∙ ap (to_z w64) k))) ∙ sym (ne_eqb (nat_abs z) 0 h)
]

each : (e : List ℤ) → list_all (λ z. eqb (nat_abs z) 0) e ≡ nothing_left e
each [] = refl
each (z ∷ e) = ap (λ (t : Bool). eqb (nat_abs z) 0 && t) (each e)

pub returns : goal.returns
returns c =
    all_from_yields_List (λ z. eqb (nat_abs z) 0) _ _ c.all.result c.all.ensures.ran (YieldsList-from_slice c.args.e.now cc) (λ x b q k. search (rules, zero-bits))
    ∙ each c.args.e.now
