-- `put_refusal` puts the line of the refusal's row and place.
use Rattle.std.proofs.Common.{◌≡◌, ◌∙◌, sym, ap, subst, arith, List, ℤ, pos, [], ◌∷◌, ℕ, ◌^◌, ◌≤◌, length}
use Rattle.std.proofs.Math.Path.{ap₂}
use mir.Syntax.{w64}
use mir.Val.{to_z}
use mir.Facts.{to_z_pos}
use Rattle.refusals.specs.declared.Refusal.{Refusal}
use Rattle.refusals.specs.Verdicts.{row_of, spot_of}
use Rattle.listing.specs.Laws.Lengths.{row-most, refusal-most}
use Rattle.listing.specs.Listing.{line}
use Rattle.texts.specs.Text.{bytes}
use Rattle.listing.specs.Pages.{HasRoom, Puts}
use Rattle.listing.proofs.put_refusal.Goals as goal

-- its numbers, as they are cast
numbers : (r : Refusal) (a b : ℕ) → a ≡ row_of r → b ≡ spot_of r → spot_of r ≤ 2 ^ 32 → to_z w64 a ∷ to_z w64 b ∷ [] ≡ pos (row_of r) ∷ pos (spot_of r) ∷ []
numbers r a b e k h = ap₂ (λ (a b : ℤ). a ∷ b ∷ []) (to_z_pos w64 (omega (arith, e, row-most r)) ∙ ap pos e) (to_z_pos w64 (omega (arith, k, h)) ∙ ap pos k)

pub line-requires : goal.line-requires
line-requires c = let r = c.args.r in
    subst (λ (l : List ℤ). HasRoom c.args.page.now (length (line (bytes "refused") l))) (sym (numbers r _ _ c.number.ensures c.place.ensures c.requires.0)) (omega (arith, refusal-most r c.requires.0, c.requires.1))

pub returns : goal.returns
returns c = let r = c.args.r in
    subst (λ (l : List ℤ). Puts c.args.page.now c.line.new.self (line (bytes "refused") l)) (numbers r _ _ c.number.ensures c.place.ensures c.requires.0) c.line.ensures
