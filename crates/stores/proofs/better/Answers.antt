-- `better` compares the two scores.
use Rattle.std.proofs.Common.{◌≡◌, sym, ◌∙◌, ap, Bool, true, false, cond, ℕ, ℤ, w64, rules}
use Rattle.std.specs.Int.Signed.{lt_z}
use mir.Val.{SFits}
use mir.Facts.{to_z-of_z}
use Rattle.stores.specs.declared.Best.{Best}
use Rattle.stores.specs.Stores.{better}
use Rattle.stores.proofs.better.Goals as goal

-- what the test says decides
decided : (b : Best) (i : ℕ) (z : ℤ) (t : Bool) → lt_z b.score z ≡ t → cond t (record { hour = i; score = z }) b ≡ better b i z
unfolding better
decided b i z t e = ap (λ (t : Bool). cond t (record { hour = i; score = z }) b) (sym e)

pub returns-then-best-z : goal.returns-then-best-z
returns-then-best-z c = let a = c.args in let f : SFits w64 a.best.score = search rules in
    ap (λ (z : ℤ). record { hour = a.i; score = z }) (to_z-of_z c.ranges.z) ∙ decided a.best a.i a.z true (simp (to_z-of_z, c.ranges.z, f) at c.if-best-z.true)

pub returns-else-best-z : goal.returns-else-best-z
returns-else-best-z c = let a = c.args in let f : SFits w64 a.best.score = search rules in decided a.best a.i a.z false (simp (to_z-of_z, c.ranges.z, f) at c.if-best-z.false)
