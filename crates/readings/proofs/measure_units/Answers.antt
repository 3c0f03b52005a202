-- `measure_units` asks for both ends where the definition compares the magnitude.
use Rattle.std.specs.Prelude.{◌≡◌, Bool, true, false, ◌&&◌, ℤ, pos, negsuc, nat_abs, ◌≤ℤ◌, ◌<ℤ◌, ◌≤◌, ◌<◌, Ok, refl}
use mathlib.Core.Bool.{true≢false}
use mathlib.Core.Path.{sym, ◌∙◌, ap}
use native.Mathlib.Omega.{arith}
use mir.Facts.{to_z-of_z}
use Rattle.std.specs.Int.Signed.{le_z}
use Rattle.integers.specs.Laws.Difference.{by_d, ints, abs-D}
use Rattle.integers.specs.Laws.Sizes.{le_z-false}
use Rattle.integers.specs.Laws.Tests.{within-true}
use Rattle.integers.specs.Vectors.{within}
use Rattle.readings.specs.Taking.{units_most}
use Rattle.readings.proofs.Laws.Taking.{units-beyond, units-within}
use Rattle.readings.proofs.measure_units.Goals as goal

above : (X : ℤ) → pos 16777216 <ℤ X → units_most < nat_abs X
above = by_d _ λ _ _. simp (ints, abs-D) (λ h. omega arith)

below : (X : ℤ) → X <ℤ negsuc 16777215 → units_most < nat_abs X
below = by_d _ λ _ _. simp (ints, abs-D) (λ h. omega arith)

between : (X : ℤ) → X ≤ℤ pos 16777216 → negsuc 16777215 ≤ℤ X → nat_abs X ≤ units_most
between = by_d _ λ _ _. simp ints (λ h k. omega arith)

inside : (X : ℤ) → within (negsuc 16777215) (pos 16777216) X ≡ true → nat_abs X ≤ units_most
inside X e = let w = within-true (negsuc 16777215) (pos 16777216) X e in between X w.1 w.0

outside : (X : ℤ) → within (negsuc 16777215) (pos 16777216) X ≡ false → units_most < nat_abs X
outside X = go (le_z (negsuc 16777215) X) (le_z X (pos 16777216)) refl refl
  where
    go : (a b : Bool) → le_z (negsuc 16777215) X ≡ a → le_z X (pos 16777216) ≡ b → (a && b) ≡ false → units_most < nat_abs X
    go false b e f k = below X (le_z-false (negsuc 16777215) X e)
    go true false e f k = above X (le_z-false X (pos 16777216) f)
    go true true e f k = absurd (true≢false k)

pub returns-then-within : goal.returns-then-within
returns-then-within c = ap Ok (to_z-of_z c.ranges.x) ∙ sym (units-within c.args.x (inside c.args.x (simp (to_z-of_z, c.ranges.x) at (sym c.within.ensures ∙ c.if-within.true))))

pub returns-else-within : goal.returns-else-within
returns-else-within c = sym (units-beyond c.args.x (outside c.args.x (simp (to_z-of_z, c.ranges.x) at (sym c.within.ensures ∙ c.if-within.false))))
