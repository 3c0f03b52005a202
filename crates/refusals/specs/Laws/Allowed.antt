-- What accepted settings and step lists say of their numbers.
use Rattle.std.specs.Prelude.{◌≡◌, true, ◌&&◌, List, [], ◌∷◌, ℕ, zero, suc, ◌^◌, ◌<◌, ◌≤◌, leb, ℤ, pos, nat_abs, length, ◌≤ℤ◌}
use Rattle.std.proofs.Math.Nat.{pow-le-pow_left, pow-le-pow_right}
use Rattle.std.proofs.Common.{arith, leb-true}
use Rattle.std.specs.Int.Signed.{le_z, lt_z}
use Rattle.integers.specs.Laws.Linear.{Z, abs-parts}
use Rattle.integers.specs.Laws.Sizes.{le_z-true, lt_z-true}
use Rattle.integers.specs.Laws.Tests.{and-true, between}
use Rattle.integers.specs.Vectors.{«at», within}
use Rattle.refusals.specs.Limits.{q_least, q_most, m_least, m_most, power_most, steps_most, step_most}
use Rattle.refusals.specs.Settings.{good_settings, Allowed}
use Rattle.refusals.specs.Steps.{rising, good_steps, AllowedStep, AllowedSteps}

pub settings-allowed : (q m : ℤ) → good_settings q m ≡ true → Allowed q m
unfolding good_settings
settings-allowed q m e =
    let t = and-true (within (pos q_least) (pos q_most) q) (within (pos m_least) (pos m_most) m && leb (nat_abs q ^ nat_abs m) power_most) e in
    let u = and-true (within (pos m_least) (pos m_most) m) (leb (nat_abs q ^ nat_abs m) power_most) t.1 in
    let a = between q_least q_most q t.0 in let b = between m_least m_most m u.0 in
    record { q-whole = a.0; q-least = a.1; q-most = a.2; m-whole = b.0; m-least = b.1; m-most = b.2; power = leb-true (nat_abs q ^ nat_abs m) power_most u.1 }

-- a power of numbers within bounds is at most the power of the bounds
pub power-most : (q m a b : ℕ) → 0 < a → q ≤ a → m ≤ b → q ^ m ≤ a ^ b
power-most q m a b p h k = let x : q ^ m ≤ a ^ m = pow-le-pow_left h m in let y : a ^ m ≤ a ^ b = pow-le-pow_right p k in omega arith

-- a list that rises from a number not below 0 has steps within their limits
steps-each : (last : ℤ) (l : List ℤ) → pos 0 ≤ℤ last → rising last l ≡ true → (i : ℕ) → i < length l → AllowedStep («at» l i)
steps-each last [] z e = λ i h. absurd (omega arith)
steps-each last (s ∷ l) z e =
    let t = and-true (lt_z last s) (le_z s (pos step_most) && rising s l) e in let u = and-true (le_z s (pos step_most)) (rising s l) t.1 in
    let above = lt_z-true last s t.0 in let under = le_z-true s (pos step_most) u.0 in
    go (record { least = omega (arith, Z, above); most = omega (arith, Z, abs-parts s, above, under) }) (steps-each s l (omega (arith, Z, above)) u.1)
  where
    go : AllowedStep s → ((i : ℕ) → i < length l → AllowedStep («at» l i)) → (i : ℕ) → i < suc (length l) → AllowedStep («at» (s ∷ l) i)
    go here later zero h = here
    go here later (suc i) h = later i (omega arith)

pub steps-allowed : (l : List ℤ) → good_steps l ≡ true → AllowedSteps l
unfolding good_steps
steps-allowed l e =
    let t = and-true (leb 1 (length l)) (leb (length l) steps_most && rising (pos 0) l) e in let u = and-true (leb (length l) steps_most) (rising (pos 0) l) t.1 in
    record { some = leb-true 1 (length l) t.0; few = leb-true (length l) steps_most u.0; each = steps-each (pos 0) l (record { le = tt }) u.1 }
