-- `with_sign` gives a size its sign: a number up to 2 ^ 27 is the same as an i32, and so is its negation.
use mathlib.Core.Path.{◌≡◌, sym, ◌∙◌, ap}
use mathlib.Core.Bool.{Bool}
use Prim.Native.Nat.{ℕ, zero, suc, ◌≤◌, ◌^◌}
use native.Mathlib.Omega.{arith}
use lib.IntN.{pos, neg_ℤ, ◌-ℤ◌}
use mir.Syntax.{w32}
use mir.Val.{SFits, to_z}
use mir.Facts.{to_z-of_z, to_z_pos}
use Rattle.integers.specs.Laws.Difference.{ints}
use Rattle.readings.specs.Fractions.{signed}
use Rattle.readings.proofs.pattern.with_sign.Goals as goal
use Rattle.readings.proofs.pattern.with_sign.Goals.{Start}

minus : (n : ℕ) → pos 0 -ℤ pos n ≡ neg_ℤ (pos n)
minus n = simp ints (omega arith)

fits : (n : ℕ) → n ≤ 2 ^ 27 → SFits w32 (neg_ℤ (pos n))
fits zero h = record { sfits = omega arith }
fits (suc n) h = record { sfits = omega arith }

same : (start : Start) → to_z w32 start.args.n ≡ pos start.args.n
same start = to_z_pos w32 (omega (arith, start.requires))

pub overflow_sub-result : goal.overflow_sub-result
overflow_sub-result c = let start = c.before in rw (same start, minus) (fits start.args.n start.requires)

pub returns-then-negative : goal.returns-then-negative
returns-then-negative c =
    let start = c.before in
    simp (same start, minus, to_z-of_z, fits start.args.n start.requires) (ap (λ (sign : Bool). signed sign start.args.n) (sym c.if-negative.true))

pub returns-else-negative : goal.returns-else-negative
returns-else-negative c = let start = c.before in same start ∙ ap (λ (sign : Bool). signed sign start.args.n) (sym c.if-negative.false)
