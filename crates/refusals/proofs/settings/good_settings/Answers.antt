-- `good_settings` is the rule for q, M and q^M, test by test; within their limits q^M is at most 16^4 and fits.
use mathlib.Core.Path.{◌≡◌, sym, ◌∙◌, ap}
use mathlib.Core.Bool.{true}
use Prim.Native.Nat.{ℕ, ◌^◌, ◌<◌}
use native.Mathlib.Omega.{arith}
use lib.Dec.{leb}
use lib.IntN.{ℤ, pos, nat_abs}
use lib.Signed.{yes_non_neg}
use mir.Facts.{to_z-of_z, Fits-nat_abs}
use Rattle.integers.specs.Laws.Linear.{Z}
use Rattle.integers.specs.Vectors.{within}
use Rattle.refusals.specs.Settings.{good_settings}
use Rattle.integers.specs.Laws.Tests.{within-true, between}
use Rattle.refusals.specs.Laws.Allowed.{power-most}
use Rattle.refusals.proofs.settings.good_settings.Goals as goal
use Rattle.refusals.proofs.settings.good_settings.Goals.{After-within, After-within-then-within, Start, Then-within, Then-within-2}

-- what the first test said, and the second
first : (c : After-within) → c.within.result ≡ within (pos 2) (pos 16) c.before.args.q
first c = simp (to_z-of_z, c.before.ranges.q) at c.within.ensures

second : (c : After-within-then-within) → c.within-then-within.result ≡ within (pos 1) (pos 4) c.before.before.before.args.m
second c = simp (to_z-of_z, c.before.before.before.ranges.m) at c.within-then-within.ensures

first_holds : (c : Then-within) → within (pos 2) (pos 16) c.before.before.args.q ≡ true
first_holds c = sym (first c.before) ∙ c.if-within.true

-- where both hold
module _ (c : Then-within-2) where
  abbrev start : Start
  start = c.before.before.before.before

  abbrev q : ℤ
  q = start.args.q

  abbrev m : ℤ
  m = start.args.m

  second_holds : within (pos 1) (pos 4) m ≡ true
  second_holds = sym (second c.before) ∙ c.if-within-2.true

  power-fits : nat_abs q ^ nat_abs m < 2 ^ 64
  power-fits = omega (arith, power-most (nat_abs q) (nat_abs m) 16 4 (omega arith) (between 2 16 q (first_holds c.before.before)).2 (between 1 4 m second_holds).2)

pub overflow_cast-q : goal.overflow_cast-q
overflow_cast-q c = let t = within-true (pos 2) (pos 16) (q c) (first_holds c.before.before) in
    simp (to_z-of_z, (start c).ranges.q) (yes_non_neg {z = q c} (omega (arith, Z, t.0)), Fits-nat_abs tt (start c).ranges.q)

pub overflow_cast-m : goal.overflow_cast-m
overflow_cast-m c = let t = within-true (pos 1) (pos 4) (m c) (second_holds c) in
    simp (to_z-of_z, (start c).ranges.m) (yes_non_neg {z = m c} (omega (arith, Z, t.0)), Fits-nat_abs tt (start c).ranges.m)

pub power-requires : goal.power-requires
power-requires c = simp (to_z-of_z, (start c).ranges.q, (start c).ranges.m) (power-fits c)

pub returns-then-within-2 : goal.returns-then-within-2
unfolding good_settings
returns-then-within-2 c = let b = c.before in rw (first_holds b.before.before, second_holds b) (ap (λ (n : ℕ). leb n 4096) (simp (to_z-of_z, (start b).ranges.q, (start b).ranges.m) at c.power.ensures))

pub returns-else-within-2 : goal.returns-else-within-2
unfolding good_settings
returns-else-within-2 c = rw (first_holds c.before.before, ← second c.before, c.if-within-2.false)

pub returns-else-within : goal.returns-else-within
unfolding good_settings
returns-else-within c = rw (← first c.before, c.if-within.false)
