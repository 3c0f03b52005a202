-- `check_lent` is the two checks, test by test.
use mathlib.Core.Path.{◌≡◌, refl, sym, ap₂}
use mathlib.Core.Bool.{Bool}
use mathlib.Core.List.{[], ◌∷◌}
use Prim.Native.Nat.{ℕ}
use native.Mathlib.Omega.{arith}
use borrow.Author.Tests.{le-leb, lt-leb}
use lib.Dec.{leb}
use lib.IntN.{nat_abs}
use Rattle.refusals.specs.declared.Refusal.TheVariants.{Table, Size}
use Rattle.refusals.specs.Verdicts.{unless, first_refusal}
use Rattle.tables.proofs.pair_table.check_lent.Goals as goal
use Rattle.tables.proofs.pair_table.check_lent.Goals.{After-digit_values}

module _ (c : After-digit_values) where
  abbrev q : ℕ
  q = nat_abs c.before.args.s.q

  decided : (a b : Bool) → leb q 2 ≡ a → leb 65536 c.before.args.room ≡ b
      → first_refusal (unless (leb q 2) Table ∷ unless (leb 65536 c.before.args.room) (Size 2) ∷ []) ≡ first_refusal (unless a Table ∷ unless b (Size 2) ∷ [])
  decided a b e f = ap₂ (λ (a b : Bool). first_refusal (unless a Table ∷ unless b (Size 2) ∷ [])) e f

pub digit_values-requires : goal.digit_values-requires
digit_values-requires c = c.requires

pub returns-then-room-ge-PAIR_SIZE : goal.returns-then-room-ge-PAIR_SIZE
returns-then-room-ge-PAIR_SIZE c = let d = c.before.before in sym (decided d _ _ (le-leb (q d) 2 (omega (arith, d.digit_values.ensures, c.before.if-digit_values-le-PAIR_MOST.true))) (le-leb 65536 _ c.if-room-ge-PAIR_SIZE.true))

pub returns-else-room-ge-PAIR_SIZE : goal.returns-else-room-ge-PAIR_SIZE
returns-else-room-ge-PAIR_SIZE c = let d = c.before.before in sym (decided d _ _ (le-leb (q d) 2 (omega (arith, d.digit_values.ensures, c.before.if-digit_values-le-PAIR_MOST.true))) (lt-leb 65536 _ c.if-room-ge-PAIR_SIZE.false))

pub returns-else-digit_values-le-PAIR_MOST : goal.returns-else-digit_values-le-PAIR_MOST
returns-else-digit_values-le-PAIR_MOST c = let d = c.before in sym (decided d _ _ (lt-leb (q d) 2 (omega (arith, d.digit_values.ensures, c.if-digit_values-le-PAIR_MOST.false))) refl)
