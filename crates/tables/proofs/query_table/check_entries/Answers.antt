-- `check_entries` is one test; K·q^8 is at most 2^22.
use mathlib.Core.Path.{◌≡◌, sym, ◌∙◌, ap, subst}
use mathlib.Core.Bool.{Bool}
use Prim.Native.Nat.{ℕ, ◌*◌, ◌^◌, ◌≤◌}
use native.Mathlib.Nat.{mul-le-mul}
use native.Mathlib.Omega.{arith}
use borrow.Author.Tests.{le-leb, lt-leb}
use lib.IntN.{ℤ, nat_abs}
use mir.Syntax.{w64}
use mir.Val.{SFits}
use mir.Facts.{to_z-of_z}
use Rattle.coding.specs.Laws.Asked.{allowed-base}
use Rattle.layers.specs.Sizes.{Base}
use Rattle.refusals.specs.declared.Refusal.TheVariants.{Size}
use Rattle.refusals.specs.Verdicts.{unless}
use Rattle.tables.specs.Laws.Entries.{part-most}
use Rattle.tables.specs.Tables.{part_size}
use Rattle.tables.proofs.query_table.check_entries.Goals as goal
use Rattle.tables.proofs.query_table.check_entries.Goals.{After-base, After-part_size, Start}

module _ (c : After-base) where
  q-fits : SFits w64 c.base.result
  q-fits = record { sfits = c.base.type_inv }

module _ (c : After-part_size) where
  abbrev s : Start
  s = c.before.before

  abbrev n : ℕ
  n = part_size (nat_abs s.args.s.q) * s.args.k

  n-is : c.part_size.result * s.args.k ≡ n
  n-is = ap (λ (n : ℕ). n * s.args.k) (c.part_size.ensures ∙ ap (λ (z : ℤ). part_size (nat_abs z)) (to_z-of_z (q-fits c.before) ∙ c.before.base.ensures))

  small : c.part_size.result * s.args.k ≤ 2 ^ 22
  small = subst (λ (n : ℕ). n ≤ 2 ^ 22) (sym n-is) (omega (arith, mul-le-mul (part-most (nat_abs s.args.s.q) s.requires.1) s.requires.2))

pub base-requires : goal.base-requires
base-requires c = c.requires.0

pub part_size-requires : goal.part_size-requires
part_size-requires c = let s = c.before in
    subst (λ (z : ℤ). Base z × (nat_abs z ≤ 4)) (sym (to_z-of_z (q-fits c) ∙ c.base.ensures)) (allowed-base s.args.s.q s.args.s.m s.requires.0, s.requires.1)

pub overflow_mul-part_size : goal.overflow_mul-part_size
overflow_mul-part_size c = omega (arith, small c)

pub returns-then-part_size-k : goal.returns-then-part_size-k
returns-then-part_size-k c = let d = c.before in sym (ap (λ (t : Bool). unless t (Size 2)) (le-leb (n d) _ (subst (λ (n : ℕ). n ≤ (s d).args.room) (n-is d) c.if-part_size-k.true)))

pub returns-else-part_size-k : goal.returns-else-part_size-k
returns-else-part_size-k c = let d = c.before in sym (ap (λ (t : Bool). unless t (Size 2)) (lt-leb (n d) _ (omega (arith, n-is d, c.if-part_size-k.false))))
