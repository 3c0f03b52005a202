-- `round` is the sum of its three comparisons.
use mathlib.Core.Path.{◌≡◌, sym, ◌∙◌, ap₂, subst}
use mathlib.Core.Bool.{Bool, cond}
use Prim.Native.Nat.{◌≤◌}
use native.Mathlib.Omega.{arith}
use lib.IntN.{ℤ, pos, nat_abs, ◌+ℤ◌, ◌-ℤ◌, ◌*ℤ◌}
use lib.Signed.{lt_z}
use mir.Syntax.{w16}
use mir.Val.{SFits}
use mir.Facts.{to_z-of_z}
use Rattle.integers.specs.Laws.Sizes.{abs-add, abs-sub, abs-mul, fits-mag}
use Rattle.rounding.proofs.Laws.Choice.{bit-small}
use Rattle.columns.specs.Laws.Narrow.{round-three}
use Rattle.rounding.specs.Rounding.{round}
use Rattle.columns.proofs.narrow.round.Goals as goal
use Rattle.columns.proofs.narrow.round.Goals.{After-above-2, After-above-3, Start}

abbrev bit : Bool → ℤ
bit b = cond b (pos 1) (pos 0)

small : (z : ℤ) (b : Bool) → z ≡ bit b → nat_abs z ≤ 1
small z b e = subst (λ (z : ℤ). nat_abs z ≤ 1) (sym e) (bit-small b)

module _ (b : Start) where
  abbrev s : ℤ
  s = b.args.s

  abbrev x : ℤ
  x = b.args.x

  f3 : SFits w16 (pos 3 *ℤ s)
  f3 = fits-mag w16 _ (omega (arith, abs-mul (pos 3) s, b.requires.0.most))

  f1 : SFits w16 (pos 1 -ℤ s)
  f1 = fits-mag w16 _ (omega (arith, abs-sub (pos 1) s, b.requires.0.most))

pub overflow_mul-s : goal.overflow_mul-s
overflow_mul-s c = simp (to_z-of_z, c.before.ranges.s) (f3 c.before)

-- the first two comparisons
module _ (c : After-above-2) where
  abbrev b₂ : Start
  b₂ = c.before.before

  abbrev u : ℤ
  u = c.before.above.result

  abbrev v : ℤ
  v = c.above-2.result

  u-is : u ≡ bit (lt_z (s b₂) (x b₂))
  u-is = simp (to_z-of_z, b₂.ranges.s, b₂.ranges.x) at c.before.above.ensures

  v-is : v ≡ bit (lt_z (pos 3 *ℤ s b₂) (x b₂))
  v-is = simp (to_z-of_z, b₂.ranges.s, b₂.ranges.x, f3 b₂) at c.above-2.ensures

  u≤ : nat_abs u ≤ 1
  u≤ = small u (lt_z (s b₂) (x b₂)) u-is

  v≤ : nat_abs v ≤ 1
  v≤ = small v (lt_z (pos 3 *ℤ s b₂) (x b₂)) v-is

  fu : SFits w16 u
  fu = record { sfits = c.before.above.type_inv }

  fv : SFits w16 v
  fv = record { sfits = c.above-2.type_inv }

  fuv : SFits w16 (u +ℤ v)
  fuv = fits-mag w16 _ (omega (arith, abs-add u v, u≤, v≤))

pub overflow_add-result : goal.overflow_add-result
overflow_add-result c = simp (to_z-of_z, fu c, fv c) (fuv c)

pub overflow_sub-s : goal.overflow_sub-s
overflow_sub-s c = simp (to_z-of_z, (b₂ c).ranges.s) (f1 (b₂ c))

-- and the third
module _ (c : After-above-3) where
  abbrev two : After-above-2
  two = c.before

  abbrev b₃ : Start
  b₃ = b₂ two

  abbrev w : ℤ
  w = c.above-3.result

  w-is : w ≡ bit (lt_z (x b₃) (pos 1 -ℤ s b₃))
  w-is = simp (to_z-of_z, b₃.ranges.s, b₃.ranges.x, f1 b₃) at c.above-3.ensures

  fw : SFits w16 w
  fw = record { sfits = c.above-3.type_inv }

  fuvw : SFits w16 (u two +ℤ v two -ℤ w)
  fuvw = fits-mag w16 _ (omega (arith, abs-sub (u two +ℤ v two) w, abs-add (u two) (v two), u≤ two, v≤ two, small w (lt_z (x b₃) (pos 1 -ℤ s b₃)) w-is))

  is : u two +ℤ v two -ℤ w ≡ round (pos 2 *ℤ s b₃) (x b₃)
  is = ap₂ ◌-ℤ◌ (ap₂ ◌+ℤ◌ (u-is two) (v-is two)) w-is ∙ round-three (s b₃) (x b₃) b₃.requires.0 b₃.requires.1

pub overflow_sub-result : goal.overflow_sub-result
overflow_sub-result c = simp (to_z-of_z, fu (two c), fv (two c), fuv (two c), fw c) (fuvw c)

pub returns : goal.returns
returns c = simp (to_z-of_z, fu (two c), fv (two c), fuv (two c), fw c, fuvw c) (is c)
