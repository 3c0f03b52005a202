-- `odd` tests the parity: the machine's remainder by 2 is 0 or ±1, and its bits are 0 only where it is 0.
use mathlib.Core.Path.{◌≡◌, refl}
use mathlib.Core.Bool.{not}
use Prim.Native.Nat.{ℕ, zero, suc, ◌<◌}
use native.Mathlib.Nat.{mod-lt}
use native.Mathlib.Omega.{arith}
use lib.Dec.{eqb, lit<}
use lib.IntN.{ℤ, pos, negsuc, neg_ℤ}
use lib.Signed.{rem_z}
use mir.Syntax.{w64}
use mir.Val.{of_z}
use mir.Facts.{to_z-of_z}
use Rattle.integers.specs.Laws.Floors.{fits-quot-pos}
use Rattle.lattice.specs.Doubled.{par}
use Rattle.lattice.proofs.member.odd.Goals as goal

bit : (n : ℕ) → n < 2 → (not (eqb (of_z w64 (pos n)) 0) ≡ eqb n 1) × (not (eqb (of_z w64 (neg_ℤ (pos n))) 0) ≡ eqb n 1)
bit zero h = (refl, refl)
bit (suc zero) h = (refl, refl)
bit (suc (suc n)) h = absurd (omega arith)

bits : (t : ℤ) → not (eqb (of_z w64 (rem_z t (pos 2))) 0) ≡ eqb (par t) 1
bits (pos n) = (bit _ (mod-lt n (omega arith))).0
bits (negsuc n) = (bit _ (mod-lt (suc n) (omega arith))).1

pub nonzero_rem-result : goal.nonzero_rem-result
nonzero_rem-result c = simp (to_z-of_z, c.ranges.t) (lit< tt, fits-quot-pos c.args.t (pos 2) c.ranges.t (record { le = tt }))

pub returns : goal.returns
returns c = simp (to_z-of_z, c.ranges.t) (bits c.args.t)
