-- `remainder` is the floor's remainder: what the guess leaves is below 2 m, and m less where it is not below m.
use mathlib.Core.Path.{◌≡◌, sym, ◌∙◌, ap, subst₂}
use Prim.Native.Nat.{ℕ, ◌*◌, ◌≤◌}
use native.Mathlib.Omega.{arith}
use lib.IntN.{ℤ, pos, nat_abs, ◌-ℤ◌, ◌*ℤ◌}
use lib.Signed.{◌≤ℤ◌, ◌<ℤ◌, shr_z, mag_shr, pos-nat_abs, yes_non_neg}
use mir.Syntax.{w64}
use mir.Val.{SFits}
use mir.Facts.{to_z-of_z}
use Rattle.integers.specs.Floor.{floor_div, floor_mod}
use Rattle.integers.specs.Laws.Floors.{floor_mod-lt, floor_div-shr, abs-pos}
use Rattle.integers.specs.Laws.Reciprocals.{guess, guess-ok, reciprocal-small, two-least, below, left-mod, left-mod-more}
use Rattle.integers.specs.Laws.Signed.{≤ℤ-trans}
use Rattle.integers.specs.Laws.Sizes.{abs-mul-le, abs-from, fits-abs, fits_sub, fits-mul, lt_z-true, lt_z-false}
use Rattle.integers.proofs.remainder.Goals as goal
use Rattle.integers.proofs.remainder.Goals.{Else-r-m, Start, Then-r-m}

module _ (c : Start) where
  abbrev x : ℤ
  x = c.args.x

  abbrev m : ℤ
  m = c.args.m

  abbrev w : ℤ
  w = c.args.w

  abbrev z : ℤ
  z = x *ℤ w -ℤ pos 2147483648

  abbrev t : ℤ
  t = shr_z z 4294967296

  abbrev n : ℕ
  n = nat_abs m

  least : pos 1 ≤ℤ m
  least = ≤ℤ-trans (pos 1) (pos 2) m (record { le = tt }) c.requires.0

  m-is : m ≡ pos n
  m-is = sym (pos-nat_abs m (yes_non_neg (≤ℤ-trans (pos 0) (pos 2) m (record { le = tt }) c.requires.0)))

  w≤ : nat_abs w ≤ 2147483648
  w≤ = rw c.requires.3 (reciprocal-small n (two-least m c.requires.0))

  t-is : t ≡ guess n x
  unfolding guess
  t-is = floor_div-shr z 4294967296 ∙ ap (λ (v : ℤ). floor_div (x *ℤ v -ℤ pos 2147483648) 4294967296) c.requires.3

  left : (pos 0 ≤ℤ (x -ℤ pos n *ℤ t)) × ((x -ℤ pos n *ℤ t) <ℤ pos (2 * n))
  left = rw t-is (guess-ok n (abs-pos m least) x c.requires.2)

  fxw : SFits w64 (x *ℤ w)
  fxw = fits-mul x w 2147483648 2147483648 c.requires.2 w≤ (omega arith)

  fz : SFits w64 z
  fz = fits_sub (x *ℤ w) (pos 2147483648) (omega (arith, abs-mul-le x w {m = 2147483648} {n = 2147483648} c.requires.2 w≤))

  ft : SFits w64 t
  ft = record { sfits = omega (arith, mag_shr z 4294967296, fz.sfits) }

  fmt : SFits w64 (m *ℤ t)
  fmt = fits-abs (m *ℤ t) (omega (arith, ap (λ (k : ℤ). nat_abs (k *ℤ t)) m-is, abs-from x (pos n *ℤ t), below (2 * n) (x -ℤ pos n *ℤ t) left.0 left.1, c.requires.1, c.requires.2))

  r-is : x -ℤ m *ℤ t ≡ x -ℤ pos n *ℤ t
  r-is = ap (λ (k : ℤ). x -ℤ k *ℤ t) m-is

  fr : SFits w64 (x -ℤ m *ℤ t)
  fr = fits-abs _ (omega (arith, ap nat_abs r-is, below (2 * n) (x -ℤ pos n *ℤ t) left.0 left.1, c.requires.1))

pub overflow_mul-t : goal.overflow_mul-t
overflow_mul-t c = simp (to_z-of_z, c.ranges.x, c.ranges.w) (fxw c)

pub overflow_sub-t : goal.overflow_sub-t
overflow_sub-t c = simp (to_z-of_z, c.ranges.x, c.ranges.w, fxw c) (fz c)

pub overflow_mul-r : goal.overflow_mul-r
overflow_mul-r c = simp (to_z-of_z, c.ranges.x, c.ranges.w, c.ranges.m, fxw c, fz c, ft c) (fmt c)

pub overflow_sub-r : goal.overflow_sub-r
overflow_sub-r c = simp (to_z-of_z, c.ranges.x, c.ranges.w, c.ranges.m, fxw c, fz c, ft c, fmt c) (fr c)

-- where the guess is right, and where it is one too low
small : (c : Then-r-m) → let b = c.before in (x b -ℤ pos (n b) *ℤ t b) <ℤ pos (n b)
small c = let b = c.before in subst₂ ◌<ℤ◌ (r-is b) (m-is b) (lt_z-true (x b -ℤ m b *ℤ t b) (m b) (simp (to_z-of_z, b.ranges.x, b.ranges.w, b.ranges.m, fxw b, fz b, ft b, fmt b, fr b) at c.if-r-m.true))

large : (c : Else-r-m) → let b = c.before in pos (n b) ≤ℤ (x b -ℤ pos (n b) *ℤ t b)
large c = let b = c.before in subst₂ ◌≤ℤ◌ (m-is b) (r-is b) (lt_z-false (x b -ℤ m b *ℤ t b) (m b) (simp (to_z-of_z, b.ranges.x, b.ranges.w, b.ranges.m, fxw b, fz b, ft b, fmt b, fr b) at c.if-r-m.false))

rest-is : (c : Else-r-m) → let b = c.before in x b -ℤ m b *ℤ t b -ℤ m b ≡ pos (floor_mod (x b) (n b))
rest-is c = let b = c.before in ap (λ (k : ℤ). x b -ℤ k *ℤ t b -ℤ k) (m-is b) ∙ left-mod-more (n b) (x b) (t b) (left b).0 (left b).1 (large c)

fits-rest : (c : Else-r-m) → let b = c.before in SFits w64 (x b -ℤ m b *ℤ t b -ℤ m b)
fits-rest c = let b = c.before in rw (rest-is c) (fits-abs _ (omega (arith, floor_mod-lt (x b) (n b) (abs-pos (m b) (least b)), b.requires.1)))

pub overflow_sub-result : goal.overflow_sub-result
overflow_sub-result c = let b = c.before in simp (to_z-of_z, b.ranges.x, b.ranges.w, b.ranges.m, fxw b, fz b, ft b, fmt b, fr b) (fits-rest c)

pub returns-then-r-m : goal.returns-then-r-m
returns-then-r-m c = let b = c.before in simp (to_z-of_z, b.ranges.x, b.ranges.w, b.ranges.m, fxw b, fz b, ft b, fmt b, fr b)
    (r-is b ∙ left-mod (n b) (x b) (t b) (left b).0 (left b).1 (small c))

pub returns-else-r-m : goal.returns-else-r-m
returns-else-r-m c = let b = c.before in simp (to_z-of_z, b.ranges.x, b.ranges.w, b.ranges.m, fxw b, fz b, ft b, fmt b, fr b, fits-rest c) (rest-is c)
