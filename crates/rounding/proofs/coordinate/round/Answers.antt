-- `round` is the nearest whole number, the lower of two: the guess by the reciprocal, and one more where that leaves more than half.
use mathlib.Core.Path.{◌≡◌, ap₂}
use Prim.Native.Nat.{◌≤◌}
use native.Mathlib.Omega.{arith}
use lib.IntN.{ℤ, pos, nat_abs, ◌+ℤ◌, ◌-ℤ◌, ◌*ℤ◌}
use lib.Signed.{◌≤ℤ◌, ◌<ℤ◌, shr_z, mag_shr}
use mir.Syntax.{w64}
use mir.Val.{SFits}
use mir.Facts.{to_z-of_z}
use Rattle.integers.specs.Laws.Sizes.{abs-mul-le, fits-abs, fits-add, fits_sub, fits-mul, lt_z-true, lt_z-false}
use Rattle.rounding.proofs.Laws.Reciprocals.{left-small, round-small, reciprocal-small, y-small, mq-small, code-next, code-right}
use Rattle.rounding.specs.Rounding.{round, left}
use Rattle.rounding.proofs.coordinate.round.Goals as goal
use Rattle.rounding.proofs.coordinate.round.Goals.{Start, Then-r-s}

module _ (c : Start) where
  abbrev s : ℤ
  s = c.args.s

  abbrev x : ℤ
  x = c.args.x

  abbrev w : ℤ
  w = c.args.w

  abbrev y : ℤ
  y = x +ℤ s -ℤ pos 1

  abbrev z : ℤ
  z = y *ℤ w -ℤ pos 2147483648

  abbrev q : ℤ
  q = shr_z z 4294967296

  abbrev r : ℤ
  r = x -ℤ (s +ℤ s) *ℤ q

  fm : SFits w64 (s +ℤ s)
  fm = fits-add s s (omega (arith, c.requires.0.most))

  fxs : SFits w64 (x +ℤ s)
  fxs = fits-add x s (omega (arith, c.requires.0.most))

  y≤ : nat_abs y ≤ 2147483648
  y≤ = y-small s x w c.requires.0 c.requires.1 c.requires.2

  w≤ : nat_abs w ≤ 2147483648
  w≤ = rw c.requires.2 (reciprocal-small s c.requires.0.least)

  fy : SFits w64 y
  fy = fits-abs y (omega (arith, y≤))

  fyw : SFits w64 (y *ℤ w)
  fyw = fits-mul y w 2147483648 2147483648 y≤ w≤ (omega arith)

  fz : SFits w64 z
  fz = fits_sub (y *ℤ w) (pos 2147483648) (omega (arith, abs-mul-le y w y≤ w≤))

  fq : SFits w64 q
  fq = record { sfits = omega (arith, mag_shr z 4294967296, fz.sfits) }

  fmq : SFits w64 ((s +ℤ s) *ℤ q)
  fmq = fits-abs _ (omega (arith, mq-small s x w c.requires.0 c.requires.1 c.requires.2))

  fr : SFits w64 r
  fr = fits_sub x ((s +ℤ s) *ℤ q) (omega (arith, mq-small s x w c.requires.0 c.requires.1 c.requires.2))

  -- where the guess is one too low
  module _ (l : s <ℤ r) where
    next : (q +ℤ pos 1 ≡ round (pos 2 *ℤ s) x) × (r -ℤ (s +ℤ s) ≡ left (pos 2 *ℤ s) x)
    next = code-next s x w c.requires.0 c.requires.1 c.requires.2 l

    fq1 : SFits w64 (q +ℤ pos 1)
    fq1 = rw next.0 (fits-abs _ (omega (arith, round-small s c.requires.0 x)))

    frm : SFits w64 (r -ℤ (s +ℤ s))
    frm = rw next.1 (fits-abs _ (omega (arith, left-small s c.requires.0 x, c.requires.0.most)))

pub overflow_add-m : goal.overflow_add-m
overflow_add-m c = simp (to_z-of_z, c.ranges.s) (fm c)

pub overflow_add-q : goal.overflow_add-q
overflow_add-q c = simp (to_z-of_z, c.ranges.s, c.ranges.x) (fxs c)

pub overflow_sub-q : goal.overflow_sub-q
overflow_sub-q c = simp (to_z-of_z, c.ranges.s, c.ranges.x, fxs c) (fy c)

pub overflow_mul-q : goal.overflow_mul-q
overflow_mul-q c = simp (to_z-of_z, c.ranges.s, c.ranges.x, c.ranges.w, fxs c, fy c) (fyw c)

pub overflow_sub-q-2 : goal.overflow_sub-q-2
overflow_sub-q-2 c = simp (to_z-of_z, c.ranges.s, c.ranges.x, c.ranges.w, fxs c, fy c, fyw c) (fz c)

pub overflow_mul-r : goal.overflow_mul-r
overflow_mul-r c = simp (to_z-of_z, c.ranges.s, c.ranges.x, c.ranges.w, fxs c, fy c, fyw c, fz c, fq c, fm c) (fmq c)

pub overflow_sub-r : goal.overflow_sub-r
overflow_sub-r c = simp (to_z-of_z, c.ranges.s, c.ranges.x, c.ranges.w, fxs c, fy c, fyw c, fz c, fq c, fm c, fmq c) (fr c)

more : (c : Then-r-s) → s c.before <ℤ r c.before
more c = let b = c.before in lt_z-true (s b) (r b) (simp (to_z-of_z, b.ranges.s, b.ranges.x, b.ranges.w, fxs b, fy b, fyw b, fz b, fq b, fm b, fmq b, fr b) at c.if-r-s.true)

pub overflow_add-result : goal.overflow_add-result
overflow_add-result c = let b = c.before in simp (to_z-of_z, b.ranges.s, b.ranges.x, b.ranges.w, fxs b, fy b, fyw b, fz b, fq b) (fq1 b (more c))

pub overflow_sub-result : goal.overflow_sub-result
overflow_sub-result c = let b = c.before in simp (to_z-of_z, b.ranges.s, b.ranges.x, b.ranges.w, fxs b, fy b, fyw b, fz b, fq b, fm b, fmq b, fr b) (frm b (more c))

pub returns-then-r-s : goal.returns-then-r-s
returns-then-r-s c = let b = c.before in let l = more c in simp (to_z-of_z, b.ranges.s, b.ranges.x, b.ranges.w, fxs b, fy b, fyw b, fz b, fq b, fm b, fmq b, fr b, fq1 b l, frm b l)
    (ap₂ (λ (f a : ℤ). record { whole = f; rest = a }) (next b l).0 (next b l).1)

pub returns-else-r-s : goal.returns-else-r-s
returns-else-r-s c = let b = c.before in
    let l : r b ≤ℤ s b = lt_z-false (s b) (r b) (simp (to_z-of_z, b.ranges.s, b.ranges.x, b.ranges.w, fxs b, fy b, fyw b, fz b, fq b, fm b, fmq b, fr b) at c.if-r-s.false) in
    let n = code-right (s b) (x b) (w b) b.requires.0 b.requires.1 b.requires.2 l in
    simp (to_z-of_z, b.ranges.s, b.ranges.x, b.ranges.w, fxs b, fy b, fyw b, fz b, fq b, fm b, fmq b, fr b) (ap₂ (λ (f a : ℤ). record { whole = f; rest = a }) n.0 n.1)
