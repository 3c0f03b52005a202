-- `left` fills its result by what is left at each entry.
use mathlib.Core.Path.{◌≡◌, refl, sym, ◌∙◌, ap, ap₂}
use mathlib.Core.List.{List}
use mathlib.Core.Bool.{Bool, true, false, cond}
use Prim.Native.Nat.{ℕ, ◌<◌, ◌≤◌}
use native.Mathlib.Nat.{zero-add}
use native.Mathlib.Omega.{arith}
use lib.Dec.{eqb}
use lib.IntN.{ℤ, pos, nat_abs, ◌+ℤ◌, ◌-ℤ◌, ◌*ℤ◌}
use lib.ListN.{get_or}
use mir.Syntax.{w16}
use mir.Val.{SFits}
use mir.Facts.{to_z-of_z}
use Rattle.integers.specs.Laws.Loops.{filled_more, range_at}
use Rattle.integers.specs.Laws.Sizes.{abs-add, abs-sub, abs-mul-le, fits-mag}
use Rattle.integers.specs.Vectors.{«at», range, Sized}
use Rattle.rounding.proofs.Laws.Choice.{sign_small}
use Rattle.columns.specs.Narrow.{Few, left_at}
use Rattle.rounding.specs.Pass.{Choice}
use Rattle.rounding.specs.Rounding.{sign}
use Rattle.columns.proofs.narrow.left.Goals as goal

step≤ : (b : Bool) (t : ℤ) → nat_abs t ≤ 2 → nat_abs (cond b t (pos 0)) ≤ 2
step≤ true t h = h
step≤ false t h = omega arith

small-fits : (z : ℤ) → nat_abs z ≤ 64 → SFits w16 z
small-fits z h = fits-mag w16 z (omega arith)

-- the way w and the step t that were read at the entry j
pub record Read (s : ℤ) (h : Choice) (a : List ℤ) (j : ℕ) (w t : ℤ) : Type 0 where
  pub s≤ : nat_abs s ≤ 16
  pub x≤ : nat_abs («at» a j) ≤ 16
  pub p≤ : nat_abs h.parity ≤ 1
  pub t≤ : nat_abs h.step ≤ 2
  pub w-is : w ≡ sign («at» a j)
  pub t-is : t ≡ cond (eqb j h.place) h.step (pos 0)

module _ {s : ℤ} {h : Choice} {a : List ℤ} {j : ℕ} {w t : ℤ} (r : Read s h a j w t) where
  w≤ : nat_abs w ≤ 1
  w≤ = rw r.w-is (sign_small («at» a j))

  pw≤ : nat_abs (h.parity *ℤ w) ≤ 1
  pw≤ = abs-mul-le h.parity w {m = 1} {n = 1} r.p≤ w≤

  step : nat_abs t ≤ 2
  step = rw r.t-is (step≤ (eqb j h.place) h.step r.t≤)

  sum≤ : nat_abs (h.parity *ℤ w +ℤ t) ≤ 3
  sum≤ = omega (arith, abs-add (h.parity *ℤ w) t, pw≤, step)

  times≤ : nat_abs (s *ℤ (h.parity *ℤ w +ℤ t)) ≤ 48
  times≤ = abs-mul-le s (h.parity *ℤ w +ℤ t) r.s≤ sum≤

  fw : SFits w16 w
  fw = small-fits w (omega (arith, w≤))

  ft : SFits w16 t
  ft = small-fits t (omega (arith, step))

  fpw : SFits w16 (h.parity *ℤ w)
  fpw = small-fits _ (omega (arith, pw≤))

  fsum : SFits w16 (h.parity *ℤ w +ℤ t)
  fsum = small-fits _ (omega (arith, sum≤))

  ftimes : SFits w16 (s *ℤ (h.parity *ℤ w +ℤ t))
  ftimes = small-fits _ (omega (arith, times≤))

  fall : SFits w16 («at» a j -ℤ s *ℤ (h.parity *ℤ w +ℤ t))
  fall = small-fits _ (omega (arith, abs-sub («at» a j) (s *ℤ (h.parity *ℤ w +ℤ t)), times≤, r.x≤))

  is : j < 8 → «at» a j -ℤ s *ℤ (h.parity *ℤ w +ℤ t) ≡ left_at s h a (get_or (range 0 8) j 0)
  is j< = ap₂ (λ (w t : ℤ). «at» a j -ℤ s *ℤ (h.parity *ℤ w +ℤ t)) r.w-is r.t-is ∙ ap (left_at s h a) (sym (range_at (λ (k : ℕ). k) 0 8 j 0 j< ∙ zero-add j))

entry-fits : (a : List ℤ) (j : ℕ) → Sized 8 16 a → SFits w16 («at» a j)
entry-fits a j h = small-fits («at» a j) (omega (arith, h.small j))

parity-fits : (h : Choice) → nat_abs h.parity ≤ 1 → SFits w16 h.parity
parity-fits h l = small-fits h.parity (omega (arith, l))

step-fits : (h : Choice) → nat_abs h.step ≤ 2 → SFits w16 h.step
step-fits h l = small-fits h.step (omega (arith, l))

read : {s : ℤ} {h : Choice} {a : List ℤ} {j : ℕ} {w t : ℤ} → Sized 8 16 a → Few s → nat_abs h.parity ≤ 1 → nat_abs h.step ≤ 2 → w ≡ sign («at» a j) → t ≡ cond (eqb j h.place) h.step (pos 0) → Read s h a j w t
read {s} {h} {a} {j} l k p m e f = record { s≤ = k.most; x≤ = l.small j; p≤ = p; t≤ = m; w-is = e; t-is = f }

pub overflow_add-r : goal.overflow_add-r
overflow_add-r c = let q = c.requires in let h = c.args.c in let fx = entry-fits c.args.a.now c.loop-j.j q.0 in
    let r = read {s = c.args.s} {h = h} q.0 q.1 q.2 q.3 (simp (to_z-of_z, fx) at c.sign.ensures) (simp (to_z-of_z, step-fits h q.3) at c.either-step.ensures) in
    simp (to_z-of_z, parity-fits h q.2, fw r, fpw r, ft r) (fsum r)

pub overflow_mul-r-in-loop-j : goal.overflow_mul-r-in-loop-j
overflow_mul-r-in-loop-j c = let q = c.requires in let h = c.args.c in let fx = entry-fits c.args.a.now c.loop-j.j q.0 in
    let r = read {s = c.args.s} {h = h} q.0 q.1 q.2 q.3 (simp (to_z-of_z, fx) at c.sign.ensures) (simp (to_z-of_z, step-fits h q.3) at c.either-step.ensures) in
    simp (to_z-of_z, c.ranges.s, parity-fits h q.2, fw r, fpw r, ft r, fsum r) (ftimes r)

pub overflow_sub-r : goal.overflow_sub-r
overflow_sub-r c = let q = c.requires in let h = c.args.c in let fx = entry-fits c.args.a.now c.loop-j.j q.0 in
    let r = read {s = c.args.s} {h = h} q.0 q.1 q.2 q.3 (simp (to_z-of_z, fx) at c.sign.ensures) (simp (to_z-of_z, step-fits h q.3) at c.either-step.ensures) in
    simp (to_z-of_z, c.ranges.s, fx, parity-fits h q.2, fw r, fpw r, ft r, fsum r, ftimes r) (fall r)

pub loop-j-preserved : goal.loop-j-preserved
loop-j-preserved c = let q = c.requires in let h = c.args.c in let fx = entry-fits c.args.a.now c.loop-j.j q.0 in
    let r = read {s = c.args.s} {h = h} q.0 q.1 q.2 q.3 (simp (to_z-of_z, fx) at c.sign.ensures) (simp (to_z-of_z, step-fits h q.3) at c.either-step.ensures) in
    simp (to_z-of_z, c.ranges.s, fx, parity-fits h q.2, fw r, fpw r, ft r, fsum r, ftimes r, fall r)
    (filled_more (left_at c.args.s h c.args.a.now) 8 (range 0 8) refl 0 _ (is r c.loop-j-test.true) (omega arith) (simp (to_z-of_z, c.ranges.s) at c.loop-j.invariant))
