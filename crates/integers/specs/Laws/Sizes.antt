-- Sizes of integers, and what fits an i64. A bound is stated as `nat_abs x ≤ B`, which omega reads.
use Rattle.std.specs.Prelude.{◌≡◌, refl, Bool, true, false, not, ℕ, zero, suc, ◌+◌, ◌*◌, ◌/◌, ◌^◌, ◌<◌, ◌≤◌, T, ℤ, pos, negsuc, neg_ℤ, nat_abs, ◌+ℤ◌, ◌-ℤ◌, ◌*ℤ◌, ◌≤ℤ◌, ◌<ℤ◌}
use Rattle.std.proofs.Common.{sym, subst, ⊎_elim, mul-le-mul, div-le_self, arith}
use Rattle.std.specs.Int.Signed.{le_z, lt_z, clash_ℤ, quot_z, rem_z, mag_rem}
use Rattle.std.specs.Int.{w64, Width}
use mir.Val.{SFits, of_z, hbits}
use Rattle.integers.specs.Laws.Difference.{abs-D, ints, by_d₂}
use Rattle.integers.specs.Laws.Signed.{≤ℤ-or-<ℤ}

pub abs_neg : (x : ℤ) → nat_abs (neg_ℤ x) ≡ nat_abs x
abs_neg (pos zero) = refl
abs_neg (pos (suc n)) = refl
abs_neg (negsuc n) = refl

pub abs-add : (x y : ℤ) → nat_abs (x +ℤ y) ≤ nat_abs x + nat_abs y
abs-add = by_d₂ _ λ _ _ _ _. simp (ints, abs-D) (omega arith)

pub abs-sub : (x y : ℤ) → nat_abs (x -ℤ y) ≤ nat_abs x + nat_abs y
abs-sub = by_d₂ _ λ _ _ _ _. simp (ints, abs-D) (omega arith)

pub abs-mul : (x y : ℤ) → nat_abs (x *ℤ y) ≡ nat_abs x * nat_abs y
abs-mul (pos a) (pos b) = refl
abs-mul (pos a) (negsuc b) = abs_neg (pos (a * suc b))
abs-mul (negsuc a) (pos b) = abs_neg (pos (suc a * b))
abs-mul (negsuc a) (negsuc b) = refl

pub abs-mul-le : (x y : ℤ) {m n : ℕ} → nat_abs x ≤ m → nat_abs y ≤ n → nat_abs (x *ℤ y) ≤ m * n
abs-mul-le x y h k = rw (abs-mul x y) (mul-le-mul h k)

-- a number is no larger than another and what lies between them
pub abs-from : (x z : ℤ) → nat_abs z ≤ nat_abs x + nat_abs (x -ℤ z)
abs-from = by_d₂ _ λ _ _ _ _. simp (ints, abs-D) (omega arith)

pub abs-near : (x z : ℤ) → nat_abs x ≤ nat_abs z + nat_abs (x -ℤ z)
abs-near = by_d₂ _ λ _ _ _ _. simp (ints, abs-D) (omega arith)

-- a multiple of a number is no smaller
pub abs-times : (s y : ℤ) → 0 < nat_abs s → nat_abs y ≤ nat_abs (s *ℤ y)
abs-times s y h = rw (abs-mul s y) (go (nat_abs s) h)
  where
    go : (m : ℕ) → 0 < m → nat_abs y ≤ m * nat_abs y
    go zero l = absurd (omega arith)
    go (suc m) l = omega arith

pub abs-quot : (x y : ℤ) → nat_abs (quot_z x y) ≤ nat_abs x
abs-quot (pos a) (pos b) = div-le_self a b
abs-quot (pos a) (negsuc b) = rw (abs_neg (pos (a / suc b))) (div-le_self a (suc b))
abs-quot (negsuc a) (pos b) = rw (abs_neg (pos (suc a / b))) (div-le_self (suc a) b)
abs-quot (negsuc a) (negsuc b) = div-le_self (suc a) (suc b)

-- a number that is small enough fits, at any width
pub fits-mag : (w : Width) (z : ℤ) → nat_abs z < 2 ^ hbits w → SFits w z
fits-mag w (pos n) h = record { sfits = h }
fits-mag w (negsuc n) h = record { sfits = omega arith }

pub fits-abs : (z : ℤ) → nat_abs z < 2 ^ 63 → SFits w64 z
fits-abs = fits-mag w64

pub abs-fits : (z : ℤ) → SFits w64 z → nat_abs z ≤ 2 ^ 63
abs-fits (pos n) h = omega (arith, h.sfits)
abs-fits (negsuc n) h = omega (arith, h.sfits)

pub fits-add : (x y : ℤ) → nat_abs x + nat_abs y < 2 ^ 63 → SFits w64 (x +ℤ y)
fits-add x y h = fits-abs _ (omega (arith, abs-add x y))

pub fits_sub : (x y : ℤ) → nat_abs x + nat_abs y < 2 ^ 63 → SFits w64 (x -ℤ y)
fits_sub x y h = fits-abs _ (omega (arith, abs-sub x y))

pub fits-mul : (x y : ℤ) (m n : ℕ) → nat_abs x ≤ m → nat_abs y ≤ n → m * n < 2 ^ 63 → SFits w64 (x *ℤ y)
fits-mul x y m n hx hy h = fits-abs _ (omega (arith, abs-mul-le x y hx hy))

pub fits-quot : (x y : ℤ) → nat_abs x < 2 ^ 63 → SFits w64 (quot_z x y)
fits-quot x y h = fits-abs _ (omega (arith, abs-quot x y))

-- a positive integer has positive bits: what a division asks of its divisor
pub bits_pos : (m : ℤ) → pos 1 ≤ℤ m → 0 < of_z w64 m
bits_pos (pos zero) h = absurd h.le
bits_pos (pos (suc n)) h = omega arith
bits_pos (negsuc n) h = absurd h.le

-- a signed test that the code made
pub le_z-true : (a b : ℤ) → le_z a b ≡ true → a ≤ℤ b
le_z-true a b e = record { le = subst T (sym e) tt }

pub le_z-false : (a b : ℤ) → le_z a b ≡ false → b <ℤ a
le_z-false a b e = ⊎_elim (λ h. absurd (subst T e h.le)) (λ h. h) (≤ℤ-or-<ℤ a b)

pub lt_z-true : (a b : ℤ) → lt_z a b ≡ true → a <ℤ b
lt_z-true a b e = record { lt = subst T (sym e) tt }

pub lt_z-false : (a b : ℤ) → lt_z a b ≡ false → b ≤ℤ a
lt_z-false a b e = ⊎_elim (λ h. h) (λ h. absurd (subst T e h.lt)) (≤ℤ-or-<ℤ b a)

pub fits-rem : (x m : ℤ) → SFits w64 x → SFits w64 (rem_z x m)
fits-rem x m h = record { sfits = omega (arith, mag_rem x m, h.sfits) }

-- a test is the other way round where it fails
pub le_z-not : (a b : ℤ) (t : Bool) → lt_z b a ≡ t → le_z a b ≡ not t
le_z-not a b t e = go t e (le_z a b) refl
  where
    go : (t : Bool) → lt_z b a ≡ t → (u : Bool) → le_z a b ≡ u → u ≡ not t
    go true e true f = clash_ℤ (lt_z-true b a e) (le_z-true a b f)
    go true e false f = refl
    go false e true f = refl
    go false e false f = clash_ℤ (le_z-false a b f) (lt_z-false b a e)

pub lt_z-not : (a b : ℤ) (t : Bool) → le_z b a ≡ t → lt_z a b ≡ not t
lt_z-not a b t e = go t e (lt_z a b) refl
  where
    go : (t : Bool) → le_z b a ≡ t → (u : Bool) → lt_z a b ≡ u → u ≡ not t
    go true e true f = clash_ℤ (lt_z-true a b f) (le_z-true b a e)
    go true e false f = refl
    go false e true f = refl
    go false e false f = clash_ℤ (le_z-false b a e) (lt_z-false a b f)
