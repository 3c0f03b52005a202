-- Floor quotient and remainder: what they leave, that they are the only ones, how they move, how code computes them.
use Rattle.std.specs.Prelude.{◌≡◌, refl, ℕ, zero, suc, ◌/◌, ◌^◌, ◌<◌, ◌≤◌, ℤ, pos, negsuc, neg_ℤ, nat_abs, ◌+ℤ◌, ◌-ℤ◌, ◌*ℤ◌, ◌≤ℤ◌, ◌<ℤ◌}
use Rattle.std.proofs.Common.{sym, ◌∙◌, ap, mod-lt, not-suc-le-zero, div-le_self, arith, ltb→lt, SFits}
use Rattle.std.proofs.Math.Nat.{div-add-mod, zero-div}
use Rattle.std.specs.Int.Signed.{quot_z, rem_z, shr_z, pos-nat_abs, yes_non_neg}
use Rattle.std.specs.Int.{w64}
use Rattle.integers.specs.Floor.{floor_div, floor_mod}
use Rattle.integers.specs.Laws.Difference.{D, abs-D, by_d, ints, by_d₂}
use Rattle.integers.specs.Laws.Signed.{slack<, trichotomy}

pub floor_mod-lt : (z : ℤ) (m : ℕ) → 0 < m → floor_mod z m < m
floor_mod-lt (pos n) m h = mod-lt n h
floor_mod-lt (negsuc n) m h = omega (arith, mod-lt n h)

pub floor-split : (z : ℤ) (m : ℕ) → 0 < m → z ≡ pos m *ℤ floor_div z m +ℤ pos (floor_mod z m)
floor-split (pos n) m h = ap pos (sym (div-add-mod n m))
floor-split (negsuc n) m h = simp ints (omega (arith, mod-lt n h, div-add-mod n m))

apart : (m r r' : ℕ) → r < m → r' < m → (q q' : ℤ) → q <ℤ q' → pos m *ℤ q +ℤ pos r ≡ pos m *ℤ q' +ℤ pos r' → ⊥
apart m r r' h h' = by_d _ λ q q''. slack< _ (D q q'') λ j. simp ints (omega arith)

rest : (m r r' : ℕ) (q : ℤ) → pos m *ℤ q +ℤ pos r ≡ pos m *ℤ q +ℤ pos r' → r ≡ r'
rest m r r' = by_d _ λ q q'. simp ints (omega arith)

module _ (m : ℕ) (r r' : ℕ) (h : r < m) (h' : r' < m) (q q' : ℤ) (e : pos m *ℤ q +ℤ pos r ≡ pos m *ℤ q' +ℤ pos r') where
  pub div-unique : (q ≡ q') × (r ≡ r')
  div-unique = trichotomy q q' (λ l. absurd (apart m r r' h h' q q' l e)) (λ p. (p, rest m r r' q' (rw p at e))) (λ l. absurd (apart m r' r h' h q' q l (sym e)))

pub floor-unique : (z : ℤ) (m : ℕ) (q : ℤ) (r : ℕ) → r < m → z ≡ pos m *ℤ q +ℤ pos r → (floor_div z m ≡ q) × (floor_mod z m ≡ r)
floor-unique z m q r h e = let m> : 0 < m = omega arith in div-unique m (floor_mod z m) r (floor_mod-lt z m m>) h (floor_div z m) q (sym (floor-split z m m>) ∙ e)

pub floor-add : (z k : ℤ) (m : ℕ) → 0 < m → (floor_div (z +ℤ pos m *ℤ k) m ≡ floor_div z m +ℤ k) × (floor_mod (z +ℤ pos m *ℤ k) m ≡ floor_mod z m)
floor-add z k m h = floor-unique _ m _ _ (floor_mod-lt z m h) (ap (λ (x : ℤ). x +ℤ pos m *ℤ k) (floor-split z m h) ∙ e (floor_div z m) k)
  where
    e : (q k : ℤ) → pos m *ℤ q +ℤ pos (floor_mod z m) +ℤ pos m *ℤ k ≡ pos m *ℤ (q +ℤ k) +ℤ pos (floor_mod z m)
    e = by_d₂ _ λ _ _ _ _. simp ints (omega arith)

-- how code computes it from the quotient that rounds toward zero
pub floor_div-quot : (x m : ℤ) → pos 0 ≤ℤ x → pos 1 ≤ℤ m → quot_z x m ≡ floor_div x (nat_abs m)
floor_div-quot (pos a) (pos b) h k = refl
floor_div-quot (pos a) (negsuc b) h k = absurd k.le
floor_div-quot (negsuc a) m h k = absurd h.le

quot-neg : (a b : ℕ) → quot_z (neg_ℤ (pos a)) (pos (suc b)) ≡ neg_ℤ (pos (a / suc b))
quot-neg zero b = rw (zero-div (suc b))
quot-neg (suc a) b = refl

down-one : (a : ℕ) → negsuc a +ℤ pos 1 ≡ neg_ℤ (pos a)
down-one a = simp ints (omega arith)

one_less : (a : ℕ) → neg_ℤ (pos a) -ℤ pos 1 ≡ negsuc a
one_less a = simp ints (omega arith)

pub floor_div-quot-neg : (x m : ℤ) → x <ℤ pos 0 → pos 1 ≤ℤ m → quot_z (x +ℤ pos 1) m -ℤ pos 1 ≡ floor_div x (nat_abs m)
floor_div-quot-neg (pos a) m h k = absurd (not-suc-le-zero (ltb→lt a 0 h.lt))
floor_div-quot-neg (negsuc a) (pos zero) h k = absurd k.le
floor_div-quot-neg (negsuc a) (pos (suc b)) h k = rw (down-one a, quot-neg a b) (one_less (a / suc b))
floor_div-quot-neg (negsuc a) (negsuc b) h k = absurd k.le

-- a shift to the right divides by a power of two and rounds down
pub floor_div-shr : (x : ℤ) (m : ℕ) → shr_z x m ≡ floor_div x m
floor_div-shr (pos a) m = refl
floor_div-shr (negsuc a) m = refl

-- the machine's remainder, which has the dividend's sign
pub quot-rem : (x : ℤ) (m : ℕ) → x ≡ pos m *ℤ quot_z x (pos m) +ℤ rem_z x (pos m)
quot-rem (pos a) m = ap pos (sym (div-add-mod a m))
quot-rem (negsuc a) m = simp ints (omega (arith, div-add-mod (suc a) m))

pub rem_lt : (x : ℤ) (m : ℕ) → 0 < m → nat_abs (rem_z x (pos m)) < m
rem_lt (pos a) m h = mod-lt a h
rem_lt (negsuc a) m h = simp (ints, abs-D) (omega (arith, mod-lt (suc a) h))

-- it is the floor's remainder where it is not negative, and m less where it is
pub floor_mod-rem : (x : ℤ) (m : ℕ) → 0 < m → pos 0 ≤ℤ rem_z x (pos m) → rem_z x (pos m) ≡ pos (floor_mod x m)
floor_mod-rem x m h k =
    let r : ℤ = rem_z x (pos m) in let q : ℤ = quot_z x (pos m) in
    let e : r ≡ pos (nat_abs r) = sym (pos-nat_abs r (yes_non_neg k)) in
    e ∙ ap pos (sym (floor-unique x m q (nat_abs r) (rem_lt x m h) (quot-rem x m ∙ ap (λ (t : ℤ). pos m *ℤ q +ℤ t) e)).1)

lifted : (r : ℤ) (m : ℕ) → nat_abs r < m → r <ℤ pos 0 → (pos 0 ≤ℤ (r +ℤ pos m)) × (nat_abs (r +ℤ pos m) < m)
lifted r m = by_d (λ r. nat_abs r < m → r <ℤ pos 0 → (pos 0 ≤ℤ (r +ℤ pos m)) × (nat_abs (r +ℤ pos m) < m)) (λ _ _. simp (ints, abs-D) (omega arith)) r

lower : (m : ℕ) (q r : ℤ) → pos m *ℤ q +ℤ r ≡ pos m *ℤ (q -ℤ pos 1) +ℤ (r +ℤ pos m)
lower m = by_d₂ _ λ _ _ _ _. simp ints (omega arith)

pub floor_mod-rem-neg : (x : ℤ) (m : ℕ) → 0 < m → rem_z x (pos m) <ℤ pos 0 → rem_z x (pos m) +ℤ pos m ≡ pos (floor_mod x m)
floor_mod-rem-neg x m h k =
    let r : ℤ = rem_z x (pos m) in let q : ℤ = quot_z x (pos m) in let l = lifted r m (rem_lt x m h) k in
    let e : r +ℤ pos m ≡ pos (nat_abs (r +ℤ pos m)) = sym (pos-nat_abs (r +ℤ pos m) (yes_non_neg l.0)) in
    e ∙ ap pos (sym (floor-unique x m (q -ℤ pos 1) (nat_abs (r +ℤ pos m)) l.1 (quot-rem x m ∙ lower m q r ∙ ap (λ (t : ℤ). pos m *ℤ (q -ℤ pos 1) +ℤ t) e)).1)

-- the same of a divisor that is a positive ℤ, as code has it
pub by_pos {ℓ} : (P : ℤ → Type ℓ) → ((n : ℕ) → P (pos (suc n))) → (m : ℤ) → pos 1 ≤ℤ m → P m
by_pos P f (pos zero) h = absurd h.le
by_pos P f (pos (suc n)) h = f n
by_pos P f (negsuc n) h = absurd h.le

pub mod-rem : (x m : ℤ) → pos 1 ≤ℤ m → pos 0 ≤ℤ rem_z x m → rem_z x m ≡ pos (floor_mod x (nat_abs m))
mod-rem x = by_pos _ λ n. floor_mod-rem x (suc n) (omega arith)

pub mod-rem-neg : (x m : ℤ) → pos 1 ≤ℤ m → rem_z x m <ℤ pos 0 → rem_z x m +ℤ m ≡ pos (floor_mod x (nat_abs m))
mod-rem-neg x = by_pos _ λ n. floor_mod-rem-neg x (suc n) (omega arith)

-- ---- what fits an i64

pub fits-floor_div : (x : ℤ) (m : ℕ) → SFits w64 x → SFits w64 (floor_div x m)
fits-floor_div (pos a) m h = record { sfits = omega (arith, h.sfits, div-le_self a m) }
fits-floor_div (negsuc a) m h = record { sfits = omega (arith, h.sfits, div-le_self a m) }

fits-minus : (n : ℕ) → n ≤ 2 ^ 63 → SFits w64 (neg_ℤ (pos n))
fits-minus zero h = record { sfits = omega arith }
fits-minus (suc n) h = record { sfits = omega arith }

-- a quotient by a positive number fits where the dividend does
pub fits-quot-pos : (x m : ℤ) → SFits w64 x → pos 1 ≤ℤ m → SFits w64 (quot_z x m)
fits-quot-pos (pos a) (pos b) h k = record { sfits = omega (arith, h.sfits, div-le_self a b) }
fits-quot-pos (pos a) (negsuc b) h k = absurd k.le
fits-quot-pos (negsuc a) (pos zero) h k = absurd k.le
fits-quot-pos (negsuc a) (pos (suc b)) h k = fits-minus (suc a / suc b) (omega (arith, h.sfits, div-le_self (suc a) (suc b)))
fits-quot-pos (negsuc a) (negsuc b) h k = absurd k.le

-- a negative number is not the greatest
pub fits_next : (x : ℤ) → SFits w64 x → x <ℤ pos 0 → SFits w64 (x +ℤ pos 1)
fits_next = by_d _ λ _ _. simp ints (omega arith)

pub abs-pos : (m : ℤ) → pos 1 ≤ℤ m → 0 < nat_abs m
abs-pos = by_pos _ λ n. omega arith
