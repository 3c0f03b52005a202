-- Fractions in single precision: which are exact, and what a cast, a division by a power of two and a subtraction give.
use Rattle.std.specs.Prelude.{◌≡◌, Bool, not, cond, ◌&&◌, ℕ, zero, suc, ◌+◌, ◌*◌, ◌-◌, ◌^◌, ◌<◌, ◌≤◌, T, ltb, ℤ, negsuc, nat_abs, ◌+ℤ◌, ◌-ℤ◌, ◌*ℤ◌, Float}
use Rattle.std.proofs.Math.Path.{refl, ap, ap₂}
use Rattle.std.proofs.Common.{sym, ◌∙◌, subst, inl, inr, true≢false, zero-le, eq-or-lt_of_le, lt_of_lt_of_le, mul_assoc, one-mul, zero-lt-suc, arith, ltb-true, ltb-false, le→leb, lt→ltb, lit<, pow-add, pow_pos, pow_mono, shl_lt}
use Rattle.std.proofs.Math.Bool.{true, false}
use Rattle.std.proofs.lemmas.Bool.{false≢true}
use Rattle.std.proofs.Math.Nat.{mul-pos, mul-one}
use Rattle.std.proofs.Math.Pow.{pow-lt}
use Rattle.std.proofs.Math.IntN.{pos, neg_ℤ, neg_ℤ-neg_ℤ}
use Rattle.std.specs.Float.Ieee.{nan, binary32, up, down, round, neg, add, sum, sub, div, of_int, in_float, of_bits, fits, is_nan, unlike}
use Rattle.std.specs.Float.{inf, fin}
use Rattle.std.specs.Float.Ieee.Fits.{down_pos, round-fits}
use Rattle.std.specs.Float.Ieee.Exact.{HasValue, round_exact}
use Rattle.std.specs.Float.Ieee.Scale.{round_same}
use Rattle.integers.specs.Laws.Difference.{by_d, by_d₂, ints}
use Rattle.integers.specs.Laws.Signed.{neg-*ℤ}
use Rattle.readings.specs.Fractions.{signed, fraction, Exactly}
use Rattle.readings.proofs.Laws.Nearest.{signed-times}

-- ---- single precision holds every z / 2 ^ k with z up to 2 ^ 24 in magnitude

module _ (sign : Bool) (k : ℕ) (h : k ≤ 149) where
  split : (m i j : ℕ) → i + k ≡ j → m * 2 ^ j ≡ m * 2 ^ i * 2 ^ k
  split m i j p = ap (λ (x : ℕ). m * 2 ^ x) (sym p) ∙ ap (λ (x : ℕ). m * x) (pow-add 2 i k) ∙ sym (mul_assoc m (2 ^ i) (2 ^ k))

  held : (n : ℕ) → n ≤ 2 ^ 24 → HasValue (round binary32 sign n (2 ^ k)) sign n (2 ^ k)
  held n l = elim (eq-or-lt_of_le l) [
    | inl p ↦ subst (λ (x : ℕ). HasValue (round binary32 sign x (2 ^ k)) sign x (2 ^ k)) (sym p)
        (round_exact binary32 sign (2 ^ 24) (2 ^ k) 1 (173 - k) (pow_pos k) (lit< tt) (rw one-mul (pow-lt {j = 277} (omega arith))) (split 1 (173 - k) 173 (omega arith)))
    | inr p ↦ round_exact binary32 sign n (2 ^ k) n (149 - k) (pow_pos k) p (lt_of_lt_of_le (shl_lt {a = n} 24 (149 - k) p) (pow_mono {j = 277} (omega arith))) (split n (149 - k) 149 (omega arith))
  ]

pub fraction-exact : (z : ℤ) (k : ℕ) → nat_abs z ≤ 2 ^ 24 → k ≤ 149 → Exactly (fraction z (2 ^ k)) z (2 ^ k)
fraction-exact (pos n) k l h = held false k h n l
fraction-exact (negsuc n) k l h = held true k h (suc n) l

-- ---- a fraction is one float, however it is written

pub fraction-same : (y z : ℤ) (b c : ℕ) → 0 < b → 0 < c → y *ℤ pos c ≡ z *ℤ pos b → fraction y b ≡ fraction z c
fraction-same (pos m) (pos n) b c hb hc p = round_same binary32 false m b n c hb hc (ap nat_abs p)
fraction-same (pos m) (negsuc n) b c hb hc p = absurd (omega (arith, simp ints at p))
fraction-same (negsuc m) (pos n) b c hb hc p = absurd (omega (arith, simp ints at p))
fraction-same (negsuc m) (negsuc n) b c hb hc p = round_same binary32 true (suc m) b (suc n) c hb hc (omega (arith, simp ints at p))

-- zero has no sign
pub fraction-zero : (c : ℕ) → 0 < c → fraction (pos 0) c ≡ fin false 0 (pos 0)
unfolding round
fraction-zero c h = fraction-same (pos 0) (pos 0) c 1 h (zero-lt-suc 0) (simp ints (omega arith))

-- a sign and a size, rounded, where zero has no sign
rounded : (sign : Bool) (n c : ℕ) (z : ℤ) → (T sign → 0 < n) → signed sign n ≡ z → round binary32 sign n c ≡ fraction z c
rounded sign n c z h p = go sign n h ∙ ap (λ (y : ℤ). fraction y c) p
  where
    go : (sign : Bool) (n : ℕ) → (T sign → 0 < n) → round binary32 sign n c ≡ fraction (signed sign n) c
    go false n h = refl
    go true zero h = absurd (omega (arith, h tt))
    go true (suc n) h = refl

-- ---- an exact float: a number, of the size z / c, that is not zero where it is negative

no_nan : (z : ℤ) (c : ℕ) → Exactly nan z c → ⊥
no_nan (pos n) c h = h
no_nan (negsuc n) c h = h

no-inf : (sign : Bool) (z : ℤ) (c : ℕ) → Exactly (inf sign) z c → ⊥
no-inf sign (pos n) c h = h
no-inf sign (negsuc n) c h = h

pub exactly-number : (x : Float) (z : ℤ) (c : ℕ) → Exactly x z c → T (not (is_nan x))
unfolding is_nan
exactly-number nan z c h = absurd (no_nan z c h)
exactly-number (inf sign) z c h = tt
exactly-number (fin sign m power) z c h = tt

cross : (sign : Bool) (m : ℕ) (power z : ℤ) (c : ℕ) → Exactly (fin sign m power) z c → signed sign (m * up power) *ℤ pos c ≡ z *ℤ pos (down power)
cross true m power (pos n) c h = absurd (true≢false h.0)
cross false m power (pos n) c h = ap pos h.1
cross true m power (negsuc n) c h = neg-*ℤ (pos (m * up power)) (pos c) ∙ ap (λ (x : ℕ). neg_ℤ (pos x)) h.1
cross false m power (negsuc n) c h = absurd (false≢true h.0)

sized : (sign : Bool) (m : ℕ) (power z : ℤ) (c : ℕ) → Exactly (fin sign m power) z c → T sign → 0 < m * up power
sized sign m power (pos n) c h k = absurd (subst T h.0 k)
sized sign m power (negsuc n) c h k = factor (m * up power) c (subst (λ (x : ℕ). 0 < x) (sym h.1) (mul-pos (zero-lt-suc n) (down_pos power)))
  where
    factor : (x c : ℕ) → 0 < x * c → 0 < x
    factor zero c h = absurd (omega arith)
    factor (suc x) c h = zero-lt-suc x

doubled : (x : Float) (sign : Bool) (a c : ℕ) → HasValue x sign a c → HasValue x sign (2 * a) (2 * c)
doubled nan sign a c h = absurd h
doubled (inf t) sign a c h = absurd h
doubled (fin t m power) sign a c h = (h.0, omega (arith, h.1))

-- what is exact over c is exact over 2 c
pub exactly-doubled : (x : Float) (z : ℤ) (c : ℕ) → Exactly x z c → Exactly x (pos 2 *ℤ z) (2 * c)
exactly-doubled x (pos n) c h = doubled x false n c h
exactly-doubled x (negsuc n) c h = let p : 2 * suc n ≡ suc (2 * n + 1) = omega arith in rw p (rw p at (doubled x true (suc n) c h))

-- a fraction is a value of the format
pub fraction-fits : (z : ℤ) (c : ℕ) → T (fits binary32 (fraction z c))
fraction-fits (pos n) c = round-fits binary32 false n c
fraction-fits (negsuc n) c = round-fits binary32 true (suc n) c

-- ---- a whole number, cast and divided by a power of two

module _ (z : ℤ) (k : ℕ) where
  over : (d : ℕ) (z : ℤ) → z *ℤ pos d *ℤ pos (2 ^ k) ≡ z *ℤ pos (1 * 2 ^ k * d)
  over d = by_d _ λ _ _. simp ints (omega arith)

  like : (sign : Bool) → unlike sign false ≡ sign
  like true = refl
  like false = refl

  divided : (x : Float) → Exactly x z 1 → div binary32 x (fin false 1 (pos k)) ≡ fraction z (2 ^ k)
  unfolding div
  divided nan h = absurd (no_nan z 1 h)
  divided (inf sign) h = absurd (no-inf sign z 1 h)
  divided (fin sign m power) h =
      ap (λ (t : Bool). round binary32 t (m * up power * 1) (1 * 2 ^ k * down power)) (like sign)
      ∙ rounded sign (m * up power * 1) (1 * 2 ^ k * down power) _ (λ p. rw mul-one (sized sign m power z 1 h p)) refl
      ∙ fraction-same (signed sign (m * up power * 1)) z (1 * 2 ^ k * down power) (2 ^ k) (mul-pos (mul-pos (zero-lt-suc 0) (pow_pos k)) (down_pos power)) (pow_pos k)
      (ap (λ (y : ℤ). y *ℤ pos (2 ^ k)) (signed-times sign (m * up power) 1 ∙ cross sign m power z 1 h) ∙ over (down power) z)

pub castable : (z : ℤ) → nat_abs z ≤ 2 ^ 24 → T (in_float binary32 z)
unfolding in_float
castable (pos n) h = le→leb n (2 ^ 24) h
castable (negsuc n) h = lt→ltb n (2 ^ 24) h

cast-exact : (z : ℤ) → nat_abs z ≤ 2 ^ 24 → Exactly (of_int binary32 z) z 1
unfolding of_int
cast-exact (pos n) h = fraction-exact (pos n) 0 h zero-le
cast-exact (negsuc n) h = fraction-exact (negsuc n) 0 h zero-le

-- the divisor is a constant, given by its pattern
pub cast-divided : (z : ℤ) (k bits : ℕ) → of_bits binary32 bits ≡ fin false 1 (pos k) → nat_abs z ≤ 2 ^ 24 → div binary32 (of_int binary32 z) (of_bits binary32 bits) ≡ fraction z (2 ^ k)
cast-divided z k bits p h = rw p (divided z k (of_int binary32 z) (cast-exact z h))

-- ---- a difference of two multiples of 1 / c is rounded once, from the exact value

-- a sum of two signs and sizes, the first no negative zero
module _ (a b c : ℕ) where
  from-below : (t : Bool) → ltb a b ≡ t → cond t (round binary32 true (b - a) c) (round binary32 false (a - b) c) ≡ fraction (pos a +ℤ neg_ℤ (pos b)) c
  from-below true p = let l = ltb-true a b p in rounded true (b - a) c (pos a +ℤ neg_ℤ (pos b)) (λ t. omega arith) (simp ints (omega arith))
  from-below false p = let l = ltb-false a b p in rounded false (a - b) c (pos a +ℤ neg_ℤ (pos b)) (λ t. absurd t) (simp ints (omega arith))

  from-above : (t u : Bool) → ltb a b ≡ t → ltb b a ≡ u → cond t (round binary32 false (b - a) c) (round binary32 (true && u) (a - b) c) ≡ fraction (neg_ℤ (pos a) +ℤ pos b) c
  from-above true u p r = let l = ltb-true a b p in rounded false (b - a) c (neg_ℤ (pos a) +ℤ pos b) (λ t. absurd t) (simp ints (omega arith))
  from-above false true p r = let l = ltb-true b a r in rounded true (a - b) c (neg_ℤ (pos a) +ℤ pos b) (λ t. omega arith) (simp ints (omega arith))
  from-above false false p r = let l = ltb-false a b p in let k = ltb-false b a r in rounded false (a - b) c (neg_ℤ (pos a) +ℤ pos b) (λ t. absurd t) (simp ints (omega arith))

  summed : (sign sign' : Bool) → (T sign → 0 < a) → sum binary32 sign a sign' b c ≡ fraction (signed sign a +ℤ signed sign' b) c
  unfolding sum
  summed false false h = refl
  summed false true h = from-below (ltb a b) refl
  summed true false h = from-above (ltb a b) (ltb b a) refl refl
  summed true true h = rounded true (a + b) c (neg_ℤ (pos a) +ℤ neg_ℤ (pos b)) (λ t. omega (arith, h tt)) (simp ints (omega arith))

signed-not : (sign : Bool) (n : ℕ) → signed (not sign) n ≡ neg_ℤ (signed sign n)
signed-not true n = sym (neg_ℤ-neg_ℤ (pos n))
signed-not false n = refl

module _ (y z : ℤ) (c : ℕ) (hc : 0 < c) where
  apart : (d d' : ℕ) (u v : ℤ) → (u *ℤ pos d' +ℤ neg_ℤ (v *ℤ pos d)) *ℤ pos c ≡ u *ℤ pos c *ℤ pos d' -ℤ v *ℤ pos c *ℤ pos d
  apart d d' = by_d₂ _ λ _ _ _ _. simp ints (omega arith)

  joined : (d d' : ℕ) (y z : ℤ) → y *ℤ pos d *ℤ pos d' -ℤ z *ℤ pos d' *ℤ pos d ≡ (y -ℤ z) *ℤ pos (d * d')
  joined d d' = by_d₂ _ λ _ _ _ _. simp ints (omega arith)

  pub sub-exact : (x w : Float) → Exactly x y c → Exactly w z c → sub binary32 x w ≡ fraction (y -ℤ z) c
  unfolding sub add neg
  sub-exact nan w h k = absurd (no_nan y c h)
  sub-exact (inf sign) w h k = absurd (no-inf sign y c h)
  sub-exact (fin sign m i) nan h k = absurd (no_nan z c k)
  sub-exact (fin sign m i) (inf sign') h k = absurd (no-inf sign' z c k)
  sub-exact (fin sign m i) (fin sign' n j) h k =
      summed (m * up i * down j) (n * up j * down i) (down i * down j) sign (not sign') (λ p. mul-pos (sized sign m i y c h p) (down_pos j))
      ∙ fraction-same (signed sign (m * up i * down j) +ℤ signed (not sign') (n * up j * down i)) (y -ℤ z) (down i * down j) c (mul-pos (down_pos i) (down_pos j)) hc
      (rw (signed-not, signed-times sign (m * up i) (down j), signed-times sign' (n * up j) (down i))
      (apart (down i) (down j) (signed sign (m * up i)) (signed sign' (n * up j))
      ∙ ap₂ (λ (u v : ℤ). u *ℤ pos (down j) -ℤ v *ℤ pos (down i)) (cross sign m i y c h) (cross sign' n j z c k)
      ∙ joined (down i) (down j) y z))
