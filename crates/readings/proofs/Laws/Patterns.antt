-- A binary32 pattern: its value by its fields, and what it is measured as.
use Rattle.readings.specs.declared.Fault.TheVariants.{Missing, OutOfRange}
use Rattle.std.specs.Prelude.{◌≡◌, Bool, true, cond, ℕ, zero, suc, ◌+◌, ◌*◌, ◌-◌, ◌/◌, ◌%◌, ◌^◌, ◌<◌, ◌≤◌, leb, eqb, pos, Float, Err}
use Rattle.std.proofs.Common.{sym, ◌∙◌, subst, ⊎_elim, lt_irrefl, le_of_lt, lt_of_lt_of_le, le_trans, eq-or-lt_of_le, add_comm, mul-one, mul_assoc, mul-le-mul, mul-le-mul_right, mul-lt-mul_of_pos_right, lt_of_mul-lt-mul_right, arith, ne_eqb, lt-ltb, lit<, lit≤, pow_pos, pow-add, pow_mono, shl_lt}
use Rattle.std.proofs.Math.Path.{ap}
use Rattle.std.proofs.lemmas.Bool.{false≢true}
use Rattle.std.proofs.Math.Nat.{eq_of_mul-eq-mul_right}
use Rattle.std.proofs.Math.Decide.{dec_le}
use Rattle.std.specs.Float.{nan, inf, fin}
use Rattle.std.specs.Float.Ieee.{binary32, down, is_nan, odd, of_fields, of_bits}
use Rattle.std.specs.Float.Ieee.Fits.{down_pos}
use Rattle.std.specs.Float.Ieee.Exact.{HasValue, odd_sign}
use Rattle.std.specs.Float.Ieee.Bits.{nan_bits_is, nan_bits_above}
use Rattle.readings.specs.Fractions.{signed, nearest}
use Rattle.readings.specs.Taking.{measure_units, measure_float, measure_bits}
use Rattle.readings.proofs.Laws.Nearest.{abs-signed, nearest-small, nearest-signed-same, nearest-beyond}
use Rattle.readings.proofs.Laws.Taking.{units-beyond, float-missing, float-units}

-- ---- the size of a value with the exponent field x and the digits t, in units of 2 ^ -149

abbrev pub grains : ℕ → ℕ → ℕ
grains zero t = t
grains (suc x) t = (8388608 + t) * 2 ^ x

finite : (sign : Bool) (x t : ℕ) → x < 255 → HasValue (of_fields binary32 sign x t) sign (grains x t) (2 ^ 149)
unfolding of_fields
finite sign zero t h = subst (λ (g : ℕ). HasValue (odd 24 sign t 0 149) sign g (2 ^ 149)) (mul-one t) (odd_sign 24 sign t 0 149)
finite sign (suc x) t h =
    subst (λ (b : Bool). HasValue (cond b (cond (eqb t 0) (inf sign) nan) (odd 24 sign (8388608 + t) x 149)) sign ((8388608 + t) * 2 ^ x) (2 ^ 149))
    (sym (ne_eqb (suc x) 255 (λ p. omega arith))) (odd_sign 24 sign (8388608 + t) x 149)

-- an exponent field below 116: less than 2 ^ -11, so less than half of 1/1024
grains-small : (x t : ℕ) → x < 116 → t < 8388608 → 1024 * grains x t + 1024 * grains x t < 2 ^ 149
grains-small x t h k = half (grains x t) (2 ^ 138) (below x t h k)
  where
    half : (g p : ℕ) → g < p → 1024 * g + 1024 * g < 2048 * p
    half g p h = omega arith

    below : (x t : ℕ) → x < 116 → t < 8388608 → grains x t < 2 ^ 138
    below zero t h k = lt_of_lt_of_le k (lit≤ tt)
    below (suc x) t h k = lt_of_lt_of_le (shl_lt {a = 8388608 + t} 24 x (omega arith)) (pow_mono {j = 138} (omega arith))

-- any other: 1024 times the value is twice the digits over 2 ^ k, where the field and k make 141
grains-shifted : (x t k : ℕ) → 0 < x → x + k ≡ 141 → 1024 * grains x t * 2 ^ k ≡ (t + 8388608 + (t + 8388608)) * 2 ^ 149
grains-shifted zero t k h p = absurd (omega arith)
grains-shifted (suc x) t k h p =
    regroup (8388608 + t) (2 ^ x) (2 ^ k) (2 ^ 140) (sym (pow-add 2 x k) ∙ ap (λ (j : ℕ). 2 ^ j) (less p))
    ∙ ap (λ (m : ℕ). (m + m) * 2 ^ 149) (add_comm 8388608 t)
  where
    less : suc x + k ≡ 141 → x + k ≡ 140
    less p = omega arith

    regroup : (m a b g : ℕ) → a * b ≡ g → 1024 * (m * a) * b ≡ (m + m) * (512 * g)
    regroup m a b g p = omega (arith, ap (λ (z : ℕ). m * z) p)

-- above 16384 values are 1/512 apart, so that the next one is two units past 2 ^ 24
grains-above : (x t : ℕ) → t < 8388608 → 2 ^ 163 < grains x t → 16777217 * 2 ^ 149 ≤ 1024 * grains x t
grains-above zero t k h = absurd (lt_irrefl t (lt_of_lt_of_le k (le_trans (lit≤ tt) (le_of_lt h))))
grains-above (suc x) t k h = elim (dec_le 140 x) [
  | yes l ↦ let p : grains (suc x) t ≡ steps * 2 ^ 140 = whole l in rw p (far steps (2 ^ 140) (lt_of_mul-lt-mul_right (2 ^ 140) (rw p at h)))
  | no l ↦ absurd (lt_irrefl _ (lt_of_lt_of_le h (le_of_lt (lt_of_lt_of_le (shl_lt {a = 8388608 + t} 24 x (omega arith)) (pow_mono {j = 163} (omega arith))))))
]
  where
    steps : ℕ
    steps = (8388608 + t) * 2 ^ (x - 140)

    whole : 140 ≤ x → grains (suc x) t ≡ steps * 2 ^ 140
    whole l = ap (λ (j : ℕ). (8388608 + t) * 2 ^ j) (back l) ∙ ap (λ (g : ℕ). (8388608 + t) * g) (pow-add 2 (x - 140) 140) ∙ sym (mul_assoc (8388608 + t) (2 ^ (x - 140)) (2 ^ 140))
      where
        back : 140 ≤ x → x ≡ x - 140 + 140
        back l = omega arith

    far : (n g : ℕ) → 8388608 < n → 16777217 * (512 * g) ≤ 1024 * (n * g)
    far n g l = omega (arith, mul-le-mul_right g l)

-- an exponent field from 142 on: 32768 and more
grains-far : (x t : ℕ) → 142 ≤ x → 2 ^ 163 < grains x t
grains-far zero t h = absurd (omega arith)
grains-far (suc x) t h = lt_of_lt_of_le (lit< {m = 2 ^ 163} {n = 8388608 * 2 ^ 141} tt) (mul-le-mul {n₁ = 8388608} {m₁ = 2 ^ 141} (omega arith) (pow_mono {i = 141} (omega arith)))

-- ---- a pattern: its sign, its size without the sign, and its value's grains

module _ (bits : ℕ) where
  abbrev pub negative : Bool
  negative = leb 2147483648 bits

  abbrev pub size : ℕ
  size = bits % 2147483648

  abbrev pub weight : ℕ
  weight = grains (size / 8388608) (size % 8388608)

  fields : of_bits binary32 bits ≡ of_fields binary32 negative (size / 8388608) (size % 8388608)
  unfolding of_bits
  fields = ap (λ (t : ℕ). of_fields binary32 negative (size / 8388608) t) (omega arith)

  pub pattern-value : size < 0x7f80_0000 → HasValue (of_bits binary32 bits) negative weight (2 ^ 149)
  pattern-value h = rw fields (finite negative (size / 8388608) (size % 8388608) (omega arith))

  units : size < 0x7f80_0000 → measure_bits bits ≡ measure_units (nearest (signed negative (1024 * weight)) (2 ^ 149))
  units h = float-units (of_bits binary32 bits) negative weight (2 ^ 149) (pow_pos 149) (pattern-value h)

  pub pattern-small : size / 8388608 < 116 → measure_bits bits ≡ measure_units (pos 0)
  pattern-small h = units (omega arith) ∙ ap measure_units (nearest-small (signed negative (1024 * weight)) (2 ^ 149)
      (rw (abs-signed negative (1024 * weight)) (grains-small (size / 8388608) (size % 8388608) h (omega arith))))

  pub pattern-shifted : (k : ℕ) → size < 0x7f80_0000 → 0 < size / 8388608 → size / 8388608 + k ≡ 141
      → measure_bits bits ≡ measure_units (nearest (signed negative (size % 8388608 + 8388608 + (size % 8388608 + 8388608))) (2 ^ k))
  pattern-shifted k h l p = units h ∙ ap measure_units (nearest-signed-same negative _ (2 ^ 149) _ (2 ^ k) (pow_pos 149) (pow_pos k) (grains-shifted (size / 8388608) (size % 8388608) k l p))

  above : size < 0x7f80_0000 → 2 ^ 163 < weight → measure_bits bits ≡ Err OutOfRange
  above h l = units h ∙ units-beyond (nearest (signed negative (1024 * weight)) (2 ^ 149))
      (nearest-beyond (signed negative (1024 * weight)) (2 ^ 149) 16777217 (pow_pos 149) (rw (abs-signed negative (1024 * weight)) (grains-above (size / 8388608) (size % 8388608) (omega arith) l)))

  infinite : size ≡ 0x7f80_0000 → measure_bits bits ≡ Err OutOfRange
  unfolding of_fields measure_float
  infinite p = ap measure_float (fields ∙ ap (λ (z : ℕ). of_fields binary32 negative (z / 8388608) (z % 8388608)) p)

  pub pattern-far : 0x4700_0000 ≤ size → size ≤ 0x7f80_0000 → measure_bits bits ≡ Err OutOfRange
  pattern-far h k = ⊎_elim infinite (λ l. above l (grains-far (size / 8388608) (size % 8388608) (omega arith))) (eq-or-lt_of_le k)

  is-nan : 0x7f80_0000 < size → is_nan (of_bits binary32 bits) ≡ true
  is-nan h = sym (nan_bits_is binary32 bits) ∙ nan_bits_above binary32 bits ∙ lt-ltb 0x7f80_0000 size h

  pub pattern-nan : 0x7f80_0000 < size → measure_bits bits ≡ Err Missing
  pattern-nan h = float-missing (of_bits binary32 bits) (is-nan h)

-- what a pattern's size tells of it
pub ruleset sizes = (pattern-nan, pattern-far)

-- ---- a magnitude above 16384 is out of range: judged by the value as by the units

same-value : (f : Float) (sign sign' : Bool) (a b c d : ℕ) → HasValue f sign a c → HasValue f sign' b d → a * d ≡ b * c
same-value nan sign sign' a b c d h k = absurd h
same-value (inf t) sign sign' a b c d h k = absurd h
same-value (fin t m power) sign sign' a b c d h k =
    eq_of_mul-eq-mul_right (down power) (down_pos power) (a * d) (b * c) (omega (arith, ap (λ (z : ℕ). z * d) h.1, ap (λ (z : ℕ). z * c) k.1))

no_nan : (f : Float) (sign : Bool) (a c : ℕ) → HasValue f sign a c → is_nan f ≡ true → ⊥
unfolding is_nan
no_nan nan sign a c h p = h
no_nan (inf t) sign a c h p = h
no_nan (fin t m power) sign a c h p = false≢true p

pub above-limit : (bits : ℕ) (sign : Bool) (a c : ℕ) → HasValue (of_bits binary32 bits) sign a c → 16384 * c < a → measure_bits bits ≡ Err OutOfRange
above-limit bits sign a c v l = elim (dec_le (size bits) 0x7f80_0000) [
  | yes k ↦ ⊎_elim (infinite bits) (λ k. above bits k (heavy k)) (eq-or-lt_of_le k)
  | no k ↦ absurd (no_nan (of_bits binary32 bits) sign a c v (is-nan bits (omega arith)))
]
  where
    more : (w g : ℕ) → 0 < g → a * g ≡ w * c → 16384 * g < w
    more w g h p = lt_of_mul-lt-mul_right c (omega (arith, mul-lt-mul_of_pos_right l h))

    heavy : size bits < 0x7f80_0000 → 2 ^ 163 < weight bits
    heavy k = more (weight bits) (2 ^ 149) (pow_pos 149) (same-value (of_bits binary32 bits) sign (negative bits) a (weight bits) c (2 ^ 149) v (pattern-value bits k))
