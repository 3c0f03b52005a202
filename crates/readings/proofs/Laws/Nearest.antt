-- The nearest whole number: what it is, that there is only one, and that it goes by the fraction's value alone.
use Rattle.std.specs.Prelude.{◌≡◌, refl, ◌⊎◌, ◌↔◌, Bool, true, false, cond, ℕ, ◌+◌, ◌*◌, ◌-◌, ◌/◌, ◌<◌, ◌≤◌, ltb, ℤ, pos, negsuc, neg_ℤ, nat_abs, ◌+ℤ◌, ◌-ℤ◌, ◌*ℤ◌, ◌≤ℤ◌, ◌<ℤ◌}
use Rattle.std.proofs.Common.{sym, ◌∙◌, ap, ap₂, subst, inl, inr, ⊎_elim, mul-pos, mul_comm, mul-lt-mul_of_pos_right, mul-le-mul_right, div-mul-le_self, arith, ltb-true, ltb-false}
use Rattle.std.proofs.Math.Nat.{lt-div-mul-add}
use Rattle.std.specs.Int.Signed.{≤ℤ_refl}
use Rattle.integers.specs.Floor.{floor_div, floor_mod}
use Rattle.integers.specs.Laws.Difference.{D, by_d, by_d₂, by_d₃, ints, abs-D}
use Rattle.integers.specs.Laws.Signed.{slack<, trichotomy, ≤ℤ-or-<ℤ, neg-*ℤ}
use Rattle.integers.specs.Laws.Sizes.{abs_neg}
use Rattle.integers.specs.Laws.Floors.{floor-split, floor_mod-lt}
use Rattle.readings.specs.Fractions.{signed, nearest}

-- N - 1/2 < z / c ≤ N + 1/2, each side times 2 c
abbrev pub Nearest : ℤ → ℕ → ℤ → Type 0
Nearest z c N = ((pos c *ℤ (pos 2 *ℤ N -ℤ pos 1)) <ℤ (pos 2 *ℤ z)) × ((pos 2 *ℤ z) ≤ℤ (pos c *ℤ (pos 2 *ℤ N +ℤ pos 1)))

-- ---- there is one, and only one

more : (c r : ℕ) → r < c → c < 2 * r → (N : ℤ) → Nearest (pos c *ℤ N +ℤ pos r) c (N +ℤ pos 1)
more c r h k = by_d _ λ _ _. simp ints (omega arith)

less : (c r : ℕ) → 0 < c → 2 * r ≤ c → (N : ℤ) → Nearest (pos c *ℤ N +ℤ pos r) c N
less c r h k = by_d _ λ _ _. simp ints (omega arith)

pub nearest-is : (z : ℤ) (c : ℕ) → 0 < c → Nearest z c (nearest z c)
unfolding nearest
nearest-is z c h = subst (λ (y : ℤ). Nearest y c (nearest z c)) (sym (floor-split z c h)) (go (ltb c (2 * floor_mod z c)) refl)
  where
    go : (t : Bool) → ltb c (2 * floor_mod z c) ≡ t → Nearest (pos c *ℤ floor_div z c +ℤ pos (floor_mod z c)) c (cond t (floor_div z c +ℤ pos 1) (floor_div z c))
    go true p = more c (floor_mod z c) (floor_mod-lt z c h) (ltb-true _ _ p) (floor_div z c)
    go false p = less c (floor_mod z c) h (ltb-false _ _ p) (floor_div z c)

-- a larger fraction has no smaller one
crossed : (c : ℕ) (y z N' N : ℤ) → N' <ℤ N → y ≤ℤ z → Nearest y c N → Nearest z c N' → ⊥
crossed c = by_d₃ _ λ _ _ _ _ n n'. slack< _ (D n n') λ j. simp ints (λ l h k. omega arith)

pub nearest-unique : (z : ℤ) (c : ℕ) (N N' : ℤ) → Nearest z c N → Nearest z c N' → N ≡ N'
nearest-unique z c N N' h k = trichotomy N N' (λ l. absurd (crossed c z z N N' l (≤ℤ_refl z) k h)) (λ p. p) (λ l. absurd (crossed c z z N' N l (≤ℤ_refl z) h k))

pub nearest-mono : (y z : ℤ) (c : ℕ) → 0 < c → y ≤ℤ z → nearest y c ≤ℤ nearest z c
nearest-mono y z c h l = ⊎_elim (λ k. k) (λ k. absurd (crossed c y z _ _ k l (nearest-is y c h) (nearest-is z c h))) (≤ℤ-or-<ℤ (nearest y c) (nearest z c))

-- what shows that N is the one
pub nearest-found : (z : ℤ) (c : ℕ) (N : ℤ) → 0 < c → Nearest z c N → nearest z c ≡ N
nearest-found z c N h k = nearest-unique z c _ N (nearest-is z c h) k

-- ---- fractions of one value have one nearest whole number

times : (c k : ℕ) → 0 < k → (N z : ℤ) → Nearest z c N → Nearest (z *ℤ pos k) (c * k) N
times c k h = by_d₂ _ λ _ _ _ _. simp ints (λ p. omega (arith, mul-lt-mul_of_pos_right p.0 h, mul-le-mul_right k p.1))

scaled : (z : ℤ) (c k : ℕ) → 0 < c → 0 < k → nearest (z *ℤ pos k) (c * k) ≡ nearest z c
scaled z c k h p = nearest-found (z *ℤ pos k) (c * k) (nearest z c) (mul-pos h p) (times c k p (nearest z c) z (nearest-is z c h))

pub nearest-same : (y z : ℤ) (b c : ℕ) → 0 < b → 0 < c → y *ℤ pos c ≡ z *ℤ pos b → nearest y b ≡ nearest z c
nearest-same y z b c hb hc p = sym (scaled y b c hb hc) ∙ ap₂ nearest p (mul_comm b c) ∙ scaled z c b hc hb

-- ---- sign and size

pub signed-times : (sign : Bool) (n k : ℕ) → signed sign (n * k) ≡ signed sign n *ℤ pos k
signed-times true n k = sym (neg-*ℤ (pos n) (pos k))
signed-times false n k = refl

pub abs-signed : (sign : Bool) (n : ℕ) → nat_abs (signed sign n) ≡ n
abs-signed true n = abs_neg (pos n)
abs-signed false n = refl

pub nearest-signed-same : (sign : Bool) (a b c d : ℕ) → 0 < b → 0 < d → a * d ≡ c * b → nearest (signed sign a) b ≡ nearest (signed sign c) d
nearest-signed-same sign a b c d hb hd p = nearest-same _ _ b d hb hd (sym (signed-times sign a d) ∙ ap (signed sign) p ∙ signed-times sign c b)

-- as code has it: half of the divisor is added, less one where a half goes toward zero
module _ (m c : ℕ) (h : 0 < c) where
  halved : (n : ℕ) → (n / (c + c) * (c + c) ≤ n) × (n < n / (c + c) * (c + c) + (c + c))
  halved n = (div-mul-le_self n (c + c), lt-div-mul-add (omega arith))

  pub nearest-signed : (sign : Bool) → nearest (signed sign m) c ≡ signed sign ((m + m + c - cond sign 0 1) / (c + c))
  nearest-signed true = nearest-found (neg_ℤ (pos m)) c _ h (simp ints (omega (arith, halved (m + m + c - 0))))
  nearest-signed false = nearest-found (pos m) c _ h (simp ints (omega (arith, halved (m + m + c - 1))))

-- ---- sizes

-- less than a half
pub nearest-small : (z : ℤ) (c : ℕ) → nat_abs z + nat_abs z < c → nearest z c ≡ pos 0
nearest-small z c h = nearest-found z c (pos 0) (omega arith) (go z h)
  where
    go : (z : ℤ) → nat_abs z + nat_abs z < c → Nearest z c (pos 0)
    go (pos n) h = simp ints (omega arith)
    go (negsuc n) h = simp ints (omega arith)

whole : (c : ℕ) → 0 < c → (N : ℤ) → Nearest (N *ℤ pos c) c N
whole c h = by_d _ λ _ _. simp ints (omega arith)

within : (L : ℕ) (z : ℤ) → (nat_abs z ≤ L) ↔ ((neg_ℤ (pos L) ≤ℤ z) × (z ≤ℤ pos L))
within L = by_d _ λ _ _. simp ints (λ h. omega arith, λ h. omega arith)

beyond : (L : ℕ) (z : ℤ) → L ≤ nat_abs z → (pos L ≤ℤ z) ⊎ (z ≤ℤ neg_ℤ (pos L))
beyond L (pos n) h = inl (simp ints (omega arith))
beyond L (negsuc n) h = inr (simp ints (omega arith))

from-high : (L : ℕ) (z : ℤ) → pos L ≤ℤ z → L ≤ nat_abs z
from-high L = by_d _ λ _ _. simp (ints, abs-D) (λ l. omega arith)

from_low : (L : ℕ) (z : ℤ) → z ≤ℤ neg_ℤ (pos L) → L ≤ nat_abs z
from_low L = by_d _ λ _ _. simp (ints, abs-D) (λ l. omega arith)

-- at most L where the fraction is, and at least L where the fraction is
module _ (z : ℤ) (c L : ℕ) (h : 0 < c) where
  top : nearest (pos (L * c)) c ≡ pos L
  top = nearest-found (pos (L * c)) c (pos L) h (whole c h (pos L))

  bottom : nearest (neg_ℤ (pos (L * c))) c ≡ neg_ℤ (pos L)
  bottom = nearest-found (neg_ℤ (pos (L * c))) c (neg_ℤ (pos L)) h (rw (neg-*ℤ (pos L) (pos c)) at (whole c h (neg_ℤ (pos L))))

  pub nearest-within : nat_abs z ≤ L * c → nat_abs (nearest z c) ≤ L
  nearest-within k = let b = (within (L * c) z).0 k in
      (within L (nearest z c)).1 (rw bottom at (nearest-mono _ _ c h b.0), rw top at (nearest-mono _ _ c h b.1))

  pub nearest-beyond : L * c ≤ nat_abs z → L ≤ nat_abs (nearest z c)
  nearest-beyond k = ⊎_elim (λ l. from-high L (nearest z c) (rw top at (nearest-mono (pos (L * c)) z c h l)))
      (λ l. from_low L (nearest z c) (rw bottom at (nearest-mono z (neg_ℤ (pos (L * c))) c h l))) (beyond (L * c) z k)
