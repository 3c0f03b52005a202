-- The ring and order laws of ℤ.
use Rattle.std.specs.Prelude.{◌≡◌, ◌⊎◌, ◌↔◌, ℕ, suc, ◌+◌, ◌-◌, ◌<◌, ◌≤◌, ℤ, pos, negsuc, neg_ℤ, ◌+ℤ◌, ◌-ℤ◌, ◌*ℤ◌, ◌≤ℤ◌, ◌<ℤ◌}
use Rattle.std.proofs.Common.{subst, inl, inr, ⊎_elim, arith}
use Rattle.std.proofs.Math.Decide.{dec_le}
use Rattle.integers.specs.Laws.Difference.{D, le-D, lt-D, by_d, ints, by_d₂, by_d₃, by_d₄}

pub *ℤ-assoc : (a b c : ℤ) → (a *ℤ b) *ℤ c ≡ a *ℤ (b *ℤ c)
*ℤ-assoc = by_d₃ _ λ _ _ _ _ _ _. simp ints (omega arith)

pub *ℤ-+ℤ : (a b c : ℤ) → a *ℤ (b +ℤ c) ≡ a *ℤ b +ℤ a *ℤ c
*ℤ-+ℤ = by_d₃ _ λ _ _ _ _ _ _. simp ints (omega arith)

pub +ℤ-*ℤ : (a b c : ℤ) → (a +ℤ b) *ℤ c ≡ a *ℤ c +ℤ b *ℤ c
+ℤ-*ℤ = by_d₃ _ λ _ _ _ _ _ _. simp ints (omega arith)

pub neg-*ℤ : (a b : ℤ) → neg_ℤ a *ℤ b ≡ neg_ℤ (a *ℤ b)
neg-*ℤ = by_d₂ _ λ _ _ _ _. simp ints (omega arith)

pub *ℤ-neg : (a b : ℤ) → a *ℤ neg_ℤ b ≡ neg_ℤ (a *ℤ b)
*ℤ-neg = by_d₂ _ λ _ _ _ _. simp ints (omega arith)

pub neg-neg-*ℤ : (a b : ℤ) → neg_ℤ a *ℤ neg_ℤ b ≡ a *ℤ b
neg-neg-*ℤ = by_d₂ _ λ _ _ _ _. simp ints (omega arith)

pub neg-+ℤ : (a b : ℤ) → neg_ℤ (a +ℤ b) ≡ neg_ℤ a +ℤ neg_ℤ b
neg-+ℤ = by_d₂ _ λ _ _ _ _. simp ints (omega arith)

pub ≤ℤ-antisym : (a b : ℤ) → a ≤ℤ b → b ≤ℤ a → a ≡ b
≤ℤ-antisym = by_d₂ _ λ _ _ _ _. simp ints (omega arith)

pub ≤ℤ-trans : (a b c : ℤ) → a ≤ℤ b → b ≤ℤ c → a ≤ℤ c
≤ℤ-trans = by_d₃ _ λ _ _ _ _ _ _. simp ints (omega arith)

pub +ℤ-mono : (a b c d : ℤ) → a ≤ℤ b → c ≤ℤ d → (a +ℤ c) ≤ℤ (b +ℤ d)
+ℤ-mono = by_d₄ _ λ _ _ _ _ _ _ _ _. simp ints (omega arith)

pub +ℤ-mono-iff : (a b c : ℤ) → (a ≤ℤ b) ↔ ((a +ℤ c) ≤ℤ (b +ℤ c))
+ℤ-mono-iff = by_d₃ _ λ _ _ _ _ _ _. simp ints (omega arith)

pub <ℤ-iff : (a b : ℤ) → (a <ℤ b) ↔ ((a +ℤ pos 1) ≤ℤ b)
<ℤ-iff = by_d₂ _ λ _ _ _ _. simp ints (omega arith)

pub <ℤ-weak : (a b : ℤ) → a <ℤ b → a ≤ℤ b
<ℤ-weak = by_d₂ _ λ _ _ _ _. simp ints (omega arith)

pub <ℤ-trans : (a b c : ℤ) → a <ℤ b → b <ℤ c → a <ℤ c
<ℤ-trans = by_d₃ _ λ _ _ _ _ _ _. simp ints (omega arith)

pub ≡→≤ℤ : (a b : ℤ) → a ≡ b → a ≤ℤ b
≡→≤ℤ = by_d₂ _ λ _ _ _ _. simp ints (omega arith)

-- slack: b is a and a natural more, so that a nonlinear goal has only natural unknowns
pub slack {ℓ} : (P : ℤ → Type ℓ) (a : ℤ) → ((n : ℕ) → P (a +ℤ pos n)) → (b : ℤ) → a ≤ℤ b → P b
slack P a f b h = subst P (e a b h).1 (f (e a b h).0)
  where
    e : (a b : ℤ) → a ≤ℤ b → (n : ℕ) × (a +ℤ pos n ≡ b)
    e = by_d₂ _ λ a a' b b'. λ h. let k : a + b' ≤ b + a' = (le-D _ _ _ _).0 h in (b + a' - (a + b'), simp ints (omega arith))

pub slack< {ℓ} : (P : ℤ → Type ℓ) (a : ℤ) → ((n : ℕ) → P (a +ℤ pos (suc n))) → (b : ℤ) → a <ℤ b → P b
slack< P a f b h = subst P (e a b h).1 (f (e a b h).0)
  where
    e : (a b : ℤ) → a <ℤ b → (n : ℕ) × (a +ℤ pos (suc n) ≡ b)
    e = by_d₂ _ λ a a' b b'. λ h. let k : a + b' < b + a' = (lt-D _ _ _ _).0 h in (b + a' - suc (a + b'), simp ints (omega arith))

-- b is a natural less than a
pub slack> {ℓ} : (P : ℤ → Type ℓ) (a : ℤ) → ((n : ℕ) → P (a -ℤ pos n)) → (b : ℤ) → b ≤ℤ a → P b
slack> P a f b h = subst P (e a b h).1 (f (e a b h).0)
  where
    e : (a b : ℤ) → b ≤ℤ a → (n : ℕ) × (a -ℤ pos n ≡ b)
    e = by_d₂ _ λ a a' b b'. λ h. let k : b + a' ≤ a + b' = (le-D _ _ _ _).0 h in (a + b' - (b + a'), simp ints (omega arith))

pub *ℤ-mono : (c : ℤ) → pos 0 ≤ℤ c → (a b : ℤ) → a ≤ℤ b → (c *ℤ a) ≤ℤ (c *ℤ b)
*ℤ-mono = slack _ (pos 0) λ n. by_d _ λ a a'. slack _ (D a a') λ m. simp ints (omega arith)

pub sq-nonneg : (a : ℤ) → pos 0 ≤ℤ (a *ℤ a)
sq-nonneg (pos n) = simp ints (omega arith)
sq-nonneg (negsuc n) = simp ints (omega arith)

pub ≤ℤ-or-<ℤ : (a b : ℤ) → (a ≤ℤ b) ⊎ (b <ℤ a)
≤ℤ-or-<ℤ = by_d₂ _ λ a a' b b'. elim (dec_le (a + b') (b + a')) [ yes h ↦ inl ((le-D _ _ _ _).1 h) | no h ↦ inr ((lt-D _ _ _ _).1 (omega arith)) ]

pub ≤ℤ-total : (a b : ℤ) → (a ≤ℤ b) ⊎ (b ≤ℤ a)
≤ℤ-total a b = ⊎_elim inl (λ h. inr (<ℤ-weak b a h)) (≤ℤ-or-<ℤ a b)

pub trichotomy {ℓ} : {C : Type ℓ} (a b : ℤ) → (a <ℤ b → C) → (a ≡ b → C) → (b <ℤ a → C) → C
trichotomy a b f g h = ⊎_elim (λ p. ⊎_elim (λ q. g (≤ℤ-antisym a b p q)) f (≤ℤ-or-<ℤ b a)) h (≤ℤ-or-<ℤ a b)
