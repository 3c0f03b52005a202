-- Of all numbers of one parity, the one that leaves more than -s and at most s of d has the least square; only the next one up can tie.
use Rattle.std.specs.Prelude.{◌≡◌, refl, ◌⊎◌, ℕ, zero, suc, ℤ, pos, negsuc, neg_ℤ, ◌+ℤ◌, ◌-ℤ◌, ◌*ℤ◌, ◌≤ℤ◌, ◌<ℤ◌}
use Rattle.std.proofs.Common.{ap, inl, inr, arith}
use Rattle.std.specs.Int.Signed.{clash_ℤ}
use Rattle.integers.specs.Laws.Difference.{ints, by_d₂, by_d₄}
use Rattle.integers.specs.Laws.Signed.{<ℤ-weak, ≡→≤ℤ, slack<, slack>}
use Rattle.integers.specs.Vectors.{square}

-- the same of r = d - s e, for a step of 2 k
up : (s : ℤ) → pos 0 <ℤ s → (r : ℤ) → r ≤ℤ s → (j : ℕ) → square r ≤ℤ square (r -ℤ pos 2 *ℤ s *ℤ pos (suc j))
up = slack< _ (pos 0) λ s. slack> _ (pos 0 +ℤ pos (suc s)) λ u j. simp ints (omega arith)

down : (s : ℤ) → pos 0 <ℤ s → (r : ℤ) → neg_ℤ s <ℤ r → (j : ℕ) → square r <ℤ square (r -ℤ pos 2 *ℤ s *ℤ negsuc j)
down = slack< _ (pos 0) λ s. slack< _ (neg_ℤ (pos 0 +ℤ pos (suc s))) λ v j. simp ints (omega arith)

same : (s r : ℤ) → square r ≤ℤ square (r -ℤ pos 2 *ℤ s *ℤ pos 0)
same = by_d₂ _ λ _ _ _ _. simp ints (omega arith)

-- equality, one step up: r is s and the step is 1
up-eq : (s : ℤ) → pos 0 <ℤ s → (r : ℤ) → r ≤ℤ s → (j : ℕ) → square (r -ℤ pos 2 *ℤ s *ℤ pos (suc j)) ≡ square r → (r ≡ s) × (j ≡ 0)
up-eq = slack< _ (pos 0) λ s. slack> _ (pos 0 +ℤ pos (suc s)) λ u j. simp ints (omega arith)

module _ (s r : ℤ) (s> : pos 0 <ℤ s) (low : neg_ℤ s <ℤ r) (high : r ≤ℤ s) where
  near : (k : ℤ) → square r ≤ℤ square (r -ℤ pos 2 *ℤ s *ℤ k)
  near (pos zero) = same s r
  near (pos (suc j)) = up s s> r high j
  near (negsuc j) = <ℤ-weak _ _ (down s s> r low j)

  near-eq : (k : ℤ) → square (r -ℤ pos 2 *ℤ s *ℤ k) ≡ square r → (k ≡ pos 0) ⊎ ((r ≡ s) × (k ≡ pos 1))
  near-eq (pos zero) e = inl refl
  near-eq (pos (suc j)) e = let p = up-eq s s> r high j e in inr (p.0, ap (λ (n : ℕ). pos (suc n)) p.1)
  near-eq (negsuc j) e = clash_ℤ (down s s> r low j) (≡→≤ℤ _ _ e)

shift : (d s e k : ℤ) → d -ℤ s *ℤ (e +ℤ pos 2 *ℤ k) ≡ (d -ℤ s *ℤ e) -ℤ pos 2 *ℤ s *ℤ k
shift = by_d₄ _ λ _ _ _ _ _ _ _ _. simp ints (omega arith)

module _ (d s e : ℤ) (s> : pos 0 <ℤ s) (low : neg_ℤ s <ℤ (d -ℤ s *ℤ e)) (high : (d -ℤ s *ℤ e) ≤ℤ s) where
  pub nearest : (k : ℤ) → square (d -ℤ s *ℤ e) ≤ℤ square (d -ℤ s *ℤ (e +ℤ pos 2 *ℤ k))
  nearest k = rw (shift d s e k) (near s _ s> low high k)

  pub nearest-eq : (k : ℤ) → square (d -ℤ s *ℤ (e +ℤ pos 2 *ℤ k)) ≡ square (d -ℤ s *ℤ e) → (k ≡ pos 0) ⊎ ((d -ℤ s *ℤ e ≡ s) × (k ≡ pos 1))
  nearest-eq k q = near-eq s _ s> low high k (rw (shift d s e k) at q)
