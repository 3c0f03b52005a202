-- The inner product of two doubled points is a multiple of 4, whichever halves of the lattice they are of.
use Rattle.std.specs.Prelude.{◌≡◌, refl, ◌⊎◌, List, ℕ, zero, suc, ◌%◌, ◌<◌, ℤ, neg_ℤ, nat_abs, ◌+ℤ◌, ◌-ℤ◌, ◌*ℤ◌, length}
use Rattle.std.proofs.Math.Path.{sym, ap}
use Rattle.std.proofs.Common.{◌∙◌, ap₂, inl, inr, arith}
use Rattle.std.proofs.Math.IntN.{pos}
use Rattle.std.proofs.lemmas.List.{length-map, length-replicate}
use Rattle.integers.specs.Laws.Difference.{ints, by_d₂, by_d₃}
use Rattle.integers.specs.Laws.Sizes.{abs_neg}
use Rattle.integers.specs.Laws.Sums.{dot-comm}
use Rattle.integers.specs.Vectors.{sum_v, dot}
use Rattle.lattice.specs.Basis.{floors}
use Rattle.lattice.specs.Doubled.{All, Doubled}
use Rattle.lattice.specs.Laws.Halves.{fours}
use Rattle.lattice.specs.Laws.Rows.{dot-all, ones, dot-ones}

sum_step : (n : ℕ) → pos 1 +ℤ pos n ≡ pos (suc n)
sum_step n = simp ints (omega arith)

sum_ones : (n : ℕ) → sum_v (ones n) ≡ pos n
sum_ones zero = refl
sum_ones (suc n) = ap (λ (t : ℤ). pos 1 +ℤ t) (sum_ones n) ∙ sum_step n

-- G is the inner product of the halves, k the sum of one's halves, σ the sum of the other
even-even : (G k σ : ℤ) → nat_abs (pos 2 *ℤ (pos 2 *ℤ G +ℤ pos 0 *ℤ k) +ℤ pos 0 *ℤ σ) % 4 ≡ 0
even-even = by_d₃ _ λ _ _ _ _ _ _. simp fours (omega arith)

even_odd : (G k σ : ℤ) → nat_abs σ % 4 ≡ 0 → nat_abs (pos 2 *ℤ (pos 2 *ℤ G +ℤ pos 0 *ℤ k) +ℤ pos 1 *ℤ σ) % 4 ≡ 0
even_odd = by_d₃ _ λ _ _ _ _ _ _. simp fours (omega arith)

-- a sum is kept whole, so that omega sees one unknown in place of 2 k
plus-four : (G τ : ℤ) → nat_abs τ % 4 ≡ 0 → nat_abs (pos 4 *ℤ G +ℤ τ) % 4 ≡ 0
plus-four = by_d₂ _ λ _ _ _ _. simp fours (omega arith)

add-four : (τ σ : ℤ) → nat_abs τ % 4 ≡ 0 → nat_abs σ % 4 ≡ 0 → nat_abs (τ +ℤ σ) % 4 ≡ 0
add-four = by_d₂ _ λ _ _ _ _. simp fours (omega arith)

less-four : (n : ℕ) → n % 4 ≡ 0 → (τ : ℤ) → nat_abs τ % 4 ≡ 0 → nat_abs (τ -ℤ pos n) % 4 ≡ 0
less-four n h τ k = add-four τ (neg_ℤ (pos n)) k (rw (abs_neg (pos n)) h)

odd-even-step : (G k σ : ℤ) → pos 2 *ℤ (pos 2 *ℤ G +ℤ pos 1 *ℤ k) +ℤ pos 0 *ℤ σ ≡ pos 4 *ℤ G +ℤ (pos 2 *ℤ k +ℤ pos 0)
odd-even-step = by_d₃ _ λ _ _ _ _ _ _. simp ints (omega arith)

odd-odd-step : (n : ℕ) (G k σ : ℤ) → pos 2 *ℤ (pos 2 *ℤ G +ℤ pos 1 *ℤ k) +ℤ pos 1 *ℤ σ ≡ pos 4 *ℤ G +ℤ (pos 2 *ℤ k +ℤ pos n +ℤ σ -ℤ pos n)
odd-odd-step n = by_d₃ _ λ _ _ _ _ _ _. simp ints (omega arith)

odd_even : (G k σ : ℤ) → nat_abs (pos 2 *ℤ k +ℤ pos 0) % 4 ≡ 0 → nat_abs (pos 2 *ℤ (pos 2 *ℤ G +ℤ pos 1 *ℤ k) +ℤ pos 0 *ℤ σ) % 4 ≡ 0
odd_even G k σ h = rw (odd-even-step G k σ) (plus-four G (pos 2 *ℤ k +ℤ pos 0) h)

odd-odd : (n : ℕ) → n % 4 ≡ 0 → (G k σ : ℤ) → nat_abs σ % 4 ≡ 0 → nat_abs (pos 2 *ℤ k +ℤ pos n) % 4 ≡ 0 → nat_abs (pos 2 *ℤ (pos 2 *ℤ G +ℤ pos 1 *ℤ k) +ℤ pos 1 *ℤ σ) % 4 ≡ 0
odd-odd n h G k σ hσ hτ = let τ : ℤ = pos 2 *ℤ k +ℤ pos n in rw (odd-odd-step n G k σ) (plus-four G (τ +ℤ σ -ℤ pos n) (less-four n h (τ +ℤ σ) (add-four τ σ hτ hσ)))

module _ (n : ℕ) (four : n % 4 ≡ 0) (a b : List ℤ) (ha : length a ≡ n) (hb : length b ≡ n) where
  G : ℤ
  G = dot (floors 2 b) (floors 2 a)

  -- both opened, a of parity p and b of parity t
  module _ (p t : ℕ) (p< : p < 2) (t< : t < 2) (pa : All p a) (tb : All t b) where
    opened : dot a b ≡ pos 2 *ℤ (pos 2 *ℤ G +ℤ pos p *ℤ sum_v (floors 2 b)) +ℤ pos t *ℤ sum_v a
    unfolding G
    opened = dot-all t t< a b (ha ∙ sym hb) tb ∙ ap (λ (x : ℤ). pos 2 *ℤ x +ℤ pos t *ℤ sum_v a) (dot-comm a (floors 2 b) ∙ dot-all p p< (floors 2 b) a (length-map b _ ∙ hb ∙ sym ha) pa)

    sum-b : sum_v b ≡ pos 2 *ℤ sum_v (floors 2 b) +ℤ pos t *ℤ pos n
    sum-b = sym (dot-ones n b hb) ∙ dot-all t t< (ones n) b (length-replicate n (pos 1) ∙ sym hb) tb
        ∙ ap₂ (λ (x y : ℤ). pos 2 *ℤ x +ℤ pos t *ℤ y) (dot-ones n (floors 2 b) (length-map b _ ∙ hb)) (sum_ones n)

  one-n : pos 1 *ℤ pos n ≡ pos n
  one-n = simp ints (omega arith)

  none-n : pos 0 *ℤ pos n ≡ pos 0
  none-n = simp ints (omega arith)

  halves-four : Doubled n a → Doubled n b → nat_abs (dot a b) % 4 ≡ 0
  halves-four h k = go h.alike k.alike
    where
      σ : ℤ
      σ = sum_v a

      κ : ℤ
      κ = sum_v (floors 2 b)

      go : All 0 a ⊎ All 1 a → All 0 b ⊎ All 1 b → nat_abs (dot a b) % 4 ≡ 0
      go (inl x) (inl y) = rw (opened 0 0 (omega arith) (omega arith) x y) (even-even G κ σ)
      go (inl x) (inr y) = rw (opened 0 1 (omega arith) (omega arith) x y) (even_odd G κ σ h.four)
      go (inr x) (inl y) = rw (opened 1 0 (omega arith) (omega arith) x y) (odd_even G κ σ (rw (sum-b 1 0 (omega arith) (omega arith) x y, none-n) at k.four))
      go (inr x) (inr y) = rw (opened 1 1 (omega arith) (omega arith) x y) (odd-odd n four G κ σ h.four (rw (sum-b 1 1 (omega arith) (omega arith) x y, one-n) at k.four))

-- 5. n a multiple of 4, as 8 is
pub dot-four : (n : ℕ) → n % 4 ≡ 0 → (a b : List ℤ) → Doubled n a → Doubled n b → nat_abs (dot a b) % 4 ≡ 0
dot-four n four a b h k = halves-four n four a b h.long k.long h k
