-- What the nearest point leaves is at most 2 s in every coordinate.
use Rattle.std.specs.Prelude.{◌≡◌, refl, ◌⊎◌, List, [], ◌∷◌, ℕ, zero, suc, ◌*◌, ◌%◌, ◌<◌, ◌≤◌, ℤ, pos, negsuc, nat_abs, ◌+ℤ◌, ◌-ℤ◌, ◌*ℤ◌, length, ◌≤ℤ◌, ◌<ℤ◌}
use Rattle.std.proofs.Common.{sym, ◌∙◌, ap, inl, inr, ⊎_elim, arith}
use Rattle.std.proofs.Math.Nat.{suc_inj}
use Rattle.std.specs.Int.Signed.{clash_ℤ}
use Rattle.integers.specs.Laws.Difference.{abs-D, ints, by_d₂, by_d₃, by_d₄}
use Rattle.integers.specs.Laws.Signed.{slack<, slack>, ≤ℤ-or-<ℤ}
use Rattle.integers.specs.Vectors.{square, «at», sum_v}
use Rattle.lattice.specs.Computed.{nearest_half, nearest_point}
use Rattle.lattice.specs.Doubled.{par, All, Half, Doubled}
use Rattle.lattice.specs.Laws.Halves.{fours, nearest_half-least, nearest_point-least}
use Rattle.lattice.specs.Laws.Least.{Least, heads}
use Rattle.lattice.specs.Nearest.{cost}

-- k more at the place i
abbrev bump : ℤ → ℕ → List ℤ → List ℤ
bump k i [] = []
bump k zero (x ∷ e) = (x +ℤ k) ∷ e
bump k (suc i) (x ∷ e) = x ∷ bump k i e

bump-long : (k : ℤ) (i : ℕ) (e : List ℤ) → length (bump k i e) ≡ length e
bump-long k i [] = refl
bump-long k zero (x ∷ e) = refl
bump-long k (suc i) (x ∷ e) = ap suc (bump-long k i e)

par-four : (p : ℕ) (k x : ℤ) → nat_abs k % 4 ≡ 0 → par x ≡ p → par (x +ℤ k) ≡ p
par-four p = by_d₂ _ λ _ _ _ _. simp fours (omega arith)

bump-all : (k : ℤ) → nat_abs k % 4 ≡ 0 → (p i : ℕ) (e : List ℤ) → All p e → All p (bump k i e)
bump-all k f p i [] h = tt
bump-all k f p zero (x ∷ e) h = (par-four p k x f h.0, h.1)
bump-all k f p (suc i) (x ∷ e) h = (h.0, bump-all k f p i e h.1)

-- the sum changes by k or not at all
bump-sum : (k : ℤ) (i : ℕ) (e : List ℤ) → (sum_v (bump k i e) ≡ sum_v e) ⊎ (sum_v (bump k i e) ≡ sum_v e +ℤ k)
bump-sum k i [] = inl refl
bump-sum k zero (x ∷ e) = inr (go x k (sum_v e))
  where
    go : (x k a : ℤ) → x +ℤ k +ℤ a ≡ x +ℤ a +ℤ k
    go = by_d₃ _ λ _ _ _ _ _ _. simp ints (omega arith)
bump-sum k (suc i) (x ∷ e) = ⊎_elim (λ h. inl (ap (λ (t : ℤ). x +ℤ t) h)) (λ h. inr (ap (λ (t : ℤ). x +ℤ t) h ∙ go x k (sum_v e))) (bump-sum k i e)
  where
    go : (x k a : ℤ) → x +ℤ (a +ℤ k) ≡ x +ℤ a +ℤ k
    go = by_d₃ _ λ _ _ _ _ _ _. simp ints (omega arith)

four-plus : (k a : ℤ) → nat_abs k % 4 ≡ 0 → nat_abs a % 4 ≡ 0 → nat_abs (a +ℤ k) % 4 ≡ 0
four-plus = by_d₂ _ λ _ _ _ _. simp fours (omega arith)

bump-doubled : (n : ℕ) (k : ℤ) → nat_abs k % 4 ≡ 0 → (i : ℕ) (e : List ℤ) → Doubled n e → Doubled n (bump k i e)
bump-doubled n k f i e h = record {
  long = bump-long k i e ∙ h.long;
  alike = ⊎_elim (λ a. inl (bump-all k f 0 i e a)) (λ a. inr (bump-all k f 1 i e a)) h.alike;
  four = ⊎_elim (λ q. rw q h.four) (λ q. rw q (four-plus k (sum_v e) f h.four)) (bump-sum k i e);
}

bump-half : (p n : ℕ) (k : ℤ) → nat_abs k % 4 ≡ 0 → (i : ℕ) (e : List ℤ) → Half p n e → Half p n (bump k i e)
bump-half p n k f i e h = record {
  long = bump-long k i e ∙ h.long;
  alike = bump-all k f p i e h.alike;
  four = ⊎_elim (λ q. rw q h.four) (λ q. rw q (four-plus k (sum_v e) f h.four)) (bump-sum k i e);
}

first_step : (s x y k : ℤ) → x -ℤ s *ℤ y -ℤ s *ℤ k ≡ x -ℤ s *ℤ (y +ℤ k)
first_step = by_d₄ _ λ _ _ _ _ _ _ _ _. simp ints (omega arith)

cancel : (a b c : ℤ) → (a +ℤ c) ≤ℤ (b +ℤ c) → a ≤ℤ b
cancel = by_d₃ _ λ _ _ _ _ _ _. simp ints (omega arith)

next-step : (a c c' : ℤ) → (a +ℤ c) ≤ℤ (a +ℤ c') → c ≤ℤ c'
next-step = by_d₃ _ λ _ _ _ _ _ _. simp ints (omega arith)

-- where the change makes no gain, it makes none at its place
bump-cost : (s k : ℤ) (i : ℕ) (d e : List ℤ) → length d ≡ length e → i < length e → cost s d e ≤ℤ cost s d (bump k i e)
    → square («at» d i -ℤ s *ℤ «at» e i) ≤ℤ square («at» d i -ℤ s *ℤ «at» e i -ℤ s *ℤ k)
bump-cost s k i [] [] q l h = absurd (omega arith)
bump-cost s k i [] (y ∷ e) q l h = absurd (omega arith)
bump-cost s k i (x ∷ d) [] q l h = absurd (omega arith)
bump-cost s k zero (x ∷ d) (y ∷ e) q l h = rw (first_step s x y k) (cancel (square (x -ℤ s *ℤ y)) (square (x -ℤ s *ℤ (y +ℤ k))) (cost s d e) h)
bump-cost s k (suc i) (x ∷ d) (y ∷ e) q l h = bump-cost s k i d e (suc_inj q) (omega arith) (next-step (square (x -ℤ s *ℤ y)) (cost s d e) (cost s d (bump k i e)) h)

over : (s : ℤ) → pos 0 <ℤ s → (r : ℤ) → (pos 2 *ℤ s) <ℤ r → square (r -ℤ s *ℤ pos 4) <ℤ square r
over = slack< _ (pos 0) λ s. slack< _ (pos 2 *ℤ (pos 0 +ℤ pos (suc s))) λ u. simp ints (omega arith)

under : (s : ℤ) → pos 0 <ℤ s → (r : ℤ) → r ≤ℤ (negsuc 0 -ℤ pos 2 *ℤ s) → square (r -ℤ s *ℤ negsuc 3) <ℤ square r
under = slack< _ (pos 0) λ s. slack> _ (negsuc 0 -ℤ pos 2 *ℤ (pos 0 +ℤ pos (suc s))) λ u. simp ints (omega arith)

below : (s r : ℤ) → (r +ℤ pos 2 *ℤ s) <ℤ pos 0 → r ≤ℤ (negsuc 0 -ℤ pos 2 *ℤ s)
below = by_d₂ _ λ _ _ _ _. simp ints (omega arith)

sized : (s r : ℤ) → pos 0 <ℤ s → r ≤ℤ (pos 2 *ℤ s) → pos 0 ≤ℤ (r +ℤ pos 2 *ℤ s) → nat_abs r ≤ 2 * nat_abs s
sized = by_d₂ _ λ _ _ _ _. simp (ints, abs-D) (omega arith)

-- a class that a change by 4 or -4 at any place leads back into
module _ (K : List ℤ → Type 0) (n : ℕ) (long : (e : List ℤ) → K e → length e ≡ n) (closed : (k : ℤ) → nat_abs k % 4 ≡ 0 → (i : ℕ) (e : List ℤ) → K e → K (bump k i e))
    (s : ℤ) (s> : pos 0 <ℤ s) (d : List ℤ) (d-long : length d ≡ n) (e : List ℤ) (h : Least K (cost s d) e) where
  gain : (k : ℤ) → nat_abs k % 4 ≡ 0 → (i : ℕ) → cost s d e ≤ℤ cost s d (bump k i e)
  gain k f i = heads (cost s d e) (cost s d (bump k i e)) e (bump k i e) (h.least (bump k i e) (closed k f i e h.member))

  least-close : (i : ℕ) → i < n → nat_abs («at» d i -ℤ s *ℤ «at» e i) ≤ 2 * nat_abs s
  least-close i l =
      let q : length d ≡ length e = d-long ∙ sym (long e h.member) in
      let m : i < length e = omega (arith, long e h.member) in
      let r : ℤ = «at» d i -ℤ s *ℤ «at» e i in
      sized s r s>
      (⊎_elim (λ p. p) (λ p. clash_ℤ (over s s> r p) (bump-cost s (pos 4) i d e q m (gain (pos 4) refl i))) (≤ℤ-or-<ℤ r (pos 2 *ℤ s)))
      (⊎_elim (λ p. p) (λ p. clash_ℤ (under s s> r (below s r p)) (bump-cost s (negsuc 3) i d e q m (gain (negsuc 3) refl i))) (≤ℤ-or-<ℤ (pos 0) (r +ℤ pos 2 *ℤ s)))

module _ (n : ℕ) (s : ℤ) (s> : pos 0 <ℤ s) (d : List ℤ) (long : length d ≡ n) where
  -- each entry of what is left is at most 2 s in size
  pub doubled-close : n % 4 ≡ 0 → (i : ℕ) → i < n → nat_abs («at» d i -ℤ s *ℤ «at» (nearest_point s d) i) ≤ 2 * nat_abs s
  doubled-close four = least-close (Doubled n) n (λ e h. h.long) (bump-doubled n) s s> d long (nearest_point s d) (nearest_point-least s s> n d long four)

  pub half-close : (i : ℕ) → i < n → nat_abs («at» d i -ℤ s *ℤ «at» (nearest_half 0 s d) i) ≤ 2 * nat_abs s
  half-close = least-close (Half 0 n) n (λ e h. h.long) (bump-half 0 n) s s> d long (nearest_half 0 s d) (nearest_half-least s s> n d long 0 (omega arith) (omega arith))
