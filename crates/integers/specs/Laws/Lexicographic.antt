-- The lexicographic order of vectors is a total order, and adding one vector to both sides keeps it.
use Rattle.std.specs.Prelude.{◌≡◌, refl, ◌⊎◌, List, [], ◌∷◌, ℤ, ◌+ℤ◌, length, ◌<ℤ◌}
use Rattle.std.proofs.Common.{sym, ◌∙◌, ap, ap₂, inl, inr, ⊎_elim, arith}
use Rattle.std.proofs.Math.Nat.{suc_inj}
use Rattle.std.specs.Int.Signed.{<ℤ_irrefl}
use Rattle.integers.specs.Laws.Difference.{ints, by_d₃}
use Rattle.integers.specs.Laws.Signed.{<ℤ-trans, trichotomy}
use Rattle.integers.specs.Vectors.{add_v, ◌≤V◌}

pub ≤V-refl : (a : List ℤ) → a ≤V a
≤V-refl [] = tt
≤V-refl (x ∷ a) = inr (refl, ≤V-refl a)

pub ≤V-total : (a b : List ℤ) → (a ≤V b) ⊎ (b ≤V a)
≤V-total [] b = inl tt
≤V-total (x ∷ a) [] = inr tt
≤V-total (x ∷ a) (y ∷ b) = go (≤V-total a b)
  where
    go : (a ≤V b) ⊎ (b ≤V a) → ((x ∷ a) ≤V (y ∷ b)) ⊎ ((y ∷ b) ≤V (x ∷ a))
    go h = trichotomy x y (λ l. inl (inl l)) (λ e. ⊎_elim (λ p. inl (inr (e, p))) (λ p. inr (inr (sym e, p))) h) (λ l. inr (inl l))

pub ≤V-antisym : (a b : List ℤ) → a ≤V b → b ≤V a → a ≡ b
≤V-antisym [] [] p q = refl
≤V-antisym [] (y ∷ b) p q = absurd q
≤V-antisym (x ∷ a) [] p q = absurd p
≤V-antisym (x ∷ a) (y ∷ b) (inl p) (inl q) = absurd (<ℤ_irrefl (<ℤ-trans x y x p q))
≤V-antisym (x ∷ a) (y ∷ b) (inl p) (inr q) = absurd (<ℤ_irrefl (rw q.0 at p))
≤V-antisym (x ∷ a) (y ∷ b) (inr p) (inl q) = absurd (<ℤ_irrefl (rw p.0 at q))
≤V-antisym (x ∷ a) (y ∷ b) (inr p) (inr q) = ap₂ ◌∷◌ p.0 (≤V-antisym a b p.1 q.1)

pub ≤V-trans : (a b c : List ℤ) → a ≤V b → b ≤V c → a ≤V c
≤V-trans [] b c p q = tt
≤V-trans (x ∷ a) [] c p q = absurd p
≤V-trans (x ∷ a) (y ∷ b) [] p q = q
≤V-trans (x ∷ a) (y ∷ b) (z ∷ c) (inl p) (inl q) = inl (<ℤ-trans x y z p q)
≤V-trans (x ∷ a) (y ∷ b) (z ∷ c) (inl p) (inr q) = inl (rw q.0 at p)
≤V-trans (x ∷ a) (y ∷ b) (z ∷ c) (inr p) (inl q) = inl (rw (← p.0) at q)
≤V-trans (x ∷ a) (y ∷ b) (z ∷ c) (inr p) (inr q) = inr (p.0 ∙ q.0, ≤V-trans a b c p.1 q.1)

add-lt : (x y z : ℤ) → x <ℤ y → (x +ℤ z) <ℤ (y +ℤ z)
add-lt = by_d₃ _ λ _ _ _ _ _ _. simp ints (omega arith)

pub ≤V-add : (a b c : List ℤ) → length a ≡ length b → a ≤V b → add_v a c ≤V add_v b c
≤V-add [] [] c e p = ≤V-refl c
≤V-add [] (y ∷ b) c e p = absurd (omega arith)
≤V-add (x ∷ a) [] c e p = absurd p
≤V-add (x ∷ a) (y ∷ b) [] e p = p
≤V-add (x ∷ a) (y ∷ b) (z ∷ c) e (inl p) = inl (add-lt x y z p)
≤V-add (x ∷ a) (y ∷ b) (z ∷ c) e (inr p) = inr (ap (λ (t : ℤ). t +ℤ z) p.0, ≤V-add a b c (suc_inj e) p.1)
