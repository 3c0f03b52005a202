-- What a test says that came out true, and when it does.
use Rattle.std.specs.Prelude.{◌≡◌, refl, Bool, true, false, ◌&&◌, List, [], ◌∷◌, ℕ, zero, suc, ◌≤◌, T, ℤ, pos, neg_ℤ, nat_abs, length, ◌≤ℤ◌}
use Rattle.std.proofs.Common.{ap₂, arith}
use Rattle.std.specs.Int.Signed.{le_z, pos-nat_abs, yes_non_neg}
use Rattle.integers.specs.Laws.Difference.{by_d, ints}
use Rattle.integers.specs.Laws.Linear.{abs-parts, Z}
use Rattle.integers.specs.Laws.Sizes.{le_z-true}
use Rattle.integers.specs.Vectors.{«at», Bounded, Sized, within, small}

-- both tests of a pair
pub and-true : (a b : Bool) → (a && b) ≡ true → (a ≡ true) × (b ≡ true)
and-true true b e = (refl, e)
and-true false true e = (e, refl)
and-true false false e = (e, e)

pub within-true : (least most x : ℤ) → within least most x ≡ true → (least ≤ℤ x) × (x ≤ℤ most)
within-true least most x e = let t = and-true (le_z least x) (le_z x most) e in (le_z-true least x t.0, le_z-true x most t.1)

-- a number between two naturals is a natural between them
pub between : (a b : ℕ) (x : ℤ) → within (pos a) (pos b) x ≡ true → (pos (nat_abs x) ≡ x) × (a ≤ nat_abs x) × (nat_abs x ≤ b)
between a b x e = let t = within-true (pos a) (pos b) x e in (pos-nat_abs x (yes_non_neg {z = x} (omega (arith, Z, t.0))), omega (arith, Z, abs-parts x, t.0, t.1), omega (arith, Z, abs-parts x, t.0, t.1))

magnitude : (B : ℕ) (x : ℤ) → neg_ℤ (pos B) ≤ℤ x → x ≤ℤ pos B → nat_abs x ≤ B
magnitude B = by_d _ λ _ _. simp ints (λ h k. omega arith)

pub small-bounded : (B : ℕ) (a : List ℤ) → small B a ≡ true → Bounded B a
small-bounded B [] e = λ i. omega arith
small-bounded B (x ∷ a) e =
    let t = and-true (within (neg_ℤ (pos B)) (pos B) x) (small B a) e in let w = within-true (neg_ℤ (pos B)) (pos B) x t.0 in
    λ i. go (magnitude B x w.0 w.1) (small-bounded B a t.1) i
  where
    go : nat_abs x ≤ B → Bounded B a → (i : ℕ) → nat_abs («at» (x ∷ a) i) ≤ B
    go h f zero = h
    go h f (suc i) = f i

holds : (t : Bool) → T t → t ≡ true
holds true h = refl
holds false h = absurd h

not-below : (B : ℕ) (x : ℤ) → nat_abs x ≤ B → neg_ℤ (pos B) ≤ℤ x
not-below B = by_d _ λ _ _. simp ints (λ h. omega arith)

not-past : (B : ℕ) (x : ℤ) → nat_abs x ≤ B → x ≤ℤ pos B
not-past B = by_d _ λ _ _. simp ints (λ h. omega arith)

-- a vector of small entries passes the test
pub bounded-small : (B : ℕ) (a : List ℤ) → Bounded B a → small B a ≡ true
bounded-small B [] h = refl
bounded-small B (x ∷ a) h =
    ap₂ ◌&&◌
    (ap₂ ◌&&◌ (holds (le_z (neg_ℤ (pos B)) x) (not-below B x (h zero)).le) (holds (le_z x (pos B)) (not-past B x (h zero)).le))
    (bounded-small B a (λ i. h (suc i)))

pub sized-small : (n B : ℕ) (a : List ℤ) → length a ≡ n → small B a ≡ true → Sized n B a
sized-small n B a h e = record { long = h; small = small-bounded B a e }
