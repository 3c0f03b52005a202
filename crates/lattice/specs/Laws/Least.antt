-- The least vector of a class: the smallest cost, and among equal costs the lexicographically smallest.
use Rattle.std.specs.Prelude.{◌≡◌, refl, ◌⊎◌, Bool, true, false, cond, List, [], ◌∷◌, ℤ, ◌+ℤ◌, ◌≤ℤ◌, ◌<ℤ◌}
use Rattle.std.proofs.Common.{sym, ◌∙◌, ap, subst, inl, inr, ⊎_elim, arith}
use Rattle.std.specs.Int.Signed.{le_z, lt_z, clash_ℤ}
use Rattle.integers.specs.Laws.Difference.{ints, by_d₃, by_d₄}
use Rattle.integers.specs.Laws.Lexicographic.{≤V-antisym, ≤V-trans}
use Rattle.integers.specs.Laws.Signed.{≤ℤ-antisym, <ℤ-weak, ≡→≤ℤ, trichotomy}
use Rattle.integers.specs.Laws.Sizes.{le_z-true, le_z-false, lt_z-true, lt_z-false}
use Rattle.integers.specs.Vectors.{◌≤V◌}
use Rattle.lattice.specs.Computed.{le_v, lesser}
use Rattle.lattice.specs.Nearest.{cost}

pub record Least (K : List ℤ → Type 0) (cost : List ℤ → ℤ) (f : List ℤ) : Type 0 where
  pub member : K f
  pub least : (g : List ℤ) → K g → (cost f ∷ f) ≤V (cost g ∷ g)

-- what the test says
abbrev pub Tests : List ℤ → List ℤ → Bool → Type 0
Tests a b true = a ≤V b
Tests a b false = b ≤V a

le_v-tests : (a b : List ℤ) → Tests a b (le_v a b)
le_v-tests [] b = tt
le_v-tests (x ∷ a) [] = tt
le_v-tests (x ∷ a) (y ∷ b) = go (lt_z x y) refl (le_z x y) refl (le_v a b) (le_v-tests a b)
  where
    go : (s : Bool) → lt_z x y ≡ s → (t : Bool) → le_z x y ≡ t → (u : Bool) → Tests a b u
        → Tests (x ∷ a) (y ∷ b) (elim s [ true ↦ true | false ↦ elim t [ true ↦ u | false ↦ false ] ])
    go true p t q u h = inl (lt_z-true x y p)
    go false p true q true h = inr (≤ℤ-antisym x y (le_z-true x y q) (lt_z-false x y p), h)
    go false p true q false h = inr (≤ℤ-antisym y x (lt_z-false x y p) (le_z-true x y q), h)
    go false p false q u h = inl (le_z-false x y q)

lesser-ind : (P : List ℤ → Type 0) (cost : List ℤ → ℤ) (f g : List ℤ)
    → ((cost f ∷ f) ≤V (cost g ∷ g) → P f) → ((cost g ∷ g) ≤V (cost f ∷ f) → P g) → P (lesser cost f g)
unfolding lesser
lesser-ind P cost f g p q = go (le_v (cost f ∷ f) (cost g ∷ g)) (le_v-tests (cost f ∷ f) (cost g ∷ g))
  where
    go : (b : Bool) → Tests (cost f ∷ f) (cost g ∷ g) b → P (cond b f g)
    go true h = p h
    go false h = q h

-- where the heads differ, what stands behind them does not matter
pub le_v-heads : (a b x y : ℤ) (f g : List ℤ) → (x ≡ y → ⊥)
    → le_v (a ∷ x ∷ f) (b ∷ y ∷ g) ≡ elim (lt_z a b) [ true ↦ true | false ↦ elim (le_z a b) [ true ↦ lt_z x y | false ↦ false ] ]
le_v-heads a b x y f g n = ap (λ (t : Bool). elim (lt_z a b) [ true ↦ true | false ↦ elim (le_z a b) [ true ↦ t | false ↦ false ] ]) (go (lt_z x y) refl (le_z x y) refl)
  where
    go : (s : Bool) → lt_z x y ≡ s → (t : Bool) → le_z x y ≡ t → elim s [ true ↦ true | false ↦ elim t [ true ↦ le_v f g | false ↦ false ] ] ≡ s
    go true p t q = refl
    go false p true q = absurd (n (≤ℤ-antisym x y (le_z-true x y q) (lt_z-false x y p)))
    go false p false q = refl

-- there is one least
pub least-unique : {K : List ℤ → Type 0} {cost : List ℤ → ℤ} {f g : List ℤ} → Least K cost f → Least K cost g → f ≡ g
least-unique {cost} {f} {g} p q = let e : cost f ∷ f ≡ cost g ∷ g = ≤V-antisym _ _ (p.least g q.member) (q.least f p.member) in cc

-- the least of two classes together is the lesser of their least
module _ {K L M : List ℤ → Type 0} {cost : List ℤ → ℤ} {f g : List ℤ}
    (k : (h : List ℤ) → K h → M h) (l : (h : List ℤ) → L h → M h) (s : (h : List ℤ) → M h → K h ⊎ L h)
    (p : Least K cost f) (q : Least L cost g) where
  pub least-left : (cost f ∷ f) ≤V (cost g ∷ g) → Least M cost f
  least-left e = record { member = k f p.member; least = λ h m. ⊎_elim (p.least h) (λ n. ≤V-trans (cost f ∷ f) (cost g ∷ g) (cost h ∷ h) e (q.least h n)) (s h m) }

  pub least-right : (cost g ∷ g) ≤V (cost f ∷ f) → Least M cost g
  least-right e = record { member = l g q.member; least = λ h m. ⊎_elim (λ n. ≤V-trans (cost g ∷ g) (cost f ∷ f) (cost h ∷ h) e (p.least h n)) (q.least h) (s h m) }

  pub least-of-two : Least M cost (lesser cost f g)
  least-of-two = lesser-ind (Least M cost) cost f g least-left least-right

-- a map between classes that keeps costs and the order takes the least to the least
pub least-map : {K L : List ℤ → Type 0} {cost cost' : List ℤ → ℤ} (φ ψ : List ℤ → List ℤ)
    → ((f : List ℤ) → K f → L (φ f)) → ((g : List ℤ) → L g → K (ψ g) × (φ (ψ g) ≡ g))
    → ((f : List ℤ) → K f → cost' (φ f) ≡ cost f) → ((f g : List ℤ) → K f → K g → f ≤V g → φ f ≤V φ g)
    → {f : List ℤ} → Least K cost f → Least L cost' (φ f)
least-map {K} {L} {cost} {cost'} φ ψ «into» onto same mono {f} p = record { member = «into» f p.member; least = λ g l. go g (onto g l).0 (onto g l).1 }
  where
    up : (g : List ℤ) → K g → (cost f ∷ f) ≤V (cost g ∷ g) → (cost' (φ f) ∷ φ f) ≤V (cost' (φ g) ∷ φ g)
    up g k (inl h) = rw (same f p.member, same g k) (inl h)
    up g k (inr h) = inr (same f p.member ∙ h.0 ∙ sym (same g k), mono f g p.member k h.1)

    go : (g : List ℤ) → K (ψ g) → φ (ψ g) ≡ g → (cost' (φ f) ∷ φ f) ≤V (cost' g ∷ g)
    go g k e = subst (λ (h : List ℤ). (cost' (φ f) ∷ φ f) ≤V (cost' h ∷ h)) e (up (ψ g) k (p.least (ψ g) k))

sum-< : (a b c d : ℤ) → a <ℤ b → c ≤ℤ d → (a +ℤ c) <ℤ (b +ℤ d)
sum-< = by_d₄ _ λ _ _ _ _ _ _ _ _. simp ints (omega arith)

sum-<' : (a b c : ℤ) → b <ℤ c → (a +ℤ b) <ℤ (a +ℤ c)
sum-<' = by_d₃ _ λ _ _ _ _ _ _. simp ints (omega arith)

pub heads : (c d : ℤ) (f g : List ℤ) → (c ∷ f) ≤V (d ∷ g) → c ≤ℤ d
heads c d f g (inl h) = <ℤ-weak c d h
heads c d f g (inr h) = ≡→≤ℤ c d h.0

-- one more entry in front: a no dearer than b, c no later than d at the same cost
pub cons-≤V : (a b c d x y : ℤ) (f g : List ℤ) → a ≤ℤ b → (a ≡ b → x ≤ℤ y) → (c ∷ f) ≤V (d ∷ g) → ((a +ℤ c) ∷ x ∷ f) ≤V ((b +ℤ d) ∷ y ∷ g)
cons-≤V a b c d x y f g p q h = trichotomy a b
    (λ l. inl (sum-< a b c d l (heads c d f g h)))
    (λ e. rw (← e) (go (q e) h))
    (λ l. clash_ℤ l p)
  where
    go : x ≤ℤ y → (c ∷ f) ≤V (d ∷ g) → ((a +ℤ c) ∷ x ∷ f) ≤V ((a +ℤ d) ∷ y ∷ g)
    go l (inl k) = inl (sum-<' a c d k)
    go l (inr k) = inr (ap (λ (t : ℤ). a +ℤ t) k.0, trichotomy x y inl (λ e. inr (e, k.1)) (λ m. clash_ℤ m l))

-- a class, said in another way
pub least-same : {K L : List ℤ → Type 0} {cost : List ℤ → ℤ} {f : List ℤ} → ((h : List ℤ) → K h → L h) → ((h : List ℤ) → L h → K h) → Least K cost f → Least L cost f
least-same {f} k l p = record { member = k f p.member; least = λ g h. p.least g (l g h) }
