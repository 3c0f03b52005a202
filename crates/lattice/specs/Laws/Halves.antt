-- From D_n to the doubled points of one parity, and to both parities together.
use Rattle.std.specs.Prelude.{◌≡◌, refl, ◌⊎◌, ◌↔◌, List, [], ◌∷◌, ℕ, suc, ◌+◌, ◌*◌, ◌/◌, ◌%◌, ◌<◌, ℤ, pos, nat_abs, ◌+ℤ◌, ◌-ℤ◌, ◌*ℤ◌, length, ◌<ℤ◌}
use Rattle.std.proofs.Common.{sym, ◌∙◌, ap, ap₂, subst, ⊎_elim, arith}
use Rattle.std.proofs.Math.Logic.{inl, inr}
use Rattle.std.proofs.Math.Decide.{dec_le}
use Rattle.std.proofs.lemmas.List.{length-map}
use Rattle.integers.specs.Floor.{floor_div, floor_mod}
use Rattle.integers.specs.Laws.Difference.{D, abs-D, by_d, ints, by_d₂, by_d₃}
use Rattle.integers.specs.Laws.Floors.{floor_mod-lt, floor-split}
use Rattle.integers.specs.Vectors.{square, sum_v, ◌≤V◌}
use Rattle.lattice.specs.Basis.{floors}
use Rattle.lattice.specs.Computed.{spread, lower, nearest_half, nearest_point}
use Rattle.lattice.specs.Doubled.{par, All, Half, Doubled}
use Rattle.lattice.specs.Laws.Dn.{Summed, nearest_d-least}
use Rattle.lattice.specs.Laws.Least.{Least, least-of-two, least-map}
use Rattle.lattice.specs.Laws.Parity.{parities}
use Rattle.lattice.specs.Nearest.{cost}

pub four-D : (a b : ℕ) → (nat_abs (D a b) % 4 ≡ 0) ↔ ((a + 3 * b) % 4 ≡ 0)
four-D a b = simp abs-D (omega arith)

pub ruleset fours = (four-D, parities)

spread-step : (p n : ℕ) (y σ : ℤ) → pos 2 *ℤ y +ℤ pos p +ℤ (pos 2 *ℤ σ +ℤ pos (p * n)) ≡ pos 2 *ℤ (y +ℤ σ) +ℤ pos (p * suc n)
spread-step p n = by_d₂ _ λ _ _ _ _. simp ints (omega arith)

spread-nil : (p : ℕ) → pos 0 ≡ pos 2 *ℤ pos 0 +ℤ pos (p * 0)
spread-nil p = simp ints (omega arith)

spread-sum : (p : ℕ) (f : List ℤ) → sum_v (spread p f) ≡ pos 2 *ℤ sum_v f +ℤ pos (p * length f)
spread-sum p [] = spread-nil p
spread-sum p (y ∷ f) = ap (λ (t : ℤ). pos 2 *ℤ y +ℤ pos p +ℤ t) (spread-sum p f) ∙ spread-step p (length f) y (sum_v f)

two-four : (m : ℕ) → m % 4 ≡ 0 → (σ : ℤ) → (nat_abs σ % 2 ≡ 0) ↔ (nat_abs (pos 2 *ℤ σ +ℤ pos m) % 4 ≡ 0)
two-four m h = by_d _ λ a b. simp fours (omega arith, λ e. elim (dec_le ((a + b) % 2) 0) [ yes l ↦ omega arith | no l ↦ absurd (odd_even ((a + b) / 2 + m / 4 + b) ((2 * a + m + 3 * (2 * b)) / 4) (omega arith)) ])
  where
    odd_even : (x y : ℕ) → 2 * x + 1 ≡ 2 * y → ⊥
    odd_even x y e = omega arith

spread-par : (p : ℕ) → p < 2 → (y : ℤ) → par (pos 2 *ℤ y +ℤ pos p) ≡ p
spread-par p h = by_d _ λ _ _. simp parities (omega arith)

spread-all : (p : ℕ) → p < 2 → (f : List ℤ) → All p (spread p f)
spread-all p h [] = tt
spread-all p h (y ∷ f) = (spread-par p h y, spread-all p h f)

halve-step : (p r : ℕ) → p < 2 → r < 2 → (x q : ℤ) → x ≡ pos 2 *ℤ q +ℤ pos r → par x ≡ p → pos 2 *ℤ q +ℤ pos p ≡ x
halve-step p r h k = by_d₂ _ λ _ _ _ _. simp parities (omega arith)

pub halve : (p : ℕ) → p < 2 → (x : ℤ) → par x ≡ p → pos 2 *ℤ floor_div x 2 +ℤ pos p ≡ x
halve p h x = halve-step p (floor_mod x 2) h (floor_mod-lt x 2 (omega arith)) x (floor_div x 2) (floor-split x 2 (omega arith))

-- entries of parity p are twice their halves and p
pub spread-halves : (p : ℕ) → p < 2 → (e : List ℤ) → All p e → spread p (floors 2 e) ≡ e
spread-halves p h [] a = refl
spread-halves p h (x ∷ e) a = ap₂ ◌∷◌ (halve p h x a.0) (spread-halves p h e a.1)

lt-step : (p : ℕ) (x y : ℤ) → x <ℤ y → (pos 2 *ℤ x +ℤ pos p) <ℤ (pos 2 *ℤ y +ℤ pos p)
lt-step p = by_d₂ _ λ _ _ _ _. simp ints (omega arith)

spread-≤V : (p : ℕ) (f g : List ℤ) → f ≤V g → spread p f ≤V spread p g
spread-≤V p [] g h = tt
spread-≤V p (x ∷ f) [] h = absurd h
spread-≤V p (x ∷ f) (y ∷ g) (inl h) = inl (lt-step p x y h)
spread-≤V p (x ∷ f) (y ∷ g) (inr h) = inr (ap (λ (t : ℤ). pos 2 *ℤ t +ℤ pos p) h.0, spread-≤V p f g h.1)

cost_step : (p : ℕ) (x s y : ℤ) → x -ℤ s *ℤ (pos 2 *ℤ y +ℤ pos p) ≡ x -ℤ s *ℤ pos p -ℤ pos 2 *ℤ s *ℤ y
cost_step p = by_d₃ _ λ _ _ _ _ _ _. simp ints (omega arith)

pub cost-spread : (p : ℕ) (s : ℤ) (d f : List ℤ) → cost s d (spread p f) ≡ cost (pos 2 *ℤ s) (lower s p d) f
cost-spread p s [] f = refl
cost-spread p s (x ∷ d) [] = refl
cost-spread p s (x ∷ d) (y ∷ f) = ap₂ ◌+ℤ◌ (ap square (cost_step p x s y)) (cost-spread p s d f)

pub double-pos : (s : ℤ) → pos 0 <ℤ s → pos 0 <ℤ (pos 2 *ℤ s)
double-pos = by_d _ λ _ _. simp ints (omega arith)

module _ (s : ℤ) (s> : pos 0 <ℤ s) (n : ℕ) (d : List ℤ) (long : length d ≡ n) where
  module _ (p : ℕ) (p< : p < 2) (whole : p * n % 4 ≡ 0) where
    into-half : (f : List ℤ) → Summed 0 (lower s p d) f → Half p n (spread p f)
    into-half f h =
        let l : length f ≡ n = h.long ∙ length-map d _ ∙ long in
        record {
          long = length-map f _ ∙ l;
          alike = spread-all p p< f;
          four = rw (spread-sum p f) ((two-four (p * length f) (rw l whole) (sum_v f)).0 h.parity);
        }

    onto-half : (e : List ℤ) → Half p n e → Summed 0 (lower s p d) (floors 2 e) × (spread p (floors 2 e) ≡ e)
    onto-half e h =
        let q : spread p (floors 2 e) ≡ e = spread-halves p p< e h.alike in
        let l : length (floors 2 e) ≡ n = length-map e _ ∙ h.long in (
          record {
            long = l ∙ sym (length-map d _ ∙ long);
            parity = (two-four (p * length (floors 2 e)) (rw l whole) (sum_v (floors 2 e))).1 (subst (λ (t : ℤ). nat_abs t % 4 ≡ 0) (ap sum_v (sym q) ∙ spread-sum p (floors 2 e)) h.four);
          },
          q,
        )

    pub nearest_half-least : Least (Half p n) (cost s d) (nearest_half p s d)
    unfolding nearest_half
    nearest_half-least = least-map (spread p) (floors 2) into-half onto-half (λ f h. cost-spread p s d f) (λ f g h k. spread-≤V p f g) (nearest_d-least (pos 2 *ℤ s) (double-pos s s>) (lower s p d))

  whole-half : (e : List ℤ) → Doubled n e → Half 0 n e ⊎ Half 1 n e
  whole-half e h = ⊎_elim (λ a. inl (record { long = h.long; alike = a; four = h.four })) (λ a. inr (record { long = h.long; alike = a; four = h.four })) h.alike

  -- no point of the lattice is nearer than `near`, and none as near comes before it
  pub nearest_point-least : n % 4 ≡ 0 → Least (Doubled n) (cost s d) (nearest_point s d)
  unfolding nearest_point
  nearest_point-least four = least-of-two (λ e h. record { long = h.long; alike = inl h.alike; four = h.four }) (λ e h. record { long = h.long; alike = inr h.alike; four = h.four }) whole-half
      (nearest_half-least 0 (omega arith) (omega arith)) (nearest_half-least 1 (omega arith) (omega arith))
