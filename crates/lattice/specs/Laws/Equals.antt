-- Block B's point is chosen among sixteen equals.
use Rattle.std.specs.Prelude.{◌≡◌, refl, ◌⊎◌, Bool, true, not, ◌&&◌, List, [], ◌∷◌, map, ℕ, zero, suc, ◌+◌, ◌*◌, ◌<◌, ◌≤◌, ℤ, pos, negsuc, nat_abs, ◌+ℤ◌, ◌-ℤ◌, ◌*ℤ◌, length, replicate}
use Rattle.std.proofs.Common.{sym, ◌∙◌, ap, ap₂, inl, inr, ⊎_elim, arith, subst}
use Rattle.std.proofs.Math.Nat.{suc_inj}
use Rattle.integers.specs.Laws.Difference.{by_d, ints, by_d₂, by_d₃}
use Rattle.integers.specs.Vectors.{square, zeros}
use Rattle.lattice.specs.Computed.{le_v}
use Rattle.lattice.specs.Doubled.{par, All, E8, is_point}
use Rattle.lattice.specs.Laws.Parity.{parities}
use Rattle.lattice.specs.Nearest.{cost}

-- the vectors that differ from d by 2 or -2 in one entry
abbrev pub neighbours : List ℤ → List (List ℤ)
neighbours [] = []
neighbours (x ∷ d) = ((x +ℤ pos 2) ∷ d) ∷ ((x -ℤ pos 2) ∷ d) ∷ map (λ (e : List ℤ). x ∷ e) (neighbours d)

abbrev pub Among : List ℤ → List (List ℤ) → Type 0
Among e [] = ⊥
Among e (f ∷ l) = (e ≡ f) ⊎ Among e l

-- a sum of squares is a natural number
square-natural : (x : ℤ) → square x ≡ pos (nat_abs x * nat_abs x)
square-natural (pos n) = refl
square-natural (negsuc n) = refl

cost-natural : (s : ℤ) (d e : List ℤ) → (m : ℕ) × (cost s d e ≡ pos m)
cost-natural s [] e = (0, refl)
cost-natural s (x ∷ d) [] = (0, refl)
cost-natural s (x ∷ d) (y ∷ e) = let r = cost-natural s d e in let n = nat_abs (x -ℤ s *ℤ y) in (n * n + r.0, ap₂ ◌+ℤ◌ (square-natural (x -ℤ s *ℤ y)) r.1)

-- what is left of an entry where the squares come to 0, and to 4 by even numbers
none_left : (r : ℤ) (m : ℕ) → square r +ℤ pos m ≡ pos 0 → (r ≡ pos 0) × (m ≡ 0)
none_left (pos zero) m e = (refl, omega (arith, ap nat_abs e))
none_left (pos (suc n)) m e = absurd (omega (arith, ap nat_abs e))
none_left (negsuc n) m e = absurd (omega (arith, ap nat_abs e))

data Left (r : ℤ) (m : ℕ) : Type 0 where
  same : r ≡ pos 0 → m ≡ 4 → Left r m
  above : r ≡ pos 2 → m ≡ 0 → Left r m
  below : r ≡ negsuc 1 → m ≡ 0 → Left r m

four-left : (r : ℤ) (m : ℕ) → par r ≡ 0 → square r +ℤ pos m ≡ pos 4 → Left r m
four-left (pos zero) m p e = same refl (omega (arith, ap nat_abs e))
four-left (pos (suc zero)) m p e = absurd (omega arith)
four-left (pos (suc (suc zero))) m p e = above refl (omega (arith, ap nat_abs e))
four-left (pos (suc (suc (suc n)))) m p e = absurd (omega (arith, ap nat_abs e))
four-left (negsuc zero) m p e = absurd (omega arith)
four-left (negsuc (suc zero)) m p e = below refl (omega (arith, ap nat_abs e))
four-left (negsuc (suc (suc n))) m p e = absurd (omega (arith, ap nat_abs e))

-- the other side of a difference
other : (r x y : ℤ) → x -ℤ pos 1 *ℤ y ≡ r → y ≡ x -ℤ r
other = by_d₃ _ λ _ _ _ _ _ _. simp ints (omega arith)

-- the entries of d and e differ by even numbers
abbrev Even : List ℤ → List ℤ → Type 0
Even [] e = Unit {0}
Even (x ∷ d) [] = Unit {0}
Even (x ∷ d) (y ∷ e) = (par (x -ℤ pos 1 *ℤ y) ≡ 0) × Even d e

less_none : (x : ℤ) → x -ℤ pos 0 ≡ x
less_none = by_d _ λ _ _. simp ints (omega arith)

none-off : (d e : List ℤ) → length d ≡ length e → cost (pos 1) d e ≡ pos 0 → e ≡ d
none-off [] [] h k = refl
none-off [] (y ∷ e) h k = absurd (omega arith)
none-off (x ∷ d) [] h k = absurd (omega arith)
none-off (x ∷ d) (y ∷ e) h k =
    let c = cost-natural (pos 1) d e in let l = none_left (x -ℤ pos 1 *ℤ y) c.0 (ap (λ (z : ℤ). square (x -ℤ pos 1 *ℤ y) +ℤ z) (sym c.1) ∙ k) in
    ap₂ ◌∷◌ (other (pos 0) x y l.0 ∙ less_none x) (none-off d e (suc_inj h) (c.1 ∙ ap pos l.1))

among-map : (x : ℤ) (e : List ℤ) (l : List (List ℤ)) → Among e l → Among (x ∷ e) (map (λ (f : List ℤ). x ∷ f) l)
among-map x e [] h = absurd h
among-map x e (f ∷ l) (inl h) = inl (ap (λ (g : List ℤ). x ∷ g) h)
among-map x e (f ∷ l) (inr h) = inr (among-map x e l h)

-- a vector whose squares come to 4, by even differences, is a neighbour
four-off : (d e : List ℤ) → length d ≡ length e → Even d e → cost (pos 1) d e ≡ pos 4 → Among e (neighbours d)
four-off [] [] h v k = absurd (omega (arith, ap nat_abs k))
four-off [] (y ∷ e) h v k = absurd (omega arith)
four-off (x ∷ d) [] h v k = absurd (omega arith)
four-off (x ∷ d) (y ∷ e) h v k =
    let c = cost-natural (pos 1) d e in go c.0 c.1 (four-left (x -ℤ pos 1 *ℤ y) c.0 v.0 (ap (λ (z : ℤ). square (x -ℤ pos 1 *ℤ y) +ℤ z) (sym c.1) ∙ k)) (four-off d e (suc_inj h) v.1)
  where
    go : (m : ℕ) → cost (pos 1) d e ≡ pos m → Left (x -ℤ pos 1 *ℤ y) m → (cost (pos 1) d e ≡ pos 4 → Among e (neighbours d)) → Among (y ∷ e) (neighbours (x ∷ d))
    go m q (same a b) f = inr (inr (subst (λ (z : ℤ). Among (z ∷ e) (map (λ (f : List ℤ). x ∷ f) (neighbours d))) (sym (other (pos 0) x y a ∙ less_none x)) (among-map x e (neighbours d) (f (q ∙ ap pos b)))))
    go m q (above a b) f = inr (inl (ap₂ ◌∷◌ (other (pos 2) x y a) (none-off d e (suc_inj h) (q ∙ ap pos b))))
    go m q (below a b) f = inl (ap₂ ◌∷◌ (other (negsuc 1) x y a) (none-off d e (suc_inj h) (q ∙ ap pos b)))

-- odd entries leave at least 1 each
odd-left : (r : ℤ) → par r ≡ 1 → 1 ≤ nat_abs r * nat_abs r
odd-left (pos zero) h = absurd (omega arith)
odd-left (pos (suc n)) h = omega arith
odd-left (negsuc n) h = omega arith

-- every entry of d even
even-minus : (x y : ℤ) (p : ℕ) → par x ≡ 0 → par y ≡ p → p < 2 → par (x -ℤ pos 1 *ℤ y) ≡ p
even-minus = by_d₂ _ λ _ _ _ _ p. simp parities (omega arith)

odd-cost : (d e : List ℤ) → length d ≡ length e → All 0 d → All 1 e → (m : ℕ) → cost (pos 1) d e ≡ pos m → length d ≤ m
odd-cost [] e h a b m k = omega arith
odd-cost (x ∷ d) [] h a b m k = absurd (omega arith)
odd-cost (x ∷ d) (y ∷ e) h a b m k = let c = cost-natural (pos 1) d e in let r : ℤ = x -ℤ pos 1 *ℤ y in
    omega (arith, odd-cost d e (suc_inj h) a.1 b.1 c.0 c.1, odd-left r (even-minus x y 1 a.0 b.0 (omega arith)), ap nat_abs (ap₂ ◌+ℤ◌ (sym (square-natural r)) (sym c.1) ∙ k))

even-all : (d e : List ℤ) → All 0 d → All 0 e → Even d e
even-all [] e a b = tt
even-all (x ∷ d) [] a b = tt
even-all (x ∷ d) (y ∷ e) a b = (even-minus x y 0 a.0 b.0 (omega arith), even-all d e a.1 b.1)

-- block B's input, doubled
abbrev pub input_b : List ℤ
input_b = pos 2 ∷ zeros 7

-- a point of E8 is as near to B's input as its answer 0 exactly where it is one of its sixteen neighbours
pub equals-are : (e : List ℤ) → E8 e → cost (pos 1) input_b e ≡ cost (pos 1) input_b (zeros 8) → Among e (neighbours input_b)
equals-are e h k = ⊎_elim
    (λ a. four-off input_b e (sym h.long) (even-all input_b e evens a) k)
    (λ a. absurd (omega (arith, odd-cost input_b e (sym h.long) evens a 4 k)))
    h.alike
  where
    evens : All 0 input_b
    evens = (refl, (refl, (refl, (refl, (refl, (refl, (refl, (refl, tt))))))))

-- each of them is a point of E8 at that cost, they are sixteen, and no two are the same
abbrev differ : List (List ℤ) → Bool
differ [] = true
differ (e ∷ l) = apart l && differ l
  where
    apart : List (List ℤ) → Bool
    apart [] = true
    apart (f ∷ l) = not (le_v e f && le_v f e) && apart l

pub equals-sixteen : (map is_point (neighbours input_b) ≡ replicate 16 true) × (map (cost (pos 1) input_b) (neighbours input_b) ≡ replicate 16 (pos 4)) × (differ (neighbours input_b) ≡ true)
unfolding is_point
equals-sixteen = (refl, refl, refl)
