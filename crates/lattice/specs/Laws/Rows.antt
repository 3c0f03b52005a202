-- Vectors of one parity: what it says of their inner products with the rows of a table.
use Rattle.std.specs.Prelude.{◌≡◌, refl, ◌⊎◌, List, [], ◌∷◌, map, ℕ, zero, suc, ◌%◌, ◌<◌, ℤ, pos, negsuc, nat_abs, ◌+ℤ◌, ◌*ℤ◌, length, replicate}
use Rattle.std.proofs.Common.{sym, ◌∙◌, ap, inl, inr, arith}
use Rattle.std.proofs.Math.Nat.{suc_inj}
use Rattle.std.proofs.Math.Decide.{ℕ_discrete}
use Rattle.std.proofs.lemmas.List.{length-map}
use Rattle.integers.specs.Floor.{floor_div, floor_mod}
use Rattle.integers.specs.Laws.Difference.{ints, by_d₂, by_d₄}
use Rattle.integers.specs.Laws.Sizes.{abs-mul}
use Rattle.integers.specs.Laws.Sums.{dot-add, dot-scale}
use Rattle.integers.specs.Vectors.{add_v, scale_v, sum_v, dot}
use Rattle.lattice.specs.Basis.{apply, floors}
use Rattle.lattice.specs.Computed.{spread}
use Rattle.lattice.specs.Doubled.{par, All}
use Rattle.lattice.specs.Laws.Halves.{halve, spread-halves}
use Rattle.lattice.specs.Laws.Parity.{parities}
use Rattle.lattice.specs.Laws.Tables.{Whole}

-- a number of parity p is twice its half and p
pub half_of : (p : ℕ) → p < 2 → (x : ℤ) → par x ≡ p → x ≡ pos 2 *ℤ floor_div x 2 +ℤ pos p
half_of p h x a = sym (halve p h x a)

spread-step : (p : ℕ) (x y d s : ℤ) → x *ℤ (pos 2 *ℤ y +ℤ pos p) +ℤ (pos 2 *ℤ d +ℤ pos p *ℤ s) ≡ pos 2 *ℤ (x *ℤ y +ℤ d) +ℤ pos p *ℤ (x +ℤ s)
spread-step p = by_d₄ _ λ _ _ _ _ _ _ _ _. simp ints (omega arith)

spread-nil : (p : ℕ) → pos 0 ≡ pos 2 *ℤ pos 0 +ℤ pos p *ℤ pos 0
spread-nil p = simp ints (omega arith)

dot-spread : (p : ℕ) (r f : List ℤ) → length r ≡ length f → dot r (spread p f) ≡ pos 2 *ℤ dot r f +ℤ pos p *ℤ sum_v r
dot-spread p [] f h = spread-nil p
dot-spread p (x ∷ r) [] h = absurd (omega arith)
dot-spread p (x ∷ r) (y ∷ f) h = ap (λ (t : ℤ). x *ℤ (pos 2 *ℤ y +ℤ pos p) +ℤ t) (dot-spread p r f (suc_inj h)) ∙ spread-step p x y (dot r f) (sum_v r)

pub four-times : (z : ℤ) → nat_abs (pos 4 *ℤ z) % 4 ≡ 0
four-times z = rw (abs-mul (pos 4) z) (omega arith)

twice-step : (p : ℕ) (d k : ℤ) → pos 2 *ℤ (pos 2 *ℤ d +ℤ pos p *ℤ (pos 2 *ℤ k +ℤ pos 0)) ≡ pos 4 *ℤ (d +ℤ pos p *ℤ k)
twice-step p = by_d₂ _ λ _ _ _ _. simp ints (omega arith)

-- the same of a vector of parity p
module _ (p : ℕ) (p< : p < 2) (r e : List ℤ) (h : length r ≡ length e) (a : All p e) where
  pub dot-all : dot r e ≡ pos 2 *ℤ dot r (floors 2 e) +ℤ pos p *ℤ sum_v r
  dot-all = ap (dot r) (sym (spread-halves p p< e a)) ∙ dot-spread p r (floors 2 e) (h ∙ sym (length-map e _))

  -- twice its inner product with a vector of even sum is a multiple of 4
  pub twice-dot : par (sum_v r) ≡ 0 → nat_abs (dot (scale_v (pos 2) r) e) % 4 ≡ 0
  twice-dot k = rw (dot-scale (pos 2) r e, dot-all) (rw (ap (λ (s : ℤ). pos 2 *ℤ (pos 2 *ℤ dot r (floors 2 e) +ℤ pos p *ℤ s)) (half_of 0 (omega arith) (sum_v r) k) ∙ twice-step p (dot r (floors 2 e)) (floor_div (sum_v r) 2)) (four-times (dot r (floors 2 e) +ℤ pos p *ℤ floor_div (sum_v r) 2)))

-- rows that are twice something and a common vector u give entries of one parity
row_step : (x u : ℤ) → par (pos 2 *ℤ x +ℤ u) ≡ par u
row_step = by_d₂ _ λ _ _ _ _. simp parities (omega arith)

pub all-rows : (u c : List ℤ) (M : List (List ℤ)) → All (par (dot u c)) (apply (map (λ (r : List ℤ). add_v (scale_v (pos 2) r) u) M) c)
all-rows u c [] = tt
all-rows u c (r ∷ M) = (ap par (dot-add (scale_v (pos 2) r) u c ∙ ap (λ (t : ℤ). t +ℤ dot u c) (dot-scale (pos 2) r c)) ∙ row_step (dot r c) (dot u c), all-rows u c M)

pub par-cases : (z : ℤ) → (par z ≡ 0) ⊎ (par z ≡ 1)
par-cases z = elim (ℕ_discrete (par z) 0) [ yes h ↦ inl h | no h ↦ inr (omega arith) ]

-- the sum is the inner product with ones
abbrev pub ones : ℕ → List ℤ
ones n = replicate n (pos 1)

one-step : (x s : ℤ) → pos 1 *ℤ x +ℤ s ≡ x +ℤ s
one-step = by_d₂ _ λ _ _ _ _. simp ints (omega arith)

pub dot-ones : (n : ℕ) (e : List ℤ) → length e ≡ n → dot (ones n) e ≡ sum_v e
dot-ones zero [] h = refl
dot-ones zero (x ∷ e) h = absurd (omega arith)
dot-ones (suc n) [] h = absurd (omega arith)
dot-ones (suc n) (x ∷ e) h = ap (λ (t : ℤ). pos 1 *ℤ x +ℤ t) (dot-ones n e (suc_inj h)) ∙ one-step x (sum_v e)

-- a multiple of 4 has the floor remainder 0, and only it
pub four-mod : (z : ℤ) → nat_abs z % 4 ≡ 0 → floor_mod z 4 ≡ 0
four-mod (pos n) h = h
four-mod (negsuc n) h = omega arith

pub mod-four : (z : ℤ) → floor_mod z 4 ≡ 0 → nat_abs z % 4 ≡ 0
mod-four (pos n) h = h
mod-four (negsuc n) h = omega arith

-- every row of the table is P
abbrev pub Rows : (List ℤ → Type 0) → List (List ℤ) → Type 0
Rows P [] = Unit {0}
Rows P (r ∷ M) = P r × Rows P M

pub whole-rows : (P : List ℤ → Type 0) (e : List ℤ) → ((r : List ℤ) → P r → nat_abs (dot (scale_v (pos 2) r) e) % 4 ≡ 0) → (M : List (List ℤ)) → Rows P M → Whole 4 (apply (map (scale_v (pos 2)) M) e)
whole-rows P e f [] h = tt
whole-rows P e f (r ∷ M) h = (four-mod (dot (scale_v (pos 2) r) e) (f r h.0), whole-rows P e f M h.1)
