-- The two tables are inverse to each other: coefficients and points are inverse linear maps of E8.
use Rattle.std.specs.Prelude.{◌≡◌, refl, List, [], ◌∷◌, map, ℕ, ◌%◌, ℤ, pos, negsuc, nat_abs, ◌+ℤ◌, ◌*ℤ◌, length}
use Rattle.std.proofs.Common.{sym, ◌∙◌, subst, inl, inr, ⊎_elim, arith}
use Rattle.integers.specs.Laws.Difference.{by_d₂}
use Rattle.integers.specs.Laws.Sums.{dot-add, dot-scale}
use Rattle.integers.specs.Vectors.{add_v, scale_v, sum_v, dot}
use Rattle.lattice.specs.Basis.{basis, inverse, apply, times, diag, point_of, coefficients}
use Rattle.lattice.specs.Doubled.{par, All, E8}
use Rattle.lattice.specs.Laws.Halves.{fours}
use Rattle.lattice.specs.Laws.Rows.{four-times, twice-dot, all-rows, par-cases, ones, dot-ones, four-mod, Rows, whole-rows}
use Rattle.lattice.specs.Laws.Tables.{dot-apply, Whole, Based, there_back, back-there}

-- each is the other's inverse
pub inverse-basis : times inverse basis ≡ diag (pos 4) 8
inverse-basis = refl

pub basis-inverse : times basis inverse ≡ diag (pos 4) 8
basis-inverse = refl

-- the rows of the basis but for the last column, halved
half_basis : List (List ℤ)
half_basis =
    (pos 2 ∷ negsuc 0 ∷ pos 0 ∷ pos 0 ∷ pos 0 ∷ pos 0 ∷ pos 0 ∷ pos 0 ∷ [])
    ∷ (pos 0 ∷ pos 1 ∷ negsuc 0 ∷ pos 0 ∷ pos 0 ∷ pos 0 ∷ pos 0 ∷ pos 0 ∷ [])
    ∷ (pos 0 ∷ pos 0 ∷ pos 1 ∷ negsuc 0 ∷ pos 0 ∷ pos 0 ∷ pos 0 ∷ pos 0 ∷ [])
    ∷ (pos 0 ∷ pos 0 ∷ pos 0 ∷ pos 1 ∷ negsuc 0 ∷ pos 0 ∷ pos 0 ∷ pos 0 ∷ [])
    ∷ (pos 0 ∷ pos 0 ∷ pos 0 ∷ pos 0 ∷ pos 1 ∷ negsuc 0 ∷ pos 0 ∷ pos 0 ∷ [])
    ∷ (pos 0 ∷ pos 0 ∷ pos 0 ∷ pos 0 ∷ pos 0 ∷ pos 1 ∷ negsuc 0 ∷ pos 0 ∷ [])
    ∷ (pos 0 ∷ pos 0 ∷ pos 0 ∷ pos 0 ∷ pos 0 ∷ pos 0 ∷ pos 1 ∷ pos 0 ∷ [])
    ∷ (pos 0 ∷ pos 0 ∷ pos 0 ∷ pos 0 ∷ pos 0 ∷ pos 0 ∷ pos 0 ∷ pos 0 ∷ []) ∷ []

-- the rows of the way back but for the first, halved
half_inverse : List (List ℤ)
half_inverse =
    (pos 0 ∷ pos 1 ∷ pos 1 ∷ pos 1 ∷ pos 1 ∷ pos 1 ∷ pos 1 ∷ negsuc 5 ∷ [])
    ∷ (pos 0 ∷ pos 0 ∷ pos 1 ∷ pos 1 ∷ pos 1 ∷ pos 1 ∷ pos 1 ∷ negsuc 4 ∷ [])
    ∷ (pos 0 ∷ pos 0 ∷ pos 0 ∷ pos 1 ∷ pos 1 ∷ pos 1 ∷ pos 1 ∷ negsuc 3 ∷ [])
    ∷ (pos 0 ∷ pos 0 ∷ pos 0 ∷ pos 0 ∷ pos 1 ∷ pos 1 ∷ pos 1 ∷ negsuc 2 ∷ [])
    ∷ (pos 0 ∷ pos 0 ∷ pos 0 ∷ pos 0 ∷ pos 0 ∷ pos 1 ∷ pos 1 ∷ negsuc 1 ∷ [])
    ∷ (pos 0 ∷ pos 0 ∷ pos 0 ∷ pos 0 ∷ pos 0 ∷ pos 0 ∷ pos 1 ∷ negsuc 0 ∷ [])
    ∷ (pos 0 ∷ pos 0 ∷ pos 0 ∷ pos 0 ∷ pos 0 ∷ pos 0 ∷ pos 0 ∷ pos 2 ∷ []) ∷ []

last : List ℤ
last = pos 0 ∷ pos 0 ∷ pos 0 ∷ pos 0 ∷ pos 0 ∷ pos 0 ∷ pos 0 ∷ pos 1 ∷ []

-- every list of eight coefficients gives a point
module _ (c : List ℤ) where
  all8 : All (par (dot last c)) (apply basis c)
  unfolding last half_basis
  all8 = all-rows last c half_basis

  sum8 : sum_v (apply basis c) ≡ pos 4 *ℤ dot (pos 1 ∷ pos 0 ∷ pos 0 ∷ pos 0 ∷ pos 0 ∷ pos 0 ∷ pos 0 ∷ pos 2 ∷ []) c
  sum8 = sym (dot-ones 8 (apply basis c) refl) ∙ dot-apply (ones 8) basis c ∙ dot-scale (pos 4) (pos 1 ∷ pos 0 ∷ pos 0 ∷ pos 0 ∷ pos 0 ∷ pos 0 ∷ pos 0 ∷ pos 2 ∷ []) c

  point8 : E8 (apply basis c)
  point8 = record {
    long = refl;
    alike = ⊎_elim (λ h. inl (subst (λ (p : ℕ). All p (apply basis c)) h all8)) (λ h. inr (subst (λ (p : ℕ). All p (apply basis c)) h all8)) (par-cases (dot last c));
    four = rw sum8 (four-times (dot (pos 1 ∷ pos 0 ∷ pos 0 ∷ pos 0 ∷ pos 0 ∷ pos 0 ∷ pos 0 ∷ pos 2 ∷ []) c));
  }

-- a row of eight with an even sum
record Even8 (r : List ℤ) : Type 0 where
  long : length r ≡ 8
  sum : par (sum_v r) ≡ 0

half_inverse-even : Rows Even8 half_inverse
unfolding half_inverse
half_inverse-even =
    let good : (r : List ℤ) → length r ≡ 8 → par (sum_v r) ≡ 0 → Even8 r = λ r h k. record { long = h; sum = k } in
    (good _ refl refl, (good _ refl refl, (good _ refl refl, (good _ refl refl, (good _ refl refl, (good _ refl refl, (good _ refl refl, tt)))))))

first-four : (s x : ℤ) → nat_abs s % 4 ≡ 0 → nat_abs (s +ℤ negsuc 7 *ℤ x) % 4 ≡ 0
first-four = by_d₂ _ λ _ _ _ _. simp fours (omega arith)

-- of every point the rows of the way back give multiples of 4
module _ (e : List ℤ) (h : E8 e) where
  first8 : nat_abs (dot (add_v (ones 8) (scale_v (negsuc 7) last)) e) % 4 ≡ 0
  first8 = rw (dot-add (ones 8) (scale_v (negsuc 7) last) e, dot-ones 8 e h.long, dot-scale (negsuc 7) last e) (first-four (sum_v e) (dot last e) h.four)

  rest8 : Whole 4 (apply (map (scale_v (pos 2)) half_inverse) e)
  rest8 = ⊎_elim
      (λ a. whole-rows Even8 e (λ r g. twice-dot 0 (omega arith) r e (g.long ∙ sym h.long) a g.sum) half_inverse half_inverse-even)
      (λ a. whole-rows Even8 e (λ r g. twice-dot 1 (omega arith) r e (g.long ∙ sym h.long) a g.sum) half_inverse half_inverse-even)
      h.alike

  whole8 : Whole 4 (apply inverse e)
  unfolding last half_inverse
  whole8 = (four-mod (dot (add_v (ones 8) (scale_v (negsuc 7) last)) e) first8, rest8)

pub based : Based 8 4 basis inverse E8
based = record { some = omega arith; rows = refl; back-rows = refl; there = inverse-basis; back = basis-inverse; long = λ e h. h.long; whole = whole8; points = λ c h. point8 c }

-- eight coefficients give a point of E8
pub point_of-in : (c : List ℤ) → length c ≡ 8 → E8 (point_of c)
point_of-in c h = point8 c

-- and are its coefficients; a point is that of its coefficients
pub coefficients-point_of : (c : List ℤ) → length c ≡ 8 → coefficients (point_of c) ≡ c
coefficients-point_of = there_back 8 4 basis inverse E8 based

pub point_of-coefficients : (e : List ℤ) → E8 e → point_of (coefficients e) ≡ e
point_of-coefficients = back-there 8 4 basis inverse E8 based
