-- The coefficients and points of E8 written out, coordinate by coordinate, as 01 has them.
use Rattle.std.specs.Prelude.{◌≡◌, [], ◌∷◌, ℕ, ◌*◌, ℤ, pos, negsuc, neg_ℤ, ◌+ℤ◌, ◌-ℤ◌, ◌*ℤ◌}
use Rattle.std.proofs.Common.{◌∙◌, ap, arith}
use Rattle.std.proofs.Math.IntN.{+ℤ_idl, +ℤ_idr, +ℤ_assoc, zero-*ℤ}
use Rattle.integers.specs.Floor.{floor_div, floor_mod}
use Rattle.integers.specs.Laws.Difference.{by_d, ints, by_d₄}
use Rattle.integers.specs.Laws.Floors.{floor_mod-lt, floor-split, floor-unique}
use Rattle.integers.specs.Vectors.{dot}
use Rattle.lattice.specs.Basis.{point_of, coefficients}

one-* : (x : ℤ) → pos 1 *ℤ x ≡ x
one-* = by_d _ λ _ _. simp ints (omega arith)

less_two : (x : ℤ) → negsuc 1 *ℤ x ≡ neg_ℤ (pos 2 *ℤ x)
less_two = by_d _ λ _ _. simp ints (omega arith)

pub point_of-written : (c1 c2 c3 c4 c5 c6 c7 c8 : ℤ) → point_of (c1 ∷ c2 ∷ c3 ∷ c4 ∷ c5 ∷ c6 ∷ c7 ∷ c8 ∷ [])
    ≡ (pos 4 *ℤ c1 -ℤ pos 2 *ℤ c2 +ℤ c8) ∷ (pos 2 *ℤ c2 -ℤ pos 2 *ℤ c3 +ℤ c8) ∷ (pos 2 *ℤ c3 -ℤ pos 2 *ℤ c4 +ℤ c8) ∷ (pos 2 *ℤ c4 -ℤ pos 2 *ℤ c5 +ℤ c8) ∷ (pos 2 *ℤ c5 -ℤ pos 2 *ℤ c6 +ℤ c8) ∷ (pos 2 *ℤ c6 -ℤ pos 2 *ℤ c7 +ℤ c8) ∷ (pos 2 *ℤ c7 +ℤ c8) ∷ c8 ∷ []
point_of-written c1 c2 c3 c4 c5 c6 c7 c8 = simp (zero-*ℤ, one-*, less_two, +ℤ_idl, +ℤ_idr, +ℤ_assoc)

-- a quarter of twice x is half of x
twice : (q : ℤ) (r : ℕ) → pos 2 *ℤ (pos 2 *ℤ q +ℤ pos r) ≡ pos 4 *ℤ q +ℤ pos (2 * r)
twice = by_d _ λ _ _ r. simp ints (omega arith)

quarter-twice : (x : ℤ) → floor_div (pos 2 *ℤ x) 4 ≡ floor_div x 2
quarter-twice x = (floor-unique (pos 2 *ℤ x) 4 (floor_div x 2) (2 * floor_mod x 2) (omega (arith, floor_mod-lt x 2 (omega arith))) (ap (λ (t : ℤ). pos 2 *ℤ t) (floor-split x 2 (omega arith)) ∙ twice (floor_div x 2) (floor_mod x 2))).0

four-zero : (x : ℤ) → pos 4 *ℤ x ≡ pos 4 *ℤ x +ℤ pos 0
four-zero = by_d _ λ _ _. simp ints (omega arith)

quarter-four : (x : ℤ) → floor_div (pos 4 *ℤ x) 4 ≡ x
quarter-four x = (floor-unique (pos 4 *ℤ x) 4 x 0 (omega arith) (four-zero x)).0

row1 : (e1 e2 e3 e4 e5 e6 e7 e8 : ℤ) → dot (pos 1 ∷ pos 1 ∷ pos 1 ∷ pos 1 ∷ pos 1 ∷ pos 1 ∷ pos 1 ∷ negsuc 6 ∷ []) (e1 ∷ e2 ∷ e3 ∷ e4 ∷ e5 ∷ e6 ∷ e7 ∷ e8 ∷ []) ≡ ((e1 -ℤ e8) +ℤ (e2 -ℤ e8) +ℤ (e3 -ℤ e8) +ℤ (e4 -ℤ e8) +ℤ (e5 -ℤ e8) +ℤ (e6 -ℤ e8) +ℤ (e7 -ℤ e8))
row1 = by_d₄ _ λ _ _ _ _ _ _ _ _. by_d₄ _ λ _ _ _ _ _ _ _ _. simp ints (omega arith)

row2 : (e1 e2 e3 e4 e5 e6 e7 e8 : ℤ) → dot (pos 0 ∷ pos 2 ∷ pos 2 ∷ pos 2 ∷ pos 2 ∷ pos 2 ∷ pos 2 ∷ negsuc 11 ∷ []) (e1 ∷ e2 ∷ e3 ∷ e4 ∷ e5 ∷ e6 ∷ e7 ∷ e8 ∷ []) ≡ pos 2 *ℤ ((e2 -ℤ e8) +ℤ (e3 -ℤ e8) +ℤ (e4 -ℤ e8) +ℤ (e5 -ℤ e8) +ℤ (e6 -ℤ e8) +ℤ (e7 -ℤ e8))
row2 = by_d₄ _ λ _ _ _ _ _ _ _ _. by_d₄ _ λ _ _ _ _ _ _ _ _. simp ints (omega arith)

row3 : (e1 e2 e3 e4 e5 e6 e7 e8 : ℤ) → dot (pos 0 ∷ pos 0 ∷ pos 2 ∷ pos 2 ∷ pos 2 ∷ pos 2 ∷ pos 2 ∷ negsuc 9 ∷ []) (e1 ∷ e2 ∷ e3 ∷ e4 ∷ e5 ∷ e6 ∷ e7 ∷ e8 ∷ []) ≡ pos 2 *ℤ ((e3 -ℤ e8) +ℤ (e4 -ℤ e8) +ℤ (e5 -ℤ e8) +ℤ (e6 -ℤ e8) +ℤ (e7 -ℤ e8))
row3 = by_d₄ _ λ _ _ _ _ _ _ _ _. by_d₄ _ λ _ _ _ _ _ _ _ _. simp ints (omega arith)

row4 : (e1 e2 e3 e4 e5 e6 e7 e8 : ℤ) → dot (pos 0 ∷ pos 0 ∷ pos 0 ∷ pos 2 ∷ pos 2 ∷ pos 2 ∷ pos 2 ∷ negsuc 7 ∷ []) (e1 ∷ e2 ∷ e3 ∷ e4 ∷ e5 ∷ e6 ∷ e7 ∷ e8 ∷ []) ≡ pos 2 *ℤ ((e4 -ℤ e8) +ℤ (e5 -ℤ e8) +ℤ (e6 -ℤ e8) +ℤ (e7 -ℤ e8))
row4 = by_d₄ _ λ _ _ _ _ _ _ _ _. by_d₄ _ λ _ _ _ _ _ _ _ _. simp ints (omega arith)

row5 : (e1 e2 e3 e4 e5 e6 e7 e8 : ℤ) → dot (pos 0 ∷ pos 0 ∷ pos 0 ∷ pos 0 ∷ pos 2 ∷ pos 2 ∷ pos 2 ∷ negsuc 5 ∷ []) (e1 ∷ e2 ∷ e3 ∷ e4 ∷ e5 ∷ e6 ∷ e7 ∷ e8 ∷ []) ≡ pos 2 *ℤ ((e5 -ℤ e8) +ℤ (e6 -ℤ e8) +ℤ (e7 -ℤ e8))
row5 = by_d₄ _ λ _ _ _ _ _ _ _ _. by_d₄ _ λ _ _ _ _ _ _ _ _. simp ints (omega arith)

row6 : (e1 e2 e3 e4 e5 e6 e7 e8 : ℤ) → dot (pos 0 ∷ pos 0 ∷ pos 0 ∷ pos 0 ∷ pos 0 ∷ pos 2 ∷ pos 2 ∷ negsuc 3 ∷ []) (e1 ∷ e2 ∷ e3 ∷ e4 ∷ e5 ∷ e6 ∷ e7 ∷ e8 ∷ []) ≡ pos 2 *ℤ ((e6 -ℤ e8) +ℤ (e7 -ℤ e8))
row6 = by_d₄ _ λ _ _ _ _ _ _ _ _. by_d₄ _ λ _ _ _ _ _ _ _ _. simp ints (omega arith)

row7 : (e1 e2 e3 e4 e5 e6 e7 e8 : ℤ) → dot (pos 0 ∷ pos 0 ∷ pos 0 ∷ pos 0 ∷ pos 0 ∷ pos 0 ∷ pos 2 ∷ negsuc 1 ∷ []) (e1 ∷ e2 ∷ e3 ∷ e4 ∷ e5 ∷ e6 ∷ e7 ∷ e8 ∷ []) ≡ pos 2 *ℤ ((e7 -ℤ e8))
row7 = by_d₄ _ λ _ _ _ _ _ _ _ _. by_d₄ _ λ _ _ _ _ _ _ _ _. simp ints (omega arith)

row8 : (e1 e2 e3 e4 e5 e6 e7 e8 : ℤ) → dot (pos 0 ∷ pos 0 ∷ pos 0 ∷ pos 0 ∷ pos 0 ∷ pos 0 ∷ pos 0 ∷ pos 4 ∷ []) (e1 ∷ e2 ∷ e3 ∷ e4 ∷ e5 ∷ e6 ∷ e7 ∷ e8 ∷ []) ≡ pos 4 *ℤ e8
row8 e1 e2 e3 e4 e5 e6 e7 e8 = simp (zero-*ℤ, +ℤ_idl, +ℤ_idr)

pub coefficients-written : (e1 e2 e3 e4 e5 e6 e7 e8 : ℤ) → coefficients (e1 ∷ e2 ∷ e3 ∷ e4 ∷ e5 ∷ e6 ∷ e7 ∷ e8 ∷ [])
    ≡ floor_div ((e1 -ℤ e8) +ℤ (e2 -ℤ e8) +ℤ (e3 -ℤ e8) +ℤ (e4 -ℤ e8) +ℤ (e5 -ℤ e8) +ℤ (e6 -ℤ e8) +ℤ (e7 -ℤ e8)) 4 ∷ floor_div ((e2 -ℤ e8) +ℤ (e3 -ℤ e8) +ℤ (e4 -ℤ e8) +ℤ (e5 -ℤ e8) +ℤ (e6 -ℤ e8) +ℤ (e7 -ℤ e8)) 2 ∷ floor_div ((e3 -ℤ e8) +ℤ (e4 -ℤ e8) +ℤ (e5 -ℤ e8) +ℤ (e6 -ℤ e8) +ℤ (e7 -ℤ e8)) 2 ∷ floor_div ((e4 -ℤ e8) +ℤ (e5 -ℤ e8) +ℤ (e6 -ℤ e8) +ℤ (e7 -ℤ e8)) 2 ∷ floor_div ((e5 -ℤ e8) +ℤ (e6 -ℤ e8) +ℤ (e7 -ℤ e8)) 2 ∷ floor_div ((e6 -ℤ e8) +ℤ (e7 -ℤ e8)) 2 ∷ floor_div ((e7 -ℤ e8)) 2 ∷ e8 ∷ []
coefficients-written e1 e2 e3 e4 e5 e6 e7 e8 = simp (row1, row2, row3, row4, row5, row6, row7, row8, quarter-twice, quarter-four)
