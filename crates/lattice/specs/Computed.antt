-- The nearest point by computation: for each half of the lattice from the last coordinate to the first, then the lesser half.
-- `Laws.Theorems` shows that this is the one vector that `Nearest` describes.
use Rattle.std.specs.Prelude.{Bool, true, false, cond, List, [], ◌∷◌, map, ℕ, ◌*◌, ℤ, pos, nat_abs, ◌+ℤ◌, ◌-ℤ◌, ◌*ℤ◌}
use Rattle.std.specs.Int.Signed.{le_z, lt_z}
use Rattle.integers.specs.Floor.{floor_div}
use Rattle.lattice.specs.Nearest.{cost}

-- the lexicographic order, as a test
abbrev pub le_v : List ℤ → List ℤ → Bool
le_v [] b = true
le_v (x ∷ a) [] = false
le_v (x ∷ a) (y ∷ b) = elim (lt_z x y) [ true ↦ true | false ↦ elim (le_z x y) [ true ↦ le_v a b | false ↦ false ] ]

-- the one of two with the smaller cost, of equals the one that comes first
unfoldable pub lesser : (List ℤ → ℤ) → List ℤ → List ℤ → List ℤ
lesser cost f g = cond (le_v (cost f ∷ f) (cost g ∷ g)) f g

-- the whole number of parity p nearest to x / S, the lower of two as near
unfoldable pub pick : ℤ → ℕ → ℤ → ℤ
pick S p x = pos p +ℤ pos 2 *ℤ floor_div (x -ℤ S *ℤ pos p +ℤ S -ℤ pos 1) (2 * nat_abs S)

-- the nearest whole vector of even sum, and the nearest of odd sum
pub record Two : Type 0 where
  pub even : List ℤ
  pub odd : List ℤ

-- one more entry in front, a where it is even and b where it is odd
unfoldable pub grow : (List ℤ → ℤ) → ℤ → ℤ → Two → Two
grow c a b t = record { even = lesser c (a ∷ t.even) (b ∷ t.odd); odd = lesser c (a ∷ t.odd) (b ∷ t.even) }

-- both, of (x ∷ v) / S
unfoldable pub both : ℤ → ℤ → List ℤ → Two
both S x [] = record { even = pick S 0 x ∷ []; odd = pick S 1 x ∷ [] }
both S x (y ∷ v) = grow (cost S (x ∷ y ∷ v)) (pick S 0 x) (pick S 1 x) (both S y v)

-- the nearest whole vector of even sum to v / S: the nearest point of D_n, n the length of v
unfoldable pub nearest_d : ℤ → List ℤ → List ℤ
nearest_d S [] = []
nearest_d S (x ∷ v) = (both S x v).even

-- twice a whole vector, plus p in each entry
abbrev pub spread : ℕ → List ℤ → List ℤ
spread p f = map (λ (y : ℤ). pos 2 *ℤ y +ℤ pos p) f

-- d less s p in each entry
abbrev pub lower : ℤ → ℕ → List ℤ → List ℤ
lower s p d = map (λ (x : ℤ). x -ℤ s *ℤ pos p) d

-- the nearest to d / s of the doubled points of parity p
unfoldable pub nearest_half : ℕ → ℤ → List ℤ → List ℤ
nearest_half p s d = spread p (nearest_d (pos 2 *ℤ s) (lower s p d))

-- the nearest doubled point to d / s
unfoldable pub nearest_point : ℤ → List ℤ → List ℤ
nearest_point s d = lesser (cost s d) (nearest_half 0 s d) (nearest_half 1 s d)
