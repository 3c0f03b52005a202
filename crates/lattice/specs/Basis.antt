-- The basis of E8 doubled, the way back, and the coefficients of a point (01, The lattice).
use Rattle.std.specs.Prelude.{◌≡◌, List, [], ◌∷◌, map, ℕ, zero, suc, ◌^◌, ◌<◌, ℤ, pos, negsuc, length, get_or}
use Rattle.integers.specs.Floor.{floor_div}
use Rattle.integers.specs.Vectors.{zeros, add_v, scale_v, dot, Sized}

-- row k gives e_k of the coefficients: e1 = 4 c1 - 2 c2 + c8, then e_k = 2 c_k - 2 c_(k+1) + c8, e7 = 2 c7 + c8, e8 = c8
abbrev pub basis : List (List ℤ)
basis =
    (pos 4 ∷ negsuc 1 ∷ pos 0 ∷ pos 0 ∷ pos 0 ∷ pos 0 ∷ pos 0 ∷ pos 1 ∷ [])
    ∷ (pos 0 ∷ pos 2 ∷ negsuc 1 ∷ pos 0 ∷ pos 0 ∷ pos 0 ∷ pos 0 ∷ pos 1 ∷ [])
    ∷ (pos 0 ∷ pos 0 ∷ pos 2 ∷ negsuc 1 ∷ pos 0 ∷ pos 0 ∷ pos 0 ∷ pos 1 ∷ [])
    ∷ (pos 0 ∷ pos 0 ∷ pos 0 ∷ pos 2 ∷ negsuc 1 ∷ pos 0 ∷ pos 0 ∷ pos 1 ∷ [])
    ∷ (pos 0 ∷ pos 0 ∷ pos 0 ∷ pos 0 ∷ pos 2 ∷ negsuc 1 ∷ pos 0 ∷ pos 1 ∷ [])
    ∷ (pos 0 ∷ pos 0 ∷ pos 0 ∷ pos 0 ∷ pos 0 ∷ pos 2 ∷ negsuc 1 ∷ pos 1 ∷ [])
    ∷ (pos 0 ∷ pos 0 ∷ pos 0 ∷ pos 0 ∷ pos 0 ∷ pos 0 ∷ pos 2 ∷ pos 1 ∷ [])
    ∷ (pos 0 ∷ pos 0 ∷ pos 0 ∷ pos 0 ∷ pos 0 ∷ pos 0 ∷ pos 0 ∷ pos 1 ∷ []) ∷ []

-- row k gives 4 c_k of the point: c1 is a quarter of the sum of (e_j - e8), c_k half of that sum from j = k, c8 is e8
abbrev pub inverse : List (List ℤ)
inverse =
    (pos 1 ∷ pos 1 ∷ pos 1 ∷ pos 1 ∷ pos 1 ∷ pos 1 ∷ pos 1 ∷ negsuc 6 ∷ [])
    ∷ (pos 0 ∷ pos 2 ∷ pos 2 ∷ pos 2 ∷ pos 2 ∷ pos 2 ∷ pos 2 ∷ negsuc 11 ∷ [])
    ∷ (pos 0 ∷ pos 0 ∷ pos 2 ∷ pos 2 ∷ pos 2 ∷ pos 2 ∷ pos 2 ∷ negsuc 9 ∷ [])
    ∷ (pos 0 ∷ pos 0 ∷ pos 0 ∷ pos 2 ∷ pos 2 ∷ pos 2 ∷ pos 2 ∷ negsuc 7 ∷ [])
    ∷ (pos 0 ∷ pos 0 ∷ pos 0 ∷ pos 0 ∷ pos 2 ∷ pos 2 ∷ pos 2 ∷ negsuc 5 ∷ [])
    ∷ (pos 0 ∷ pos 0 ∷ pos 0 ∷ pos 0 ∷ pos 0 ∷ pos 2 ∷ pos 2 ∷ negsuc 3 ∷ [])
    ∷ (pos 0 ∷ pos 0 ∷ pos 0 ∷ pos 0 ∷ pos 0 ∷ pos 0 ∷ pos 2 ∷ negsuc 1 ∷ [])
    ∷ (pos 0 ∷ pos 0 ∷ pos 0 ∷ pos 0 ∷ pos 0 ∷ pos 0 ∷ pos 0 ∷ pos 4 ∷ []) ∷ []

-- a table that the code takes: eight rows of eight numbers up to 16 in magnitude
pub record Table8 (t : List (List ℤ)) : Type 0 where
  pub long : length t ≡ 8
  pub rows : (k : ℕ) → k < 8 → Sized 8 (2 ^ 4) (get_or t k [])

-- a table by a vector: the inner product of each row with it
abbrev pub apply : List (List ℤ) → List ℤ → List ℤ
apply B c = map (λ (r : List ℤ). dot r c) B

-- a vector by a table: the rows, each times its entry, together
abbrev pub comb : List ℤ → List (List ℤ) → List ℤ
comb [] B = []
comb (x ∷ r) [] = []
comb (x ∷ r) (b ∷ B) = add_v (scale_v x b) (comb r B)

-- a table by a table
abbrev pub times : List (List ℤ) → List (List ℤ) → List (List ℤ)
times W B = map (λ (r : List ℤ). comb r B) W

-- n rows, k in the diagonal
abbrev pub diag : ℤ → ℕ → List (List ℤ)
diag k zero = []
diag k (suc n) = (k ∷ zeros n) ∷ map (λ (r : List ℤ). pos 0 ∷ r) (diag k n)

-- each entry divided by k, rounded down
abbrev pub floors : ℕ → List ℤ → List ℤ
floors k a = map (λ (x : ℤ). floor_div x k) a

-- the doubled point of eight coefficients
abbrev pub point_of : List ℤ → List ℤ
point_of c = apply basis c

-- the eight coefficients of a doubled point
abbrev pub coefficients : List ℤ → List ℤ
coefficients e = floors 4 (apply inverse e)
