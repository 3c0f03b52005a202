-- What the nearest point is, whatever way it is found (01, The lattice).
use Rattle.std.specs.Prelude.{◌≡◌, List, [], ◌∷◌, ℤ, pos, ◌+ℤ◌, ◌-ℤ◌, ◌*ℤ◌, ◌≤ℤ◌}
use Rattle.integers.specs.Vectors.{square, ◌≤V◌}

-- the sum of (d_i - s e_i)²
abbrev pub cost : ℤ → List ℤ → List ℤ → ℤ
cost s [] e = pos 0
cost s (x ∷ d) [] = pos 0
cost s (x ∷ d) (y ∷ e) = square (x -ℤ s *ℤ y) +ℤ cost s d e

-- e is the point of the lattice In nearest to d / s: no point costs less, and among equals none comes before it (coordinate 1 first)
pub record Nearest (In : List ℤ → Type 0) (s : ℤ) (d e : List ℤ) : Type 0 where
  pub member : In e
  pub closest : (f : List ℤ) → In f → cost s d e ≤ℤ cost s d f
  pub first : (f : List ℤ) → In f → cost s d f ≡ cost s d e → e ≤V f
