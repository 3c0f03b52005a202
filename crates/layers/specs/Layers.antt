-- Digits, what is left over, and decoding, over any lattice and rule (01, Layers and steps).
use Rattle.std.specs.Prelude.{◌≡◌, List, [], ◌∷◌, map, ℕ, zero, suc, ◌^◌, ℤ, pos}
use Rattle.integers.specs.Floor.{floor_mod}
use Rattle.integers.specs.Vectors.{zeros, add_v, sub_v, scale_v}
use Rattle.layers.specs.Rule.{Lattice, Rule}

-- each entry modulo q, from 0 to q - 1
abbrev pub remainders : ℕ → List ℤ → List ℕ
remainders q c = map (λ (x : ℤ). floor_mod x q) c

-- one layer's digits: the coefficients of g modulo q
unfoldable pub layer_digits : Lattice → ℕ → List ℤ → List ℕ
layer_digits L q g = remainders q (L.coefficients g)

-- the point whose coefficients are one layer's digits
unfoldable pub digit_point : Lattice → List ℕ → List ℤ
digit_point L ds = L.point_of (map pos ds)

module _ (L : Lattice) (R : Rule L) (q : ℕ) where
  -- the digits of m layers: those of g, then those of the point that g / q rounds to
  abbrev pub digits : ℕ → List ℤ → List (List ℕ)
  digits zero g = []
  digits (suc m) g = layer_digits L q g ∷ digits m (R.round (pos q) g)

  -- what is left over: g, rounded at q once for each of m layers
  abbrev pub leftover : ℕ → List ℤ → List ℤ
  leftover zero g = g
  leftover (suc m) g = leftover m (R.round (pos q) g)

  -- one layer's point: the point p of its digits, minus q times the point that p / q rounds to
  unfoldable pub layer_point : List ℕ → List ℤ
  layer_point ds = let p = digit_point L ds in sub_v p (scale_v (pos q) (R.round (pos q) p))

  -- q^i times the first layer point, q^(i+1) times the next, and so on, together
  abbrev pub weighted : ℕ → List (List ℕ) → List ℤ
  weighted i [] = zeros L.size
  weighted i (ds ∷ l) = add_v (scale_v (pos (q ^ i)) (layer_point ds)) (weighted (suc i) l)

  -- the whole: the sum of q^m times the layer points
  abbrev pub decode : List (List ℕ) → List ℤ
  decode l = weighted 0 l

-- e is e' and w times a point
pub record Apart (In : List ℤ → Type 0) (w : ℕ) (e e' : List ℤ) : Type 0 where
  pub by : List ℤ
  pub «in» : In by
  pub is : e ≡ add_v e' (scale_v (pos w) by)
