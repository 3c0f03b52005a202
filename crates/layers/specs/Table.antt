-- The fixed table for q = 2 (01, Layers and steps).
use Rattle.std.specs.Prelude.{◌≡◌, List, map, ℕ, ℤ}
use Rattle.integers.specs.Vectors.{range}
use Rattle.layers.specs.Digits.{joined, digits_of}
use Rattle.layers.specs.E8.{layer_point8}

-- the 256 layer points in a row: entry 8 i + k is coordinate k of the layer point whose digits have the entry number i
unfoldable pub layer_table : List ℤ
layer_table = joined (map (λ (i : ℕ). layer_point8 2 (digits_of 2 8 i)) (range 0 256))

-- what is lent to decoding at q: that table where q is 2; else it is not read
abbrev pub TableFor : ℕ → List ℤ → Type 0
TableFor q t = q ≡ 2 → t ≡ layer_table
