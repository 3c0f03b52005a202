-- The entries of the tables that scores are summed from, as our fillers write them (01, Scores).
use Rattle.std.specs.Prelude.{List, map, ℕ, ◌^◌, ℤ}
use Rattle.integers.specs.Vectors.{dot, range}
use Rattle.layers.specs.Digits.{joined, digits_of}
use Rattle.layers.specs.E8.{layer_point8}
use Rattle.records.specs.Eight.Vectors.{in_blocks}
use Rattle.scores.specs.Scores.{inner}

-- the greatest q that the pair table is for
abbrev pub pair_most : ℕ
pair_most = 2

-- the greatest q that the query table is for
abbrev pub query_most : ℕ
query_most = 4

-- the entries of the pair table: one for each two layer points
abbrev pub pair_size : ℕ
pair_size = 65536

-- the entries of one block's part of the query table: one for each layer point
unfoldable pub part_size : ℕ → ℕ
part_size q = q ^ 8

-- the layer point whose digits have the entry number i
abbrev pub layer_at : ℕ → ℕ → List ℤ
layer_at q i = layer_point8 q (digits_of q 8 i)

-- the inner products of a point with each layer point, for q = 2
unfoldable pub pair_row : List ℤ → List ℤ
pair_row e = map (λ (j : ℕ). inner e (layer_at 2 j)) (range 0 256)

-- the pair table, row after row: entry 256 i + j is the inner product of the layer points i and j
unfoldable pub pair_table : List ℤ
pair_table = joined (map (λ (i : ℕ). pair_row (layer_at 2 i)) (range 0 256))

-- one block's part of the query table: entry i is the sum of X_k·e_k over the layer point e with that number
unfoldable pub query_part : ℕ → List ℤ → List ℤ
query_part q X = map (λ (i : ℕ). dot X (layer_at q i)) (range 0 (part_size q))

-- the query table: the part of block k from k·q^8
unfoldable pub query_table : ℕ → List ℤ → List ℤ
query_table q X = joined (map (query_part q) (in_blocks X))
