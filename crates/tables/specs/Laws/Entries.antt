-- What stands where in the tables: their lengths, the entry of each number, the part of each block.
use Rattle.std.specs.Prelude.{◌≡◌, refl, ℕ, zero, suc, ◌+◌, ◌*◌, ◌-◌, ◌/◌, ◌^◌, ◌<◌, ◌≤◌, ℤ, pos, length, take, drop}
use Rattle.std.proofs.Common.{sym, ◌∙◌, ap₂, add-one, arith, length-append, pow-add, get_or-take, get_or-drop, drop-drop}
use Rattle.std.proofs.Math.Path.{ap, subst}
use mathlib.Core.List.{List, [], ◌∷◌, ◌++◌, map}
use Rattle.std.proofs.Math.Nat.{pow-le-pow_left, pow-succ', mul-div_right}
use Rattle.std.proofs.Math.ListN.{length-map, get_or-append}
use Rattle.integers.specs.Laws.Loops.{range-long, range_at}
use Rattle.integers.specs.Vectors.{«at», dot, range}
use Rattle.layers.specs.Digits.{IsLayer, joined, cut, entry_of}
use Rattle.layers.specs.E8.{layer_point8}
use Rattle.layers.specs.Laws.Entries.{entry_of-less, pow-four, digits_of-entry_of, row_at, rows_long}
use Rattle.records.specs.Laws.Parts.{cut-long, cut_at, cut-made, part-made, joined-more}
use Rattle.records.specs.Eight.Vectors.{in_blocks}
use Rattle.scores.specs.Scores.{inner}
use Rattle.tables.specs.Tables.{query_most, part_size, layer_at, pair_row, pair_table, query_part, query_table}

-- what f makes of 0 to n - 1 has its value at i there
from_zero : (f : ℕ → ℤ) (n i : ℕ) → i < n → «at» (map f (range 0 n)) i ≡ f i
from_zero f n i h = range_at f 0 n i (pos 0) h ∙ ap f (omega arith)

-- ---- a layer's number

module _ (q : ℕ) (ds : List ℕ) (h : IsLayer 8 q ds) where
  -- it is below q^8
  pub entry-within : entry_of q ds < part_size q
  unfolding part_size
  entry-within = rw h.long at (entry_of-less q ds h.below)

  -- so the layer point of that number is its own
  pub layer_at-entry : layer_at q (entry_of q ds) ≡ layer_point8 q ds
  layer_at-entry = ap (layer_point8 q) (digits_of-entry_of q 8 ds h.long h.below)

-- ---- the pair table

-- a row has 256 entries
pub pair_row-long : (e : List ℤ) → length (pair_row e) ≡ 256
unfolding pair_row
pair_row-long e = length-map (range 0 256) (λ (j : ℕ). inner e (layer_at 2 j)) ∙ range-long 0 256

-- entry j of the row of a point is its inner product with the layer point j
pub pair_row-at : (e : List ℤ) (j : ℕ) → j < 256 → «at» (pair_row e) j ≡ inner e (layer_at 2 j)
unfolding pair_row
pair_row-at e j h = from_zero (λ (j : ℕ). inner e (layer_at 2 j)) 256 j h

-- one number more
range-more : (i n : ℕ) → range i (n + 1) ≡ range i n ++ ((i + n) ∷ [])
range-more i n = ap (range i) (add-one n) ∙ go i n
  where
    go : (i n : ℕ) → range i (suc n) ≡ range i n ++ ((i + n) ∷ [])
    go i zero = ap (λ (j : ℕ). j ∷ []) (omega arith)
    go i (suc n) = ap (λ (l : List ℕ). i ∷ l) (go (suc i) n ∙ ap (λ (j : ℕ). range (suc i) n ++ (j ∷ [])) (omega arith))

-- the first n rows
abbrev pub pair_rows : ℕ → List ℤ
pair_rows n = joined (map (λ (i : ℕ). pair_row (layer_at 2 i)) (range 0 n))

-- one row more
pub rows_more : (n : ℕ) → pair_rows (n + 1) ≡ pair_rows n ++ pair_row (layer_at 2 n)
rows_more n = ap (λ (l : List ℕ). joined (map (λ (i : ℕ). pair_row (layer_at 2 i)) l)) (range-more 0 n ∙ ap (λ (j : ℕ). range 0 n ++ (j ∷ [])) (omega arith)) ∙ joined-more (λ (i : ℕ). pair_row (layer_at 2 i)) (range 0 n) n

-- all rows are the table
pub rows_all : pair_rows 256 ≡ pair_table
unfolding pair_table
rows_all = refl

-- which has 65,536 entries
pub pair_table-long : length pair_table ≡ 65536
unfolding pair_table
pair_table-long = rows_long (λ (i : ℕ). pair_row (layer_at 2 i)) 256 (λ i. pair_row-long (layer_at 2 i)) 0 256

-- row i stands from 256 i
row_is : (i : ℕ) → i < 256 → take 256 (drop (256 * i) pair_table) ≡ pair_row (layer_at 2 i)
unfolding pair_table
row_is i h = row_at (λ (i : ℕ). pair_row (layer_at 2 i)) 256 (λ i. pair_row-long (layer_at 2 i)) 0 256 i h ∙ ap (λ (i : ℕ). pair_row (layer_at 2 i)) (omega arith)

-- the entry 256 i + j, whatever follows the table
pub pair_table-at : (rest : List ℤ) (i j : ℕ) → i < 256 → j < 256 → «at» (pair_table ++ rest) (256 * i + j) ≡ inner (layer_at 2 i) (layer_at 2 j)
pair_table-at rest i j h k =
    get_or-append pair_table rest (pos 0) (256 * i + j) (omega (arith, pair_table-long))
    ∙ sym (get_or-drop (256 * i) pair_table j (pos 0)) ∙ sym (get_or-take 256 (drop (256 * i) pair_table) j (pos 0) k) ∙ ap (λ (r : List ℤ). «at» r j) (row_is i h) ∙ pair_row-at (layer_at 2 i) j k

-- ---- the query table

module _ (q : ℕ) where
  -- a part has q^8 entries
  pub query_part-long : (X : List ℤ) → length (query_part q X) ≡ part_size q
  unfolding query_part
  query_part-long X = length-map (range 0 (part_size q)) _ ∙ range-long 0 (part_size q)

  -- its entry i is the sum over the layer point i
  pub query_part-at : (X : List ℤ) (i : ℕ) → i < part_size q → «at» (query_part q X) i ≡ dot X (layer_at q i)
  unfolding query_part
  query_part-at X i h = from_zero (λ (i : ℕ). dot X (layer_at q i)) (part_size q) i h

  -- parts in a row: their length
  pub parts-long : (l : List (List ℤ)) → length (joined (map (query_part q) l)) ≡ part_size q * length l
  parts-long [] = omega arith
  parts-long (x ∷ l) = simp length-append (omega (arith, query_part-long x, parts-long l))

  -- entry q^8 b + i of the parts of K blocks is the sum over block b and the layer point i, whatever follows them
  pub parts_at : (K : ℕ) (X rest : List ℤ) (b i : ℕ) → b < K → i < part_size q → «at» (joined (map (query_part q) (cut 8 K X)) ++ rest) (part_size q * b + i) ≡ dot (take 8 (drop (8 * b) X)) (layer_at q i)
  parts_at K X rest b i h l = let n : ℕ = part_size q in let t : List ℤ = joined (map (query_part q) (cut 8 K X)) ++ rest in
      sym (get_or-drop (n * b) t i (pos 0)) ∙ sym (get_or-take n (drop (n * b) t) i (pos 0) l)
      ∙ ap (λ (p : List ℤ). «at» p i) (part-made (query_part q) n query_part-long (cut 8 K X) rest b [] (omega (arith, cut-long 8 K X)) ∙ ap (query_part q) (cut_at 8 K b X h))
      ∙ query_part-at (take 8 (drop (8 * b) X)) i l

  module _ (X : List ℤ) where
    -- the table has K·q^8 entries
    pub query_table-long : length (query_table q X) ≡ part_size q * (length X / 8)
    unfolding query_table
    query_table-long = parts-long (in_blocks X) ∙ ap (λ (n : ℕ). part_size q * n) (cut-long 8 (length X / 8) X)

    -- the parts of its blocks, whatever follows the table
    pub query_table-parts : (rest : List ℤ) → cut (part_size q) (length X / 8) (query_table q X ++ rest) ≡ map (query_part q) (in_blocks X)
    unfolding query_table
    query_table-parts rest = subst (λ (k : ℕ). cut (part_size q) k (joined (map (query_part q) (in_blocks X)) ++ rest) ≡ map (query_part q) (in_blocks X)) (cut-long 8 (length X / 8) X)
        (cut-made (query_part q) (part_size q) query_part-long (in_blocks X) rest)

    -- entry q^8 k + i is the sum over block k and the layer point i
    pub query_table-at : (rest : List ℤ) (k i : ℕ) → k < length X / 8 → i < part_size q → «at» (query_table q X ++ rest) (part_size q * k + i) ≡ dot (take 8 (drop (8 * k) X)) (layer_at q i)
    unfolding query_table
    query_table-at rest k i h l = parts_at (length X / 8) X rest k i h l

-- ---- lengths that code calculates with

-- a part has at most 65,536 entries
pub part-most : (q : ℕ) → q ≤ query_most → part_size q ≤ 65536
unfolding part_size
part-most q h = pow-le-pow_left h 8

-- they are as many as q squared three times
pub part-squares : (q : ℕ) → q * q * (q * q) * (q * q * (q * q)) ≡ part_size q
unfolding part_size
part-squares q = sym (pow-add q 4 4 ∙ ap₂ ◌*◌ (pow-four q) (pow-four q))

-- they are q slices of q^7
pub part-slices : (q : ℕ) → q * q ^ 7 ≡ part_size q
unfolding part_size
part-slices q = sym (pow-succ' q 7)

-- and the q-th part of them is one
pub slice-size : (q : ℕ) → 0 < q → part_size q / q ≡ q ^ 7
slice-size q q> = ap (λ (n : ℕ). n / q) (sym (part-slices q)) ∙ mul-div_right (q ^ 7) q>

-- layer i of a block, whose first byte is T
pub block-layer : (b : List ℕ) (i : ℕ) → take (8 * i + 1 + 8 - (8 * i + 1)) (drop (8 * i + 1) b) ≡ take 8 (drop (8 * i) (drop 1 b))
block-layer b i = let n : 8 * i + 1 + 8 - (8 * i + 1) ≡ 8 = omega arith in let a : 8 * i + 1 ≡ 1 + 8 * i = omega arith in
    ap₂ (λ (n j : ℕ). take n (drop j b)) n a ∙ ap (take 8) (sym (drop-drop (8 * i) 1 b))
