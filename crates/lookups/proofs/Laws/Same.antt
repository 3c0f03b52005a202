-- Over a table as our filler leaves it, whatever follows it, scoring by table is the plain score: for every M and K, and every q that the table is for.
use Rattle.std.specs.Prelude.{◌≡◌, ℕ, suc, ◌/◌, ◌<◌, ℤ, ◌*ℤ◌, get_or, drop}
use Rattle.std.proofs.Math.Path.{refl, sym, ap, ap₂}
use Rattle.std.proofs.Common.{◌∙◌, arith}
use mathlib.Core.List.{List, [], ◌∷◌, ◌++◌, map}
use Rattle.std.proofs.Math.IntN.{◌+ℤ◌}
use Rattle.std.proofs.Math.ListN.{length}
use Rattle.integers.specs.Vectors.{«at», dot}
use Rattle.layers.specs.Digits.{IsLayer, IsCode, cut, entry_of}
use Rattle.layers.specs.E8.{layer_point8}
use Rattle.layers.specs.Laws.Rows.{cut-layers}
use Rattle.records.specs.Eight.Codes.{block_size, blocks_in, code_blocks, step_of}
use Rattle.records.specs.Laws.Parts.{cut-long}
use Rattle.records.specs.Eight.Vectors.{in_blocks}
use Rattle.scores.specs.Laws.Layers.{pair-layers, query-layers}
use Rattle.scores.specs.Laws.Totals.{total_ext}
use Rattle.scores.specs.Eight.Scores.{total, inner, block_pair, block_query, pair_total, query_total}
use Rattle.tables.specs.Laws.Entries.{entry-within, layer_at-entry, pair_table-at, query_part-at, query_table-parts}
use Rattle.lookups.specs.Laws.Sums.{layer-same, pair_same}
use Rattle.lookups.specs.Scoring.{pair_entry, block_pair_by, pair_total_by, block_query_by, query_total_by}
use Rattle.tables.specs.Tables.{part_size, pair_table, query_part, query_table}

-- ---- by the pair table

module _ (rest : List ℤ) where
  abbrev t : List ℤ
  t = pair_table ++ rest

  -- the entry of two layers is the inner product of their points
  pub pair-entry : (d e : List ℕ) → IsLayer 8 2 d → IsLayer 8 2 e → pair_entry t d e ≡ inner (layer_point8 2 d) (layer_point8 2 e)
  unfolding part_size
  pair-entry d e h k = pair_table-at rest (entry_of 2 d) (entry_of 2 e) (entry-within 2 d h) (entry-within 2 e k) ∙ ap₂ inner (layer_at-entry 2 d h) (layer_at-entry 2 e k)

  module _ (m : ℕ) (steps steps' : List ℤ) where
    -- two blocks
    pub pair-by-table : (b b' : List ℕ) → IsCode 8 2 m (drop 1 b) → IsCode 8 2 m (drop 1 b') → block_pair_by m steps steps' t b b' ≡ block_pair 2 m steps steps' b b'
    unfolding block_pair_by Rattle.scores.specs.Scores.block_pair
    pair-by-table b b' h k =
        ap (λ (z : ℤ). (step_of steps b *ℤ step_of steps' b') *ℤ z)
        (pair_same 2 (pair_entry t) (λ d e. inner (layer_point8 2 d) (layer_point8 2 e)) pair-entry 0 m (cut 8 m (drop 1 b)) (cut 8 m (drop 1 b')) (cut-layers 8 2 m (drop 1 b) h) m (cut-layers 8 2 m (drop 1 b') k)
        ∙ sym (pair-layers 2 (omega arith) m b b' h k))

    -- all blocks of two records whose digits are below 2
    pub pair-totals : (b b' : List ℕ) → ((i : ℕ) → i < blocks_in m b → IsCode 8 2 m (drop 1 (get_or (code_blocks m b) i []))) → ((i : ℕ) → i < blocks_in m b' → IsCode 8 2 m (drop 1 (get_or (code_blocks m b') i [])))
        → pair_total_by m steps steps' t b b' ≡ pair_total 2 m steps steps' b b'
    unfolding pair_total_by Rattle.scores.specs.Scores.pair_total
    pair-totals b b' h k = total_ext (block_pair_by m steps steps' t) (block_pair 2 m steps steps') (code_blocks m b) (code_blocks m b') [] []
        (λ i j l. pair-by-table (get_or (code_blocks m b) i []) (get_or (code_blocks m b') i [])
        (h i (omega (arith, cut-long (block_size m) (blocks_in m b) (drop 4 b)))) (k i (omega (arith, cut-long (block_size m) (blocks_in m b') (drop 4 b')))))

-- ---- by the query table

module _ (q m : ℕ) (steps : List ℤ) where
  -- a block and the part of its readings
  pub query-by-table : (X : List ℤ) (b : List ℕ) → IsCode 8 q m (drop 1 b) → block_query_by q m steps (query_part q X) b ≡ block_query q m steps X b
  unfolding block_query_by Rattle.scores.specs.Scores.block_query
  query-by-table X b h =
      ap (λ (z : ℤ). step_of steps b *ℤ z)
      (layer-same q (λ ds. «at» (query_part q X) (entry_of q ds)) (λ ds. dot X (layer_point8 q ds)) (λ d k. query_part-at q X (entry_of q d) (entry-within q d k) ∙ ap (dot X) (layer_at-entry q d k)) 0 m (cut 8 m (drop 1 b)) (cut-layers 8 q m (drop 1 b) h)
      ∙ sym (query-layers q m X b))

  -- all blocks of a record whose digits are below q, with as many blocks as there are of X
  pub query-totals : (X rest : List ℤ) (b : List ℕ) → blocks_in m b ≡ length X / 8 → ((i : ℕ) → i < blocks_in m b → IsCode 8 q m (drop 1 (get_or (code_blocks m b) i [])))
      → query_total_by q m steps (query_table q X ++ rest) b ≡ query_total q m steps X b
  unfolding query_total_by Rattle.scores.specs.Scores.query_total
  query-totals X rest b count h =
      ap (λ (l : List (List ℤ)). total (block_query_by q m steps) l (code_blocks m b)) (ap (λ (k : ℕ). cut (part_size q) k (query_table q X ++ rest)) count ∙ query_table-parts q X rest)
      ∙ parts (in_blocks X) (code_blocks m b) (λ i k. h i (omega (arith, cut-long (block_size m) (blocks_in m b) (drop 4 b))))
    where
      parts : (l : List (List ℤ)) (k : List (List ℕ)) → ((i : ℕ) → i < length k → IsCode 8 q m (drop 1 (get_or k i []))) → total (block_query_by q m steps) (map (query_part q) l) k ≡ total (block_query q m steps) l k
      parts [] k h = refl
      parts (X ∷ l) [] h = refl
      parts (X ∷ l) (b ∷ k) h = ap₂ ◌+ℤ◌ (query-by-table X b (h 0 (omega arith))) (parts l k (λ i j. h (suc i) (omega arith)))
