-- A row of the pair table by itself: the entries that a layer has there with the layers of another block.
use Rattle.std.specs.Prelude.{◌≡◌, refl, List, [], ◌∷◌, ◌++◌, map, ℕ, zero, suc, ◌+◌, ◌*◌, ◌<◌, ℤ, pos, length, take, drop, set}
use Rattle.std.proofs.Common.{sym, ◌∙◌, ap, ap₂, add-one, get_or-take, get_or-drop, take-suc-set}
use Rattle.std.proofs.lemmas.Simd.{map-map}
use Rattle.std.proofs.lemmas.List.{map-append}
use Rattle.integers.specs.Vectors.{«at»}
use Rattle.layers.specs.Digits.{Below, IsLayers, cut, entry_of}
use Rattle.records.specs.Laws.Parts.{cut-more}
use Rattle.tables.specs.Laws.Entries.{entry-within}
use Rattle.lookups.specs.Laws.Sums.{power_sum}
use Rattle.lookups.specs.Scoring.{pair_entry}
use Rattle.tables.specs.Tables.{part_size}

-- the numbers of layers for q = 2 are below 256
pub entries_below : (m : ℕ) (l : List (List ℕ)) → IsLayers 8 2 m l → Below 256 (map (entry_of 2) l)
unfolding part_size
entries_below m [] h = tt
entries_below zero (ds ∷ l) h = absurd h
entries_below (suc m) (ds ∷ l) h = (entry-within 2 ds h.0, entries_below m l h.1)

-- they are found one by one
pub entries-more : (r : List ℕ) (i : ℕ) (ds : List ℕ) → i < length r → take i r ≡ map (entry_of 2) (cut 8 i ds)
    → take (i + 1) (set r i (entry_of 2 (take 8 (drop (8 * i) ds)))) ≡ map (entry_of 2) (cut 8 (i + 1) ds)
entries-more r i ds h e = let x : List ℕ = take 8 (drop (8 * i) ds) in
    ap (λ (k : ℕ). take k (set r i (entry_of 2 x))) (add-one i) ∙ take-suc-set r i (entry_of 2 x) h ∙ ap (λ (l : List ℕ). l ++ (entry_of 2 x ∷ [])) e
    ∙ sym (ap (map (entry_of 2)) (cut-more 8 i ds) ∙ map-append (entry_of 2) (cut 8 i ds) (x ∷ []))

module _ (t : List ℤ) (n : ℕ) where
  -- the entries of the row from 256 n are those of the table
  row-entries : (ns : List ℕ) → Below 256 ns → map («at» (take 256 (drop (256 * n) t))) ns ≡ map (λ (k : ℕ). «at» t (256 * n + k)) ns
  row-entries [] h = refl
  row-entries (k ∷ ns) h = ap₂ ◌∷◌ (get_or-take 256 (drop (256 * n) t) k (pos 0) h.0 ∙ get_or-drop (256 * n) t k (pos 0)) (row-entries ns h.1)

-- so the sum over a row is the sum over the entries of one layer with the others
pub row-sum-is : (t : List ℤ) (d : List ℕ) (m : ℕ) (l : List (List ℕ)) → IsLayers 8 2 m l
    → power_sum 2 (map («at» (take 256 (drop (256 * entry_of 2 d) t))) (map (entry_of 2) l)) ≡ power_sum 2 (map (pair_entry t d) l)
row-sum-is t d m l h = ap (power_sum 2) (row-entries t (entry_of 2 d) (map (entry_of 2) l) (entries_below m l h) ∙ map-map (λ (k : ℕ). «at» t (256 * entry_of 2 d + k)) (entry_of 2) l)
