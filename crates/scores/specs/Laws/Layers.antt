-- Inner products over layers: those of whole points are weighted sums of those of their layer points.
use Rattle.std.specs.Prelude.{◌≡◌, List, [], ◌∷◌, ℕ, zero, suc, ◌^◌, ◌<◌, ℤ, pos, ◌+ℤ◌, ◌*ℤ◌, drop}
use Rattle.std.proofs.Common.{sym, ◌∙◌, ap₂, arith}
use Rattle.std.proofs.Math.IntN.{*ℤ-zero}
use Rattle.integers.specs.Laws.Difference.{ints, by_d₂, by_d₄}
use Rattle.integers.specs.Laws.Signed.{*ℤ-+ℤ}
use Rattle.integers.specs.Vectors.{dot}
use Rattle.layers.specs.Digits.{IsLayer, IsLayers, IsCode, cut}
use Rattle.layers.specs.E8.{e8, nearest, layer_point8}
use Rattle.layers.specs.Laws.Rows.{cut-layers}
use Rattle.layers.proofs.Laws.Splitting.{layer_point-in}
use Rattle.layers.proofs.Laws.Theorems.{decode-in}
use Rattle.layers.specs.Laws.Weights.{dot-decode, dot-decodes}
use Rattle.layers.specs.Layers.{decode}
use Rattle.layers.specs.Sums.{layer_sum, pair_sum}
use Rattle.records.specs.Eight.Codes.{whole_point}
use Rattle.scores.specs.Laws.Inner.{inner-four}
use Rattle.scores.specs.Scores.{inner}

-- sums whose terms are c times those of others are c times theirs
module _ (n q : ℕ) (c : ℤ) where
  times-step : (c w x t : ℤ) → w *ℤ (c *ℤ x) +ℤ c *ℤ t ≡ c *ℤ (w *ℤ x +ℤ t)
  times-step = by_d₄ _ λ _ _ _ _ _ _ _ _. simp ints (omega arith)

  layer_sum-times : (f g : List ℕ → ℤ) → ((d : List ℕ) → IsLayer n q d → f d ≡ c *ℤ g d) → (i m : ℕ) (l : List (List ℕ)) → IsLayers n q m l → layer_sum q i f l ≡ c *ℤ layer_sum q i g l
  layer_sum-times f g h i m [] k = sym (*ℤ-zero c)
  layer_sum-times f g h i zero (d ∷ l) k = absurd k
  layer_sum-times f g h i (suc m) (d ∷ l) k =
      ap₂ (λ (x t : ℤ). pos (q ^ i) *ℤ x +ℤ t) (h d k.0) (layer_sum-times f g h (suc i) m l k.1) ∙ times-step c (pos (q ^ i)) (g d) (layer_sum q (suc i) g l)

  pair_sum-times : (f g : List ℕ → List ℕ → ℤ) → ((d e : List ℕ) → IsLayer n q d → IsLayer n q e → f d e ≡ c *ℤ g d e) → (i m m' : ℕ) (a b : List (List ℕ)) → IsLayers n q m a → IsLayers n q m' b
      → pair_sum q i f a b ≡ c *ℤ pair_sum q i g a b
  pair_sum-times f g h i m m' [] b k k' = sym (*ℤ-zero c)
  pair_sum-times f g h i zero m' (d ∷ a) b k k' = absurd k
  pair_sum-times f g h i (suc m) m' (d ∷ a) b k k' =
      ap₂ ◌+ℤ◌ (layer_sum-times (f d) (g d) (λ e. h d e k.0) i m' b k') (pair_sum-times f g h (suc i) m m' a b k.1 k')
      ∙ sym (*ℤ-+ℤ c (layer_sum q i (g d) b) (pair_sum q (suc i) g a b))

four_same : (x y : ℤ) → pos 4 *ℤ x ≡ pos 4 *ℤ y → x ≡ y
four_same = by_d₂ _ λ _ _ _ _. simp ints (omega arith)

-- ---- whole points

module _ (q : ℕ) (q> : 0 < q) where
  -- the inner product of two whole points is the weighted sum of those of their layer points, each of them whole
  pub inner-decodes : (m m' : ℕ) (a b : List (List ℕ)) → IsLayers 8 q m a → IsLayers 8 q m' b
      → inner (decode e8 nearest q a) (decode e8 nearest q b) ≡ pair_sum q 0 (λ d e. inner (layer_point8 q d) (layer_point8 q e)) a b
  inner-decodes m m' a b h k =
      four_same _ _
      (inner-four (decode e8 nearest q a) (decode e8 nearest q b) (decode-in e8 nearest q q> m a h) (decode-in e8 nearest q q> m' b k)
      ∙ dot-decodes e8 nearest q a b
      ∙ pair_sum-times 8 q (pos 4) (λ d e. dot (layer_point8 q d) (layer_point8 q e)) (λ d e. inner (layer_point8 q d) (layer_point8 q e))
      (λ d e u v. sym (inner-four (layer_point8 q d) (layer_point8 q e) (layer_point-in e8 nearest q q> d u) (layer_point-in e8 nearest q q> e v))) 0 m m' a b h k)

  -- so for two coded blocks
  pub pair-layers : (m : ℕ) (b b' : List ℕ) → IsCode 8 q m (drop 1 b) → IsCode 8 q m (drop 1 b')
      → inner (whole_point q m b) (whole_point q m b') ≡ pair_sum q 0 (λ d e. inner (layer_point8 q d) (layer_point8 q e)) (cut 8 m (drop 1 b)) (cut 8 m (drop 1 b'))
  pair-layers m b b' h k = inner-decodes m m (cut 8 m (drop 1 b)) (cut 8 m (drop 1 b')) (cut-layers 8 q m (drop 1 b) h) (cut-layers 8 q m (drop 1 b') k)

-- and for readings and one
pub query-layers : (q m : ℕ) (X : List ℤ) (b : List ℕ) → dot X (whole_point q m b) ≡ layer_sum q 0 (λ ds. dot X (layer_point8 q ds)) (cut 8 m (drop 1 b))
query-layers q m X b = dot-decode e8 nearest q X (cut 8 m (drop 1 b))
