-- The weights q^m: a whole point is its first layer point and q times the whole of the layers above; inner products are weighted sums.
use Rattle.std.specs.Prelude.{◌≡◌, List, [], ◌∷◌, ℕ, zero, suc, ◌*◌, ◌^◌, ℤ, pos, ◌+ℤ◌, ◌*ℤ◌}
use Rattle.std.proofs.Common.{sym, ◌∙◌, ap, ap₂, arith}
use Rattle.std.proofs.Math.Nat.{pow-zero, pow-succ'}
use Rattle.integers.specs.Laws.Difference.{by_d, ints, by_d₂}
use Rattle.integers.specs.Laws.Sums.{entries, lengths, ext, dot-comm, dot-add, dot-scale, dot-add-r, dot-scale-r, dot-zeros}
use Rattle.integers.specs.Vectors.{«at», zeros, add_v, scale_v, dot}
use Rattle.layers.specs.Layers.{layer_point, weighted, decode}
use Rattle.layers.specs.Rule.{Lattice, Rule}
use Rattle.layers.specs.Sums.{layer_sum, pair_sum}

none-step : (w : ℤ) → pos 0 ≡ w *ℤ pos 0
none-step = by_d _ λ _ _. simp ints (omega arith)

up_step : (q w : ℕ) (x y : ℤ) → pos (q * w) *ℤ x +ℤ pos q *ℤ y ≡ pos q *ℤ (pos w *ℤ x +ℤ y)
up_step q w = by_d₂ _ λ _ _ _ _. simp ints (omega arith)

pub times-step : (q w : ℕ) (x : ℤ) → pos (q * w) *ℤ x ≡ pos q *ℤ (pos w *ℤ x)
times-step q w = by_d _ λ _ _. simp ints (omega arith)

once : (x : ℤ) → pos 1 *ℤ x ≡ x
once = by_d _ λ _ _. simp ints (omega arith)

one-step : (x y : ℤ) → pos 1 *ℤ x +ℤ y ≡ x +ℤ y
one-step = by_d₂ _ λ _ _ _ _. simp ints (omega arith)

-- a sum that starts at q^i is q^i times the one that starts at 1
module _ (q : ℕ) (f : List ℕ → ℤ) where
  pub layer_sum-up : (i : ℕ) (l : List (List ℕ)) → layer_sum q (suc i) f l ≡ pos q *ℤ layer_sum q i f l
  layer_sum-up i [] = none-step (pos q)
  layer_sum-up i (ds ∷ l) = ap₂ (λ (w : ℕ) (t : ℤ). pos w *ℤ f ds +ℤ t) (pow-succ' q i) (layer_sum-up (suc i) l) ∙ up_step q (q ^ i) (f ds) (layer_sum q (suc i) f l)

  layer_sum-from : (l : List (List ℕ)) (i : ℕ) → pos (q ^ i) *ℤ layer_sum q 0 f l ≡ layer_sum q i f l
  layer_sum-from l zero = ap (λ (w : ℕ). pos w *ℤ layer_sum q 0 f l) (pow-zero q) ∙ once (layer_sum q 0 f l)
  layer_sum-from l (suc i) = ap (λ (w : ℕ). pos w *ℤ layer_sum q 0 f l) (pow-succ' q i) ∙ times-step q (q ^ i) (layer_sum q 0 f l) ∙ ap (λ (t : ℤ). pos q *ℤ t) (layer_sum-from l i) ∙ sym (layer_sum-up i l)

module _ (L : Lattice) (R : Rule L) (q : ℕ) where
  weighted-up : (i : ℕ) (l : List (List ℕ)) → weighted L R q (suc i) l ≡ scale_v (pos q) (weighted L R q i l)
  weighted-up i [] = ext (simp lengths) λ j. simp entries (none-step (pos q))
  weighted-up i (ds ∷ l) =
      let p : List ℤ = layer_point L R q ds in let y : List ℤ = weighted L R q (suc i) l in
      ap₂ (λ (w : ℕ) (t : List ℤ). add_v (scale_v (pos w) p) t) (pow-succ' q i) (weighted-up (suc i) l)
      ∙ ext (simp lengths) λ j. simp entries (up_step q (q ^ i) («at» p j) («at» y j))

  -- a whole point is its first layer point and q times the whole of the rest
  pub decode-next : (ds : List ℕ) (l : List (List ℕ)) → decode L R q (ds ∷ l) ≡ add_v (layer_point L R q ds) (scale_v (pos q) (decode L R q l))
  decode-next ds l =
      let p : List ℤ = layer_point L R q ds in let y : List ℤ = decode L R q l in
      ap₂ (λ (w : ℕ) (t : List ℤ). add_v (scale_v (pos w) p) t) (pow-zero q) (weighted-up 0 l)
      ∙ ext (simp lengths) λ j. simp entries (one-step («at» p j) (pos q *ℤ «at» y j))

  -- the inner product of a vector with a whole point is the weighted sum of those with its layer points
  dot-weighted : (x : List ℤ) (i : ℕ) (l : List (List ℕ)) → dot x (weighted L R q i l) ≡ layer_sum q i (λ ds. dot x (layer_point L R q ds)) l
  dot-weighted x i [] = dot-zeros x L.size
  dot-weighted x i (ds ∷ l) =
      let p : List ℤ = layer_point L R q ds in let y : List ℤ = weighted L R q (suc i) l in
      dot-add-r (scale_v (pos (q ^ i)) p) y x ∙ ap₂ ◌+ℤ◌ (dot-scale-r (pos (q ^ i)) x p) (dot-weighted x (suc i) l)

  pub dot-decode : (x : List ℤ) (l : List (List ℕ)) → dot x (decode L R q l) ≡ layer_sum q 0 (λ ds. dot x (layer_point L R q ds)) l
  dot-decode x l = dot-weighted x 0 l

  -- the inner product of two whole points is the weighted sum of those of their layer points
  dot-pair : (i : ℕ) (a b : List (List ℕ)) → dot (weighted L R q i a) (decode L R q b) ≡ pair_sum q i (λ d e. dot (layer_point L R q d) (layer_point L R q e)) a b
  dot-pair i [] b = let y : List ℤ = decode L R q b in dot-comm (zeros L.size) y ∙ dot-zeros y L.size
  dot-pair i (ds ∷ a) b =
      let p : List ℤ = layer_point L R q ds in let x : List ℤ = weighted L R q (suc i) a in let y : List ℤ = decode L R q b in
      dot-add (scale_v (pos (q ^ i)) p) x y
      ∙ ap₂ ◌+ℤ◌ (dot-scale (pos (q ^ i)) p y ∙ ap (λ (t : ℤ). pos (q ^ i) *ℤ t) (dot-decode p b) ∙ layer_sum-from q (λ e. dot p (layer_point L R q e)) b i) (dot-pair (suc i) a b)

  pub dot-decodes : (a b : List (List ℕ)) → dot (decode L R q a) (decode L R q b) ≡ pair_sum q 0 (λ d e. dot (layer_point L R q d) (layer_point L R q e)) a b
  dot-decodes a b = dot-pair 0 a b
