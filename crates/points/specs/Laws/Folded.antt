-- All layers of a few blocks side by side, block after block: how a loop lays them, that every column is a layer, and that coordinate by coordinate they give the whole points.
use Rattle.std.specs.Prelude.{◌≡◌, refl, List, [], ℕ, zero, suc, ◌+◌, ◌*◌, ◌-◌, ◌/◌, ◌%◌, ◌^◌, ◌<◌, ◌≤◌, ℤ, pos, nat_abs, ◌+ℤ◌, ◌*ℤ◌, length, get_or, take, drop, replicate}
use Rattle.std.proofs.Common.{sym, ◌∙◌, ap, ap₂, subst, mul-le-mul, le_refl, zero-add, mod-lt, mod-eq_of_lt, arith, ext_get_or}
use Rattle.std.proofs.Math.Decide.{dec_le}
use Rattle.std.proofs.Math.Nat.{div-add-mod, div-eq_of_lt, add-mul-div_left, add-mul-mod_self_left}
use Rattle.std.proofs.lemmas.List.{length-map, get_or-replicate}
use Rattle.integers.specs.Laws.Sums.{entries}
use Rattle.integers.specs.Vectors.{«at», add_v, scale_v}
use Rattle.columns.specs.Columns.{column, LayerColumns, PointColumns}
use Rattle.layers.specs.Digits.{IsLayer}
use Rattle.layers.specs.E8.{e8, nearest, layer_point8, decode8}
use Rattle.layers.proofs.Laws.Bases.{base-is, base-two}
use Rattle.layers.proofs.Laws.E8.{decode-in8}
use Rattle.layers.proofs.Laws.Loops.{code-layer, decode-down}
use Rattle.records.specs.Eight.Codes.{Digital, AreCodes, whole_point}
use Rattle.records.specs.Laws.Parts.{part-ends}
use Rattle.points.specs.Lanes.{block_at, AllGathered, Taken, BlockPoints, whole_coordinate, FoldedRows, Foldable, FoldableRows}
use Rattle.points.specs.Laws.LanePoints.{cell, layer-narrow, above-narrow, lanes-layers}
use Rattle.points.specs.Laws.Lanes.{Laid, layer_at, block-layer}

-- ---- a loop lays them

-- the layer of the column t
abbrev pub layer_of : ℕ → List ℕ → ℕ → List ℕ
layer_of m f t = layer_at m f (t / m) (t % m)

-- the column m b + i is the layer i of block b
pub layer-of : (m : ℕ) (f : List ℕ) (b i : ℕ) → i < m → layer_at m f b i ≡ layer_of m f (m * b + i)
layer-of m f b i l = let e : i + m * b ≡ m * b + i = omega arith in
    sym (ap₂ (layer_at m f) (add-mul-div_left i b (omega arith) ∙ ap (λ (t : ℕ). t + b) (div-eq_of_lt l) ∙ zero-add b) (add-mul-mod_self_left i m b ∙ mod-eq_of_lt l)) ∙ ap (layer_of m f) e

pub laid-all : (m n : ℕ) (f : List ℕ) {c : List (List ℕ)} → Laid (layer_of m f) (m * n) c → AllGathered m n f c
laid-all m n f h = record {
  square = h.square;
  each = λ b i lb li. h.done (m * b + i) (omega (arith, part-ends m b n lb)) ∙ sym (block-layer m f b i li ∙ layer-of m f b i li);
  past = h.left;
}

-- ---- every column is a layer

-- eight zeros
zeros-layer : (q : ℕ) → 0 < q → IsLayer 8 q (replicate 8 0)
zeros-layer q q> = record { long = refl; below = (q>, (q>, (q>, (q>, (q>, (q>, (q>, (q>, tt)))))))) }

module _ (q : ℤ) (m n : ℕ) (f : List ℕ) (d : Digital q m) (a : AreCodes (nat_abs q) m n f) where
  abbrev w : ℕ
  w = nat_abs q

  w> : 0 < w
  w> = omega (arith, base-two q d.base)

  -- the digits of block b
  abbrev digits : ℕ → List ℕ
  digits b = drop 1 (block_at m f b)

  all-layer : (c : List (List ℕ)) → AllGathered m n f c → 0 < m → (t : ℕ) → t < 8 → IsLayer 8 w (column 0 t c)
  all-layer c g m> t h = elim (dec_le (m * n) t) [
    | yes k ↦ subst (IsLayer 8 w) (sym (g.past t k h)) (zeros-layer w w>)
    | no k ↦ let b : ℕ = t / m in let i : ℕ = t % m in let li : i < m = mod-lt t m> in
        let lb : b < n = elim (dec_le n b) [
          | yes z ↦ absurd (omega (arith, mul-le-mul (le_refl m) z, div-add-mod t m))
          | no z ↦ omega arith
        ] in
        subst (IsLayer 8 w) (sym (g.each b i lb li) ∙ ap (λ (t : ℕ). column 0 t c) (div-add-mod t m)) (code-layer 8 w m (digits b) (a.each b lb) i li)
  ]

  -- whatever a pass takes
  pub taken-layers : (c : List (List ℕ)) (i : ℕ) → i < m → Taken m n i f c → LayerColumns w c
  taken-layers c i l g = elim (dec_le (n * m) 8) [
    | yes h ↦ record { square = (g.all h).square; each = all-layer c (g.all h) (omega arith) }
    | no h ↦ lanes-layers q m n f d a i l c (g.one (omega arith))
  ]

  -- ---- the whole points, coordinate by coordinate

  module _ (few : n * m ≤ 8) (c : List (List ℕ)) (g : AllGathered m n f c) (l : List (List ℤ)) (p : PointColumns w c l) (b : ℕ) (lb : b < n) (j : ℕ) (hj : j < 8) where
    abbrev row : List ℤ
    row = get_or l j []

    ends : m * b + m ≤ 8
    ends = omega (arith, part-ends m b n lb)

    layer-is : (i : ℕ) → i < m → «at» row (m * b + i) ≡ «at» (layer_point8 w (take 8 (drop (8 * i) (digits b)))) j
    layer-is i h = let t< : m * b + i < 8 = omega (arith, ends) in
        sym (cell (m * b + i) t< j hj l p.square.long) ∙ ap (λ (v : List ℤ). «at» v j) (p.each (m * b + i) t< ∙ ap (layer_point8 w) (g.each b i lb h))

    -- the layers from i on
    above-is : (k i : ℕ) → i + k ≡ m → whole_coordinate q k (m * b + i) row ≡ «at» (decode8 w k (drop (8 * i) (digits b))) j
    above-is zero i e = sym (get_or-replicate 8 j (pos 0) (pos 0) hj)
    above-is (suc k) i e =
        let li : i < m = omega arith in let e₁ : m - i ≡ suc k = omega arith in let e₂ : m - suc i ≡ k = omega arith in let s : suc (m * b + i) ≡ m * b + suc i = omega arith in
        let x : List ℤ = layer_point8 w (take 8 (drop (8 * i) (digits b))) in let y : ℕ → List ℤ = λ k. decode8 w k (drop (8 * suc i) (digits b)) in
        ap₂ (λ (x y : ℤ). x +ℤ q *ℤ y) (layer-is i li) (ap (λ (t : ℕ). whole_coordinate q k t row) s ∙ above-is k (suc i) (omega arith))
        ∙ sym (
        ap (λ (k : ℕ). «at» (decode8 w k (drop (8 * i) (digits b))) j) (sym e₁)
        ∙ ap (λ (v : List ℤ). «at» v j) (decode-down e8 nearest w m (digits b) i li ∙ ap₂ (λ (q : ℤ) (k : ℕ). add_v x (scale_v q (y k))) (base-is q d.base) e₂)
        ∙ simp entries
        )

    foldable : Foldable q m (m * b) row
    foldable = record {
      long = p.square.rows j hj;
      within = ends;
      first = λ i h. subst (λ (z : ℤ). nat_abs z ≤ 128) (sym (layer-is i h)) ((layer-narrow q m d (digits b) (a.each b lb) i h).small j);
      second = λ i h. subst (λ (z : ℤ). nat_abs (q *ℤ z) ≤ 2 ^ 14) (sym (above-is (m - suc i) (suc i) (omega arith))) (simp entries at ((above-narrow q m d (digits b) (a.each b lb) i h).small j));
    }

    whole_is : whole_coordinate q m (m * b) row ≡ «at» (whole_point w m (block_at m f b)) j
    whole_is = let z : m * b ≡ m * b + 0 = omega arith in let z' : 8 * 0 ≡ 0 = omega arith in
        ap (λ (t : ℕ). whole_coordinate q m t row) z ∙ above-is m 0 (omega arith) ∙ ap (λ (k : ℕ). «at» (decode8 w m (drop k (digits b))) j) z'

  module _ (few : n * m ≤ 8) (c : List (List ℕ)) (g : AllGathered m n f c) (l : List (List ℤ)) (p : PointColumns w c l) where
    pub all-foldable : FoldableRows q m n l
    all-foldable = record { long = p.square.long; each = λ j hj b lb. foldable few c g l p b lb j hj }

    -- the rows so made are the points of the blocks
    pub all-points : (e : List (List ℤ)) → n ≤ 8 → FoldedRows q m n l e → BlockPoints w m n f e
    all-points e n≤ h = record {
      square = record { long = h.long; rows = λ j hj. (h.each j hj).long };
      each = λ b lb. let k : List ℤ = whole_point w m (block_at m f b) in let wide : length k ≡ 8 = (decode-in8 w m w> (digits b) (a.each b lb)).long in
          ext_get_or (pos 0) (column (pos 0) b e) k (length-map e _ ∙ h.long ∙ sym wide)
          λ j i. let hj : j < 8 = omega (arith, h.long, length-map e (λ (row : List ℤ). «at» row b)) in
          cell b (omega arith) j hj e h.long ∙ (h.each j hj).each b lb ∙ whole_is few c g l p b lb j hj;
    }
