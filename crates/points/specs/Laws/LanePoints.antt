-- Eight blocks side by side, their points: from the top layer down, columns as sums of rows, and how large they are.
use Rattle.std.specs.Prelude.{◌≡◌, refl, List, [], ◌++◌, map, ℕ, suc, ◌+◌, ◌*◌, ◌-◌, ◌^◌, ◌<◌, ◌≤◌, ℤ, pos, nat_abs, ◌+ℤ◌, ◌*ℤ◌, length, get_or, take, drop, replicate}
use Rattle.std.proofs.Common.{sym, ◌∙◌, ap, ap₂, subst, subst₂, mul-le-mul, le_refl, le_trans, arith, length-drop, take_at, drop_at, drop-drop, ext_get_or}
use Rattle.std.proofs.lemmas.List.{map-append, length-map, get_or-replicate}
use Rattle.std.proofs.Math.Nat.{pow-le-pow_right}
use Rattle.integers.specs.Laws.Loops.{map_at, range-long, range_at}
use Rattle.integers.specs.Laws.Sizes.{abs-mul}
use Rattle.integers.specs.Laws.Sums.{entries, lengths, length-scale_v}
use Rattle.integers.specs.Vectors.{«at», zeros, add_v, scale_v, Sized, range}
use Rattle.columns.specs.Columns.{column, Square8, LayerColumns, PointColumns}
use Rattle.layers.specs.Digits.{IsLayer, IsCode, cut}
use Rattle.layers.specs.E8.{e8, nearest, layer_point8, decode8}
use Rattle.layers.proofs.Laws.Bases.{base-is, base-two}
use Rattle.layers.proofs.Laws.E8.{decode-in8, decode-small8}
use Rattle.layers.proofs.Laws.Loops.{code-drop, code-layer, decode-down}
use Rattle.layers.proofs.Laws.Splitting.{layer_point-in}
use Rattle.layers.proofs.Laws.Widths.{bounded-within, layer_point-small, width-less}
use Rattle.refusals.specs.Limits.{m_most, power_most}
use Rattle.records.specs.Eight.Codes.{Digital, AreCodes, block_size, whole_point}
use Rattle.points.specs.Lanes.{lane_digits, Gathered, LanePoints, BlockPoints, Summable, SummableRows, SummedRows}
use Rattle.points.specs.Laws.Lanes.{lane_here, lane-code}
use Rattle.records.specs.Laws.Parts.{cut-long, cut-add, cut_at}

-- q = 2 with as many layers as there may be
pub two-digital : (m : ℕ) → m ≤ m_most → Digital (pos 2) m
two-digital m h = record {
  base = record { least = record { le = tt }; most = omega arith };
  digit = omega arith;
  few = h;
  power = le_trans (pow-le-pow_right (omega arith) h) (omega arith);
}

-- all layers
pub all-layers : (q m n : ℕ) (f : List ℕ) (e : List (List ℤ)) → n ≤ 8 → LanePoints q m n 0 f e → BlockPoints q m n f e
all-layers q m n f e h p = record {
  square = p.square;
  each = λ t l. let k : m - 0 ≡ m = omega arith in let z : 8 * 0 ≡ 0 = omega arith in
      p.each t (omega arith) ∙ ap₂ (λ (k j : ℕ). decode8 q k (drop j (lane_digits m n f t))) k z ∙ ap (decode8 q m) (lane_here m n f t l);
}

module _ (q : ℤ) (m : ℕ) (d : Digital q m) (g : List ℕ) (h : IsCode 8 (nat_abs q) m g) where
  abbrev w : ℕ
  w = nat_abs q

  q> : 0 < w
  q> = omega (arith, base-two q d.base)

  -- a layer's
  pub layer-narrow : (j : ℕ) → j < m → Sized 8 128 (layer_point8 w (take 8 (drop (8 * j) g)))
  layer-narrow j l = let ds : List ℕ = take 8 (drop (8 * j) g) in let k : IsLayer 8 w ds = code-layer 8 w m g h j l in
      record { long = (layer_point-in e8 nearest w q> ds k).long; small = λ i. omega (arith, layer_point-small e8 nearest w q> ds k i, d.digit) }

  -- q times those of the layers above one
  pub above-narrow : (j : ℕ) → j < m → Sized 8 (2 ^ 14) (scale_v q (decode8 w (m - suc j) (drop (8 * suc j) g)))
  above-narrow j l =
      let k : ℕ = m - suc j in let e : List ℤ = decode8 w k (drop (8 * suc j) g) in let c : IsCode 8 w k (drop (8 * suc j) g) = code-drop 8 w m g h (suc j) l in
      let p : w ^ suc k ≤ power_most = le_trans (pow-le-pow_right q> (omega arith)) d.power in
      record {
        long = length-scale_v q e ∙ (decode-in8 w k q> (drop (8 * suc j) g) c).long;
        small = λ i. simp entries (omega (
          arith,
          abs-mul q («at» e i),
          mul-le-mul (le_refl w) (decode-small8 w k q> (drop (8 * suc j) g) c i),
          width-less w (suc k) (base-two q d.base),
          p,
        ));
      }

-- ---- rows and columns

module _ (t : ℕ) (ht : t < 8) (j : ℕ) (hj : j < 8) where
  -- the entry j of the column t
  pub cell : (c : List (List ℤ)) → length c ≡ 8 → «at» (column (pos 0) t c) j ≡ «at» (get_or c j []) t
  cell c h = map_at (λ (row : List ℤ). «at» row t) c j [] (pos 0) (omega arith)

-- what is summable column by column is so row by row
pub summable-rows : (q : ℤ) (l e : List (List ℤ)) → Square8 l → Square8 e → ((t : ℕ) → t < 8 → Summable q (column (pos 0) t l) (column (pos 0) t e)) → SummableRows q l e
summable-rows q l e h k s = record {
  long = h.long;
  long' = k.long;
  each = λ j hj. record {
    first = record {
      long = h.rows j hj;
      small = bounded-within 8 128 (get_or l j []) (h.rows j hj) (λ t ht. subst (λ (z : ℤ). nat_abs z ≤ 128) (cell t ht j hj l h.long) ((s t ht).first.small j));
    };
    second = record {
      long = length-scale_v q (get_or e j []) ∙ k.rows j hj;
      small = bounded-within 8 (2 ^ 14) (scale_v q (get_or e j [])) (length-scale_v q (get_or e j []) ∙ k.rows j hj) (λ t ht.
          simp entries (subst (λ (z : ℤ). nat_abs (q *ℤ z) ≤ 2 ^ 14) (cell t ht j hj e k.long) (simp entries at ((s t ht).second.small j))));
    };
  };
}

module _ (q : ℤ) (l e r : List (List ℤ)) (h : Square8 l) (k : Square8 e) (s : SummedRows q l e r) where
  summed-square : Square8 r
  summed-square = record { long = s.long; rows = λ j hj. ap length (s.each j hj) ∙ simp lengths (omega (arith, h.rows j hj, k.rows j hj)) }

  -- what is summed row by row is so column by column
  summed-columns : (t : ℕ) → t < 8 → column (pos 0) t r ≡ add_v (column (pos 0) t l) (scale_v q (column (pos 0) t e))
  summed-columns t ht =
      ext_get_or (pos 0) (column (pos 0) t r) (add_v (column (pos 0) t l) (scale_v q (column (pos 0) t e)))
      (simp (lengths, length-map) (omega (arith, s.long, h.long, k.long)))
      λ j i. let hj : j < 8 = omega (arith, s.long, length-map r (λ (row : List ℤ). «at» row t)) in
      cell t ht j hj r s.long ∙ ap (λ (row : List ℤ). «at» row t) (s.each j hj)
      ∙ simp entries (ap₂ (λ (x y : ℤ). x +ℤ q *ℤ y) (sym (cell t ht j hj l h.long)) (sym (cell t ht j hj e k.long)))

-- ---- from the top layer down

-- no layers
pub lanes-none : (q m n : ℕ) (f : List ℕ) → LanePoints q m n m f (replicate 8 (zeros 8))
lanes-none q m n f = record {
  square = record { long = refl; rows = λ j h. ap length (get_or-replicate 8 j (zeros 8) [] h) };
  each = λ t h. let e : 0 ≡ m - m = omega arith in ap (λ (z : ℤ). replicate 8 z) (get_or-replicate 8 t (pos 0) (pos 0) h) ∙ ap (λ (k : ℕ). decode8 q k (drop (8 * m) (lane_digits m n f t))) e;
}

module _ (q : ℤ) (m n : ℕ) (f : List ℕ) (d : Digital q m) (a : AreCodes (nat_abs q) m n f) (j : ℕ) (lj : j < m) where
  w> : 0 < nat_abs q
  w> = omega (arith, base-two q d.base)

  code : (t : ℕ) → IsCode 8 (nat_abs q) m (lane_digits m n f t)
  code t = lane-code m n f t (nat_abs q) w> a

  module _ (c : List (List ℕ)) (g : Gathered m n j f c) where
    pub lanes-layers : LayerColumns (nat_abs q) c
    lanes-layers = record { square = g.square; each = λ t h. subst (IsLayer 8 (nat_abs q)) (sym (g.each t h)) (code-layer 8 (nat_abs q) m (lane_digits m n f t) (code t) j lj) }

    module _ (l e : List (List ℤ)) (p : PointColumns (nat_abs q) c l) (u : LanePoints (nat_abs q) m n (suc j) f e) where
      layer-is : (t : ℕ) → t < 8 → column (pos 0) t l ≡ layer_point8 (nat_abs q) (take 8 (drop (8 * j) (lane_digits m n f t)))
      layer-is t h = p.each t h ∙ ap (layer_point8 (nat_abs q)) (g.each t h)

      pub lanes-summable : SummableRows q l e
      lanes-summable = summable-rows q l e p.square u.square λ t h.
          subst₂ (Summable q) (sym (layer-is t h)) (sym (u.each t h)) (record { first = layer-narrow q m d (lane_digits m n f t) (code t) j lj; second = above-narrow q m d (lane_digits m n f t) (code t) j lj })

      -- a layer's points, and q times those above
      pub lanes-more : (r : List (List ℤ)) → SummedRows q l e r → LanePoints (nat_abs q) m n j f r
      lanes-more r s = record {
        square = summed-square q l e r p.square u.square s;
        each = λ t h. let x : List ℤ = layer_point8 (nat_abs q) (take 8 (drop (8 * j) (lane_digits m n f t))) in let y : List ℤ = decode8 (nat_abs q) (m - suc j) (drop (8 * suc j) (lane_digits m n f t)) in
            summed-columns q l e r p.square u.square s t h
            ∙ ap₂ (λ (x y : List ℤ). add_v x (scale_v q y)) (layer-is t h) (u.each t h)
            ∙ ap (λ (k : ℤ). add_v x (scale_v k y)) (sym (base-is q d.base))
            ∙ sym (decode-down e8 nearest (nat_abs q) m (lane_digits m n f t) j lj);
      }

-- ---- groups of blocks

-- the blocks from i on
pub codes-from : (q m k : ℕ) (f : List ℕ) → AreCodes q m k f → (i n : ℕ) → i + n ≤ k → AreCodes q m n (drop (block_size m * i) f)
codes-from q m k f h i n l =
    let size : ℕ = block_size m in let all : size * (i + n) ≤ size * k = mul-le-mul (le_refl size) l in
    record {
      long = simp length-drop (omega (arith, h.long, all));
      each = λ t lt. let s : size * (i + t) ≡ size * i + size * t = omega arith in
          subst (λ (g : List ℕ). IsCode 8 q m (drop 1 (take size g))) (ap (λ (j : ℕ). drop j f) s ∙ sym (drop-drop (size * t) (size * i) f)) (h.each (i + t) (omega arith));
    }

-- the columns of n blocks are their points
points-columns : (q m n : ℕ) (f : List ℕ) (e : List (List ℤ)) → BlockPoints q m n f e → map (λ (t : ℕ). column (pos 0) t e) (range 0 n) ≡ map (whole_point q m) (cut (block_size m) n f)
points-columns q m n f e h =
    let g : ℕ → List ℤ = λ t. column (pos 0) t e in let blocks : List (List ℕ) = cut (block_size m) n f in let there : length blocks ≡ n = cut-long (block_size m) n f in
    ext_get_or [] (map g (range 0 n)) (map (whole_point q m) blocks) (simp length-map (range-long 0 n ∙ sym there))
    λ i l. let li : i < n = omega (arith, length-map (range 0 n) g, range-long 0 n) in
    range_at g 0 n i [] li ∙ ap g (omega arith) ∙ h.each i li ∙ sym (map_at (whole_point q m) blocks i [] [] (omega arith) ∙ ap (whole_point q m) (cut_at (block_size m) n i f li))

-- a loop writes the points of n blocks after those of i
pub group-more : (q m n : ℕ) (f : List ℕ) (o e : List (List ℤ)) (i : ℕ) → BlockPoints q m n (drop (block_size m * i) f) e → let x = map (whole_point q m) (cut (block_size m) i f) ++ drop i o in
    (take i x ++ map (λ (t : ℕ). column (pos 0) t e) (range 0 n)) ++ drop (i + n) x ≡ map (whole_point q m) (cut (block_size m) (i + n) f) ++ drop (i + n) o
group-more q m n f o e i h =
    let size : ℕ = block_size m in let p : List ℕ → List ℤ = whole_point q m in let w : List (List ℤ) = map p (cut size i f) in let x : List (List ℤ) = w ++ drop i o in
    let long : length w ≡ i = length-map (cut size i f) p ∙ cut-long size i f in
    ap₂ (λ (a b : List (List ℤ)). a ++ b) (
    ap₂ (λ (a b : List (List ℤ)). a ++ b) (take_at w (drop i o) i long) (points-columns q m n (drop (size * i) f) e h) ∙ sym (ap (map p) (cut-add size i n f) ∙ map-append p (cut size i f) (cut size n (drop (size * i) f)))
    ) (sym (drop-drop n i x) ∙ ap (drop n) (drop_at w (drop i o) i long) ∙ drop-drop n i o)
