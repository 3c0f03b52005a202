-- A q that the code takes: it is positive, a divisor that the nearest point takes, and its digits are small numbers.
use Rattle.std.specs.Prelude.{◌≡◌, refl, true, List, [], ◌∷◌, map, ℕ, zero, suc, ◌*◌, ◌-◌, ◌^◌, ◌<◌, ◌≤◌, ℤ, pos, negsuc, neg_ℤ, nat_abs, ◌+ℤ◌, ◌-ℤ◌, ◌*ℤ◌, length, drop, ◌≤ℤ◌}
use Rattle.std.proofs.Common.{sym, ◌∙◌, arith, le_trans, leb→le, take_all}
use Rattle.std.proofs.Math.Path.{subst}
use Rattle.std.proofs.Math.Nat.{pow-le-pow_right}
use Rattle.std.proofs.lemmas.List.{length-map}
use Rattle.std.specs.Int.Signed.{pos-nat_abs, yes_non_neg}
use Rattle.integers.specs.Floor.{floor_div}
use Rattle.integers.specs.Laws.Difference.{ints, by_d₃}
use Rattle.integers.specs.Laws.Signed.{≤ℤ-trans}
use Rattle.integers.specs.Laws.Sums.{entries, lengths, ext, dot-bound, sized-more, sized-map}
use Rattle.integers.specs.Laws.Tests.{sized-small}
use Rattle.integers.specs.Vectors.{small, «at», add_v, sub_v, scale_v, dot, Bounded, Sized}
use Rattle.lattice.specs.Basis.{basis, inverse, apply, point_of, coefficients}
use Rattle.lattice.specs.Computed.{nearest_point}
use Rattle.lattice.specs.Laws.Rows.{Rows}
use Rattle.rounding.specs.Rounding.{Divisor}
use Rattle.layers.specs.Digits.{Below, IsLayer, IsCode, cut}
use Rattle.layers.specs.E8.{e8, nearest, layer_point8, decode8}
use Rattle.layers.proofs.Laws.E8.{decode-in8}
use Rattle.layers.proofs.Laws.Loops.{code-drop}
use Rattle.layers.specs.Laws.Rows.{cut-layers}
use Rattle.layers.proofs.Laws.Splitting.{layer_point-in}
use Rattle.layers.proofs.Laws.Widths.{layer_point-small, decode-under, round-stays}
use Rattle.layers.specs.Layers.{digit_point, layer_point}
use Rattle.layers.specs.Sizes.{long_power, Base}

module _ (q : ℤ) (h : Base q) where
  pub base-is : pos (nat_abs q) ≡ q
  base-is = pos-nat_abs q (yes_non_neg (≤ℤ-trans (pos 0) (pos 2) q (record { le = tt }) h.least))

  pub base-two : 2 ≤ nat_abs q
  base-two = two q h.least
    where
      two : (q : ℤ) → pos 2 ≤ℤ q → 2 ≤ nat_abs q
      two (pos n) k = leb→le 2 n k.le
      two (negsuc n) k = absurd k.le

  pub base-divisor : Divisor q
  base-divisor = record { least = ≤ℤ-trans (pos 1) (pos 2) q (record { le = tt }) h.least; most = omega (arith, h.most) }

less-step : (q x y : ℤ) → x +ℤ (pos 0 -ℤ q) *ℤ y ≡ x +ℤ neg_ℤ (q *ℤ y)
less-step = by_d₃ _ λ _ _ _ _ _ _. simp ints (omega arith)

-- a layer's digits, as coefficients
pub digits-sized : (n q : ℕ) (ds : List ℕ) → IsLayer n q ds → Sized n q (map pos ds)
digits-sized n q ds h = record { long = length-map ds pos ∙ h.long; small = go ds h.below }
  where
    go : (ds : List ℕ) → Below q ds → Bounded q (map pos ds)
    go [] b i = omega arith
    go (d ∷ ds) b zero = omega (arith, b.0)
    go (d ∷ ds) b (suc i) = go ds b.1 i

-- a table whose rows are small, by a small vector
module _ (n A B : ℕ) (c : List ℤ) (h : Sized n B c) where
  row_small : (r : List ℤ) → Sized n A r → nat_abs (dot r c) ≤ n * (A * B)
  row_small r k = rw (take_all n r (omega (arith, k.long)), take_all n c (omega (arith, h.long))) at (dot-bound A B r c k.small h.small n)

  apply-small : (M : List (List ℤ)) → Rows (Sized n A) M → Bounded (n * (A * B)) (apply M c)
  apply-small [] k i = omega arith
  apply-small (r ∷ M) k zero = row_small r k.0
  apply-small (r ∷ M) k (suc i) = apply-small M k.1 i

basis-small : Rows (Sized 8 4) basis
basis-small =
    let good : (r : List ℤ) → length r ≡ 8 → small 4 r ≡ true → Sized 8 4 r = sized-small 8 4 in
    (good _ refl refl, (good _ refl refl, (good _ refl refl, (good _ refl refl, (good _ refl refl, (good _ refl refl, (good _ refl refl, (good _ refl refl, tt))))))))

pub point_of-sized : (B : ℕ) (c : List ℤ) → Sized 8 B c → Sized 8 (8 * (4 * B)) (point_of c)
point_of-sized B c h = record { long = refl; small = apply-small 8 4 B c h basis basis-small }

inverse-small : Rows (Sized 8 12) inverse
inverse-small =
    let good : (r : List ℤ) → length r ≡ 8 → small 12 r ≡ true → Sized 8 12 r = sized-small 8 12 in
    (good _ refl refl, (good _ refl refl, (good _ refl refl, (good _ refl refl, (good _ refl refl, (good _ refl refl, (good _ refl refl, (good _ refl refl, tt))))))))

quarter-small : (B : ℕ) (x : ℤ) → nat_abs x ≤ 4 * B → nat_abs (floor_div x 4) ≤ B
quarter-small B (pos n) h = omega arith
quarter-small B (negsuc n) h = omega arith

pub coefficients-sized : (B : ℕ) (e : List ℤ) → Sized 8 B e → Sized 8 (24 * B) (coefficients e)
coefficients-sized B e h = sized-map 8 (8 * (12 * B)) (apply inverse e) (record { long = refl; small = apply-small 8 12 B e h inverse inverse-small }) (λ (x : ℤ). floor_div x 4) (24 * B) (λ x l. quarter-small (24 * B) x (omega arith))

-- a layer's points in range: the digits' point, the point that it rounds to, and the layer point
module _ (q : ℤ) (b : Base q) (ds : List ℕ) (h : IsLayer 8 (nat_abs q) ds) where
  abbrev p : List ℤ
  p = point_of (map pos ds)

  pub digit_point-sized : Sized 8 (2 ^ 30) p
  digit_point-sized = sized-more 8 (8 * (4 * nat_abs q)) p (point_of-sized (nat_abs q) (map pos ds) (digits-sized 8 (nat_abs q) ds h)) (2 ^ 30) (omega (arith, b.most))

  pub nearest_point-sized : Sized 8 (2 ^ 30) (nearest_point q p)
  nearest_point-sized = subst (λ (z : ℤ). Sized 8 (2 ^ 30) (nearest_point z p)) (base-is q b) (round-stays e8 nearest (nat_abs q) (base-two q b) (2 ^ 30) (omega arith) p digit_point-sized)

  -- the layer point as the code makes it
  pub layer_point8-is : add_v p (scale_v (pos 0 -ℤ q) (nearest_point q p)) ≡ layer_point8 (nat_abs q) ds
  unfolding layer_point digit_point
  layer_point8-is =
      subst (λ (z : ℤ). add_v p (scale_v (pos 0 -ℤ q) (nearest_point q p)) ≡ sub_v p (scale_v z (nearest_point z p))) (sym (base-is q b))
      (ext (simp lengths) λ i. simp entries (less-step q («at» p i) («at» (nearest_point q p) i)))

  pub layer_point8-sized : Sized 8 (2 ^ 30) (layer_point8 (nat_abs q) ds)
  layer_point8-sized =
      let two : 2 ≤ nat_abs q = base-two q b in let q> : 0 < nat_abs q = omega arith in let l : List ℤ = layer_point8 (nat_abs q) ds in
      record { long = (layer_point-in e8 nearest (nat_abs q) q> ds h).long; small = λ i. omega (arith, layer_point-small e8 nearest (nat_abs q) q> ds h i, b.most) }

-- what the layers from i on decode to
module _ (q : ℤ) (b : Base q) (m : ℕ) (most : nat_abs q ^ m ≤ long_power) (f : List ℕ) (h : IsCode 8 (nat_abs q) m f) where
  pub decode8-sized : (i : ℕ) → i ≤ m → Sized 8 (2 ^ 30) (decode8 (nat_abs q) (m - i) (drop (8 * i) f))
  decode8-sized i l =
      let w : ℕ = nat_abs q in let two : 2 ≤ w = base-two q b in let q> : 0 < w = omega arith in let g : List ℕ = drop (8 * i) f in let k : ℕ = m - i in
      let c : IsCode 8 w k g = code-drop 8 w m f h i l in
      let p : w ^ k ≤ long_power = le_trans (pow-le-pow_right q> (omega arith)) most in
      record { long = (decode-in8 w k q> g c).long; small = λ j. omega (arith, decode-under e8 nearest w q> two long_power k p (cut 8 k g) (cut-layers 8 w k g c) j) }
