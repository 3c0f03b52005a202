-- How large layer points, whole points and leftovers are, from what the rule leaves of each coordinate alone.
-- W is q (q^m - 1) / (q - 1)
use Rattle.std.specs.Prelude.{◌≡◌, Bool, true, false, cond, ℕ, zero, suc, ◌+◌, ◌*◌, ◌-◌, ◌^◌, ◌<◌, ◌≤◌, T, leb, pos, nat_abs, ◌+ℤ◌, ◌-ℤ◌, ◌*ℤ◌, length}
use Rattle.std.proofs.Common.{sym, ap, subst, mul-le-mul, le_refl, arith, leb→le}
use mathlib.Core.List.{List, [], ◌∷◌}
use Rattle.std.proofs.Math.Nat.{pow-zero, pow-succ'}
use Rattle.std.proofs.Math.Decide.{dec_le}
use Rattle.std.proofs.Math.IntN.{ℤ}
use Rattle.std.proofs.Math.ListN.{get_or-eq_default}
use Rattle.integers.specs.Laws.Difference.{ints, by_d₂}
use Rattle.integers.specs.Laws.Sizes.{abs-add, abs-sub, abs-mul, abs-mul-le}
use Rattle.integers.specs.Laws.Sums.{at-zeros, entries}
use Rattle.integers.specs.Vectors.{«at», Bounded, Sized}
use Rattle.refusals.specs.Limits.{q_most, power_most}
use Rattle.layers.specs.Digits.{IsLayer, IsLayers}
use Rattle.layers.proofs.Laws.Splitting.{pos-lt, digit_point-in, layer_point-in}
use Rattle.layers.specs.Laws.Weights.{decode-next}
use Rattle.layers.specs.Layers.{digit_point, leftover, layer_point, decode}
use Rattle.layers.specs.Rule.{Lattice, Rule}
use Rattle.layers.specs.Sizes.{width, long_power, score_width}

width-step : (p m : ℕ) → p * width (suc p) m + suc p ≡ suc p * suc p ^ m
width-step p zero = rw (pow-zero (suc p)) (omega arith)
width-step p (suc m) = rw (pow-succ' (suc p) m) (omega (arith, ap (λ (t : ℕ). suc p * t) (width-step p m)))

pub width_is : (q m : ℕ) → 0 < q → (q - 1) * width q m + q ≡ q * q ^ m
width_is zero m h = absurd (omega arith)
width_is (suc p) m h = rw (one p) (width-step p m)
  where
    one : (p : ℕ) → suc p - 1 ≡ p
    one p = omega arith

-- W is at most 2 (q^m - 1)
pub width-less : (q m : ℕ) → 2 ≤ q → width q m + 2 ≤ 2 * q ^ m
width-less q zero h = rw (pow-zero q) (omega arith)
width-less q (suc m) h = rw (pow-succ' q m) (omega (arith, mul-le-mul (le_refl q) (width-less q m h)))

-- the one bound that serves every score, with and without the factor q: W' is at most 2^17 - 2
pub score_width-less : (q m : ℕ) → 2 ≤ q → q ≤ q_most → q ^ m ≤ long_power → score_width q m + 2 ≤ 2 ^ 17
score_width-less q m two most long = go (leb (q ^ m) power_most) (λ t. leb→le (q ^ m) power_most t)
  where
    go : (b : Bool) → (T b → q ^ m ≤ power_most) → cond b (q * (width q m + 1)) (width q m) + 2 ≤ 2 ^ 17
    go true f = omega (arith, f tt, width-less q m two, mul-le-mul most (width-less q m two))
    go false f = omega (arith, width-less q m two)

add-size : (q B : ℕ) (x y : ℤ) → nat_abs x ≤ 2 * q → nat_abs y ≤ 2 * B → nat_abs (x +ℤ pos q *ℤ y) ≤ 2 * (q + q * B)
add-size q B x y h k = omega (arith, abs-add x (pos q *ℤ y), abs-mul (pos q) y, mul-le-mul (le_refl q) k)

-- what holds of the first n entries of n holds of all, since past the end they are 0
pub bounded-within : (n B : ℕ) (a : List ℤ) → length a ≡ n → ((i : ℕ) → i < n → nat_abs («at» a i) ≤ B) → Bounded B a
bounded-within n B a h f i = elim (dec_le n i) [
  | yes l ↦ rw (get_or-eq_default a (pos 0) {n = i} (omega arith)) (omega arith)
  | no l ↦ f i (omega arith)
]

module _ (L : Lattice) (R : Rule L) (q : ℕ) (q> : 0 < q) where
  -- no coordinate of a layer point is over 2 q, doubled
  pub layer_point-small : (ds : List ℕ) → IsLayer L.size q ds → Bounded (2 * q) (layer_point L R q ds)
  unfolding layer_point
  layer_point-small ds h =
      let p : List ℤ = digit_point L ds in
      bounded-within L.size (2 * q) (layer_point L R q ds) (L.long (layer_point L R q ds) (layer_point-in L R q q> ds h))
      λ i l. simp entries (R.close (pos q) (pos-lt q q>) p (L.long p (digit_point-in L R q q> ds h)) i l)

  -- 4. nor one of a whole point over 2 W
  pub decode-small : (m : ℕ) (l : List (List ℕ)) → IsLayers L.size q m l → Bounded (2 * width q m) (decode L R q l)
  decode-small zero [] h i = rw (at-zeros L.size i) (omega arith)
  decode-small zero (ds ∷ l) h i = absurd h
  decode-small (suc m) [] h i = absurd h
  decode-small (suc m) (ds ∷ l) h i =
      rw (decode-next L R q ds l) (simp entries (add-size q (width q m) («at» (layer_point L R q ds) i) («at» (decode L R q l) i) (layer_point-small ds h.0 i) (decode-small m l h.1 i)))

  -- so all stay under 4 P where q^m is at most P
  pub decode-under : 2 ≤ q → (P m : ℕ) → q ^ m ≤ P → (l : List (List ℕ)) → IsLayers L.size q m l → (i : ℕ) → nat_abs («at» (decode L R q l) i) < 4 * P
  decode-under two P m most l h i = omega (arith, decode-small m l h i, width-less q m two)

  -- and times a step of at most S, at most 4 P S
  pub decode-times : 2 ≤ q → (P S m : ℕ) → q ^ m ≤ P → (l : List (List ℕ)) → IsLayers L.size q m l → (s : ℤ) → nat_abs s ≤ S → (i : ℕ) → nat_abs (s *ℤ «at» (decode L R q l) i) ≤ 4 * P * S
  decode-times two P S m most l h s small i =
      let e : ℤ = «at» (decode L R q l) i in let k : nat_abs e ≤ 4 * P = omega (arith, decode-under two P m most l h i) in
      omega (arith, abs-mul-le s e small k)

back-sub : (x y : ℤ) → y ≡ x -ℤ (x -ℤ y)
back-sub = by_d₂ _ λ _ _ _ _. simp ints (omega arith)

-- from what is left
small-step : (q : ℕ) (x e : ℤ) → nat_abs (x -ℤ pos q *ℤ e) ≤ 2 * q → q * nat_abs e ≤ nat_abs x + 2 * q
small-step q x e h =
    let y : ℤ = pos q *ℤ e in
    let k : nat_abs y ≤ nat_abs x + nat_abs (x -ℤ y) = subst (λ (t : ℤ). nat_abs t ≤ nat_abs x + nat_abs (x -ℤ y)) (sym (back-sub x y)) (abs-sub x (x -ℤ y)) in
    omega (arith, abs-mul (pos q) e)

halve-step : (q e x B : ℕ) → 2 ≤ q → 4 ≤ B → x ≤ B → q * e ≤ x + 2 * q → e ≤ B
halve-step q e x B h k l m = elim (dec_le e B) [
  | yes p ↦ p
  | no p ↦ let r : B + 1 ≤ e = omega arith in absurd (omega (arith, mul-le-mul (le_refl q) r, mul-le-mul (le_refl q) k, mul-le-mul h (le_refl B)))
]

module _ (L : Lattice) (R : Rule L) (q : ℕ) (two : 2 ≤ q) (B : ℕ) (four : 4 ≤ B) where
  q> : 0 < q
  q> = omega arith

  -- rounding at q makes no coordinate larger, from 4 on
  pub round-stays : (g : List ℤ) → Sized L.size B g → Sized L.size B (R.round (pos q) g)
  round-stays g h =
      let e : List ℤ = R.round (pos q) g in let e-long : length e ≡ L.size = L.long e (R.member (pos q) (pos-lt q q>) g h.long) in
      record {
        long = e-long;
        small = bounded-within L.size B e e-long
            λ i l. halve-step q (nat_abs («at» e i)) (nat_abs («at» g i)) B two four (h.small i) (small-step q («at» g i) («at» e i) (R.close (pos q) (pos-lt q q>) g h.long i l));
      }

  pub leftover-stays : (m : ℕ) (g : List ℤ) → Sized L.size B g → Sized L.size B (leftover L R q m g)
  leftover-stays zero g h = h
  leftover-stays (suc m) g h = leftover-stays m (R.round (pos q) g) (round-stays g h)
