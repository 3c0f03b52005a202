-- The theorems for E8 and rows of digits: every q, every number m of layers.
use Rattle.std.specs.Prelude.{◌≡◌, refl, ◌↔◌, List, ℕ, zero, suc, ◌*◌, ◌%◌, ◌^◌, ◌<◌, ◌≤◌, ℤ, pos, nat_abs, ◌*ℤ◌, length}
use Rattle.std.proofs.Common.{sym, ◌∙◌, ap, subst, arith, length-append}
use Rattle.integers.specs.Vectors.{«at», zeros, add_v, scale_v, dot, Bounded}
use Rattle.lattice.specs.Computed.{nearest_point}
use Rattle.lattice.specs.Doubled.{E8}
use Rattle.refusals.specs.Limits.{power_most, step_most}
use Rattle.layers.specs.Digits.{IsLayers, joined, IsCode, cut}
use Rattle.layers.specs.E8.{e8, nearest, digits8, leftover8, decode8}
use Rattle.layers.specs.Laws.Inner.{dot-four}
use Rattle.layers.specs.Laws.Rows.{cut-joined, joined-cut, joined-code, cut-layers}
use Rattle.layers.proofs.Laws.Theorems.{digits_are, decode-digits, decode-in, digits-decode, leftover-decode, fits_iff, digits-equal-iff}
use Rattle.layers.proofs.Laws.Widths.{decode-small, decode-under, decode-times}
use Rattle.layers.specs.Layers.{layer_digits, digits, decode, Apart}
use Rattle.layers.specs.Sizes.{width}

-- digits are as many as the layers ask for, whatever the vector
pub layer_digits8-long : (q : ℕ) (e : List ℤ) → length (layer_digits e8 q e) ≡ 8
unfolding layer_digits
layer_digits8-long q e = refl

pub digits8-long : (q m : ℕ) (e : List ℤ) → length (digits8 q m e) ≡ 8 * m
digits8-long q zero e = refl
digits8-long q (suc m) e = simp length-append (omega (arith, layer_digits8-long q e, digits8-long q m (nearest_point (pos q) e)))

module _ (q m : ℕ) (q> : 0 < q) where
  layers : (f : List ℕ) → IsCode 8 q m f → IsLayers 8 q m (cut 8 m f)
  layers f h = cut-layers 8 q m f h

  module _ (e : List ℤ) (h : E8 e) where
    again : cut 8 m (digits8 q m e) ≡ digits e8 nearest q m e
    again = cut-joined 8 q m (digits e8 nearest q m e) (digits_are e8 nearest q q> m e h)

    pub digits8-are : IsCode 8 q m (digits8 q m e)
    digits8-are = joined-code 8 q m (digits e8 nearest q m e) (digits_are e8 nearest q q> m e h)

    -- 1.
    pub decode-digits8 : e ≡ add_v (decode8 q m (digits8 q m e)) (scale_v (pos (q ^ m)) (leftover8 q m e))
    decode-digits8 = decode-digits e8 nearest q q> m e h ∙ ap (λ (l : List (List ℕ)). add_v (decode e8 nearest q l) (scale_v (pos (q ^ m)) (leftover8 q m e))) (sym again)

    pub fits-iff8 : (leftover8 q m e ≡ zeros 8) ↔ (decode8 q m (digits8 q m e) ≡ e)
    fits-iff8 = subst (λ (l : List (List ℕ)). (leftover8 q m e ≡ zeros 8) ↔ (decode e8 nearest q l ≡ e)) (sym again) (fits_iff e8 nearest q q> m e h)

  -- 2.
  pub digits-equal-iff8 : (e e' : List ℤ) → E8 e → E8 e' → (digits8 q m e ≡ digits8 q m e') ↔ Apart E8 (q ^ m) e e'
  digits-equal-iff8 e e' h h' = let k = digits-equal-iff e8 nearest q q> m e e' h h' in (
    λ p. k.0 (sym (again e h) ∙ ap (cut 8 m) p ∙ again e' h'),
    λ a. ap joined (k.1 a),
  )

  -- 3.
  module _ (f : List ℕ) (h : IsCode 8 q m f) where
    pub decode-in8 : E8 (decode8 q m f)
    decode-in8 = decode-in e8 nearest q q> m (cut 8 m f) (layers f h)

    pub digits-decode8 : digits8 q m (decode8 q m f) ≡ f
    digits-decode8 = ap joined (digits-decode e8 nearest q q> m (cut 8 m f) (layers f h)) ∙ joined-cut 8 q m f h.long

    pub leftover-decode8 : leftover8 q m (decode8 q m f) ≡ zeros 8
    leftover-decode8 = leftover-decode e8 nearest q q> m (cut 8 m f) (layers f h)

    -- 4.
    pub decode-small8 : Bounded (2 * width q m) (decode8 q m f)
    decode-small8 = decode-small e8 nearest q q> m (cut 8 m f) (layers f h)

    -- 01's ranges: a coordinate is below 16384, and times a step at most 2^24, so that a decoded reading is exact
    module _ (two : 2 ≤ q) (most : q ^ m ≤ power_most) where
      pub decode-under8 : (i : ℕ) → nat_abs («at» (decode8 q m f) i) < 16384
      decode-under8 = decode-under e8 nearest q q> two power_most m most (cut 8 m f) (layers f h)

      pub decode-times8 : (s : ℤ) → nat_abs s ≤ step_most → (i : ℕ) → nat_abs (s *ℤ «at» (decode8 q m f) i) ≤ 2 ^ 24
      decode-times8 = decode-times e8 nearest q q> two power_most step_most m most (cut 8 m f) (layers f h)

  -- 5.
  pub dot-four8 : (f g : List ℕ) → IsCode 8 q m f → IsCode 8 q m g → nat_abs (dot (decode8 q m f) (decode8 q m g)) % 4 ≡ 0
  dot-four8 f g h k = dot-four 8 refl (decode8 q m f) (decode8 q m g) (decode-in8 f h) (decode-in8 g k)
