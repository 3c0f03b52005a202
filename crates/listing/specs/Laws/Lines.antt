-- Lines as they are put: numbers by their sign, fields and layers one after the other, and how long all of it is at most.
use Rattle.std.specs.Prelude.{◌≡◌, refl, List, ◌∷◌, ◌++◌, map, ℕ, zero, suc, ◌+◌, ◌*◌, ◌-◌, ◌^◌, ◌<◌, ◌≤◌, T, ℤ, pos, negsuc, nat_abs, ◌-ℤ◌, length, get_or, take, drop, ◌≤ℤ◌, ◌<ℤ◌}
use Rattle.std.proofs.Common.{sym, ◌∙◌, ap, add-one, arith, length-append, drop-cons}
use Rattle.std.proofs.Math.ListN.{get_or-map}
use Rattle.std.proofs.lemmas.List.Edits.{sets}
use Rattle.std.specs.Int.Signed.{non_neg}
use Rattle.integers.specs.Laws.Linear.{Z}
use Rattle.integers.specs.Vectors.{«at», Bounded}
use Rattle.layers.specs.Digits.{cut}
use Rattle.records.specs.Laws.Parts.{cut-next}
use Rattle.texts.specs.Laws.Rooms.{put_next}
use Rattle.listing.specs.Listing.{decimal, written, fields, layer_line, layer_lines}
use Rattle.texts.specs.Text.{space, minus}

-- ---- a number by its sign

pub record Minus (z : ℤ) : Type 0 where
  pub size : pos 0 -ℤ z ≡ pos (nat_abs z)
  pub is : written z ≡ minus ∷ decimal (nat_abs z)

pub record Plain (z : ℤ) : Type 0 where
  pub sign : T (non_neg z)
  pub is : written z ≡ decimal (nat_abs z)

pub below-zero : (z : ℤ) → z <ℤ pos 0 → Minus z
below-zero (pos n) h = absurd (omega (arith, Z, h))
below-zero (negsuc n) h = let e : 0 + suc n ≡ suc n = omega arith in record { size = ap pos e; is = refl }

pub from_zero : (z : ℤ) → pos 0 ≤ℤ z → Plain z
from_zero (pos n) h = record { sign = tt; is = refl }
from_zero (negsuc n) h = absurd (omega (arith, Z, h))

-- ---- one field after the other

module _ (l : List ℤ) (i : ℕ) (within : i < length l) where
  abbrev z : ℤ
  z = «at» l i

  next_field : fields (drop i l) ≡ space ∷ (written z ++ fields (drop (i + 1) l))
  next_field = let e : suc i ≡ i + 1 = omega arith in ap fields (drop-cons l i (pos 0) within) ∙ ap (λ (j : ℕ). space ∷ (written z ++ fields (drop j l))) e

  -- the length of the fields from i on
  pub fields-long : length (fields (drop i l)) ≡ 1 + length (written z) + length (fields (drop (i + 1) l))
  fields-long = (simp length-append at (ap length next_field)) ∙ omega arith

  -- a space and the number are put, up to the place k
  pub fields-next : (o : List ℕ) (j : ℕ) (x : List ℕ) (k : ℕ) → x ≡ sets o j (space ∷ written z) → k ≡ j + (1 + length (written z)) → sets o j (fields (drop i l)) ≡ sets x k (fields (drop (i + 1) l))
  fields-next o j x k e h = ap (sets o j) next_field ∙ put_next o j (space ∷ written z) (fields (drop (i + 1) l)) x k e (omega arith)

-- ---- one layer after the other

-- the lines of the layers from k on, of m in all
abbrev pub layers_from : List ℕ → ℕ → ℕ → List ℕ
layers_from ds m k = layer_lines k (cut 8 (m - k) (drop (8 * k) ds))

module _ (ds : List ℕ) (m k : ℕ) (within : k < m) where
  abbrev layer : List ℕ
  layer = layer_line k (take 8 (drop (8 * k) ds))

  next-layer : layers_from ds m k ≡ layer ++ layers_from ds m (k + 1)
  next-layer = ap (layer_lines k) (cut-next 8 ds m k within) ∙ ap (λ (j : ℕ). layer ++ layer_lines j (cut 8 (m - (k + 1)) (drop (8 * (k + 1)) ds))) (sym (add-one k))

  pub layers-long : length (layers_from ds m k) ≡ length layer + length (layers_from ds m (k + 1))
  layers-long = ap length next-layer ∙ length-append layer (layers_from ds m (k + 1))

  -- its line is put, up to the place h
  pub layers-next : (o : List ℕ) (j : ℕ) (x : List ℕ) (h : ℕ) → x ≡ sets o j layer → h ≡ j + length layer → sets o j (layers_from ds m k) ≡ sets x h (layers_from ds m (k + 1))
  layers-next o j x h e p = ap (sets o j) next-layer ∙ put_next o j layer (layers_from ds m (k + 1)) x h e p

-- ---- numbers that are small

-- the numbers of a layer's line, whose digits are bytes
pub layer-bounded : (k : ℕ) (ds : List ℕ) → k ≤ 256 → ((i : ℕ) → get_or ds i 0 < 256) → Bounded (2 ^ 32) (pos k ∷ map pos ds)
layer-bounded k ds h b zero = omega arith
layer-bounded k ds h b (suc i) = rw (get_or-map pos ds i 0) (omega (arith, b i))
