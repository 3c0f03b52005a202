-- Digits are remainders: the remainders of a list are a layer, and q times a list, added, does not change them.
use Rattle.std.specs.Prelude.{◌≡◌, refl, List, [], ◌∷◌, map, ℕ, ◌<◌, ℤ, pos, ◌*ℤ◌, length}
use Rattle.std.proofs.Common.{◌∙◌, ap₂, mod-eq_of_lt, arith}
use Rattle.std.proofs.Math.Nat.{suc_inj}
use Rattle.std.proofs.Math.IntN.{+ℤ_comm}
use Rattle.std.proofs.lemmas.List.{length-map}
use Rattle.integers.specs.Floor.{floor_div, floor_mod}
use Rattle.integers.specs.Laws.Floors.{floor_mod-lt, floor-split, floor-add}
use Rattle.integers.specs.Vectors.{add_v, scale_v}
use Rattle.lattice.specs.Basis.{floors}
use Rattle.layers.specs.Digits.{Below, IsLayer}
use Rattle.layers.specs.Layers.{remainders}

module _ (q : ℕ) (q> : 0 < q) where
  -- a list of integers is its digits and q times the rest
  pub remainders-floors : (c : List ℤ) → c ≡ add_v (map pos (remainders q c)) (scale_v (pos q) (floors q c))
  remainders-floors [] = refl
  remainders-floors (x ∷ c) = ap₂ ◌∷◌ (floor-split x q q> ∙ +ℤ_comm (pos q *ℤ floor_div x q) (pos (floor_mod x q))) (remainders-floors c)

  pub remainders-layer : (c : List ℤ) → IsLayer (length c) q (remainders q c)
  remainders-layer c = record { long = length-map c _; below = go c }
    where
      go : (c : List ℤ) → Below q (remainders q c)
      go [] = tt
      go (x ∷ c) = (floor_mod-lt x q q>, go c)

  pub remainders-move : (c k : List ℤ) → length c ≡ length k → remainders q (add_v c (scale_v (pos q) k)) ≡ remainders q c
  remainders-move [] [] h = refl
  remainders-move [] (y ∷ k) h = absurd (omega arith)
  remainders-move (x ∷ c) [] h = refl
  remainders-move (x ∷ c) (y ∷ k) h = ap₂ ◌∷◌ (floor-add x y q q>).1 (remainders-move c k (suc_inj h))

  pub remainders-digits : (ds : List ℕ) → Below q ds → remainders q (map pos ds) ≡ ds
  remainders-digits [] h = refl
  remainders-digits (d ∷ ds) h = ap₂ ◌∷◌ (mod-eq_of_lt h.0) (remainders-digits ds h.1)
