-- Layers in one row: cut apart and joined, they are the same; and digits below q stay so.
use Rattle.std.specs.Prelude.{◌≡◌, refl, List, [], ◌∷◌, ◌++◌, ℕ, zero, suc, ◌*◌, ◌<◌, ◌≤◌, length, get_or, take, drop}
use Rattle.std.proofs.Common.{◌∙◌, ap, ap₂, arith, length-append, length-take, length-drop, take-append-drop, take_at, drop_at}
use Rattle.layers.specs.Digits.{Below, IsLayers, joined, IsCode, cut}

module _ (q : ℕ) where
  pub below-append : (a b : List ℕ) → Below q a → Below q b → Below q (a ++ b)
  below-append [] b h k = k
  below-append (d ∷ a) b h k = (h.0, below-append a b h.1 k)

  pub below-take : (i : ℕ) (a : List ℕ) → Below q a → Below q (take i a)
  below-take zero a h = tt
  below-take (suc i) [] h = tt
  below-take (suc i) (d ∷ a) h = (h.0, below-take i a h.1)

  pub below-drop : (i : ℕ) (a : List ℕ) → Below q a → Below q (drop i a)
  below-drop zero a h = h
  below-drop (suc i) [] h = tt
  below-drop (suc i) (d ∷ a) h = below-drop i a h.1

  pub below_at : (a : List ℕ) → Below q a → (i : ℕ) → i < length a → get_or a i 0 < q
  below_at [] h i l = absurd (omega arith)
  below_at (d ∷ a) h zero l = h.0
  below_at (d ∷ a) h (suc i) l = below_at a h.1 i (omega arith)

  pub below_all : (a : List ℕ) → ((i : ℕ) → i < length a → get_or a i 0 < q) → Below q a
  below_all [] h = tt
  below_all (d ∷ a) h = (h 0 (omega arith), below_all a (λ i l. h (suc i) (omega arith)))

pub below_more : (q p : ℕ) → q ≤ p → (a : List ℕ) → Below q a → Below p a
below_more q p h [] k = tt
below_more q p h (d ∷ a) k = (omega (arith, k.0), below_more q p h a k.1)

module _ (n q : ℕ) where
  pub cut-joined : (m : ℕ) (l : List (List ℕ)) → IsLayers n q m l → cut n m (joined l) ≡ l
  cut-joined zero [] h = refl
  cut-joined zero (ds ∷ l) h = absurd h
  cut-joined (suc m) [] h = absurd h
  cut-joined (suc m) (ds ∷ l) h = ap₂ ◌∷◌ (take_at ds (joined l) n h.0.long) (ap (cut n m) (drop_at ds (joined l) n h.0.long) ∙ cut-joined m l h.1)

  pub joined-cut : (m : ℕ) (f : List ℕ) → length f ≡ n * m → joined (cut n m f) ≡ f
  joined-cut zero [] h = refl
  joined-cut zero (d ∷ f) h = absurd (omega arith)
  joined-cut (suc m) f h = ap (λ (t : List ℕ). take n f ++ t) (joined-cut m (drop n f) (simp length-drop (omega arith))) ∙ take-append-drop n f

  pub joined-code : (m : ℕ) (l : List (List ℕ)) → IsLayers n q m l → IsCode n q m (joined l)
  joined-code zero [] h = record { long = omega arith; below = tt }
  joined-code zero (ds ∷ l) h = absurd h
  joined-code (suc m) [] h = absurd h
  joined-code (suc m) (ds ∷ l) h = let k = joined-code m l h.1 in
      record { long = simp length-append (omega (arith, h.0.long, k.long)); below = below-append q ds (joined l) h.0.below k.below }

  -- every row of n m digits below q is m layers
  pub cut-layers : (m : ℕ) (f : List ℕ) → IsCode n q m f → IsLayers n q m (cut n m f)
  cut-layers zero f h = tt
  cut-layers (suc m) f h = (
    record { long = simp length-take (omega (arith, h.long)); below = below-take q n f h.below },
    cut-layers m (drop n f) (record { long = simp length-drop (omega (arith, h.long)); below = below-drop q n f h.below }),
  )
