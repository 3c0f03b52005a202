-- What loops have done after i turns: those that write b over lent bytes o, those over layers.
use Rattle.std.specs.Prelude.{◌≡◌, refl, List, [], ◌++◌, ℕ, zero, suc, ◌+◌, ◌*◌, ◌-◌, ◌<◌, ◌≤◌, ℤ, pos, length, get_or, take, drop, set}
use Rattle.std.proofs.Common.{sym, ◌∙◌, ap, ap₂, subst, append-nil, append_assoc, add-one, arith, length-take, length-drop, drop_of_length-le, take_at, drop_at, drop-cons, drop-drop, take-suc, length-take-le}
use Rattle.std.proofs.lemmas.List.{set_at}
use Rattle.std.proofs.Math.Seq.{append_snoc}
use Rattle.integers.specs.Vectors.{add_v, scale_v}
use Rattle.layers.specs.Digits.{IsLayer, joined, IsCode, cut}
use Rattle.layers.specs.Laws.Rows.{below-drop, cut-layers}
use Rattle.layers.specs.Laws.Weights.{decode-next}
use Rattle.layers.specs.Layers.{layer_digits, digits, leftover, layer_point, decode}
use Rattle.layers.specs.Rule.{Lattice, Rule}

module _ {A : Type 0} where
  -- it writes over the front of o: the first i entries are those of b, the rest those of o
  pub write-next : (b o : List A) (i : ℕ) (d : A) → i < length b → length b ≤ length o → set (take i b ++ drop i o) i (get_or b i d) ≡ take (i + 1) b ++ drop (i + 1) o
  write-next b o i d h k =
      ap (λ (l : List A). set (take i b ++ l) i (get_or b i d)) (drop-cons o i d (omega arith))
      ∙ set_at (take i b) (get_or o i d) (drop (suc i) o) (get_or b i d) i (length-take-le i b (omega arith))
      ∙ sym (append_snoc (take i b) (get_or b i d) (drop (suc i) o))
      ∙ rw (add-one i) (ap (λ (l : List A). l ++ drop (suc i) o) (sym (take-suc b i d h)))

  -- it writes b after what it has written, w, before the rest of o: the part from a to a + k is lent for it, and comes back as b
  pub write-in : (w b o : List A) (a k : ℕ) → length w ≡ a → let x = w ++ drop a o in take a x ++ (b ++ drop k (drop a x)) ≡ (w ++ b) ++ drop (a + k) o
  write-in w b o a k h =
      ap₂ (λ (f g : List A). f ++ (b ++ drop k g)) (take_at w (drop a o) a h) (drop_at w (drop a o) a h)
      ∙ ap (λ (f : List A). w ++ (b ++ f)) (drop-drop k a o)
      ∙ sym (append_assoc w b (drop (a + k) o))

  -- or with b at its front
  pub write-part : (w b o : List A) (a k : ℕ) → length w ≡ a → let x = w ++ drop a o in
      take a x ++ ((b ++ drop k (take k (drop a x))) ++ drop k (drop a x)) ≡ (w ++ b) ++ drop (a + k) o
  write-part w b o a k h =
      let x : List A = w ++ drop a o in
      let none : drop k (take k (drop a x)) ≡ [] = drop_of_length-le (take k (drop a x)) {i = k} (simp length-take (omega arith)) in
      ap (λ (f : List A). take a x ++ (f ++ drop k (drop a x))) (ap (λ (g : List A). b ++ g) none ∙ append-nil b) ∙ write-in w b o a k h

-- a coder goes up: after k layers it holds what they leave over, and has written their digits
module _ (L : Lattice) (R : Rule L) (q : ℕ) where
  pub leftover-next : (k : ℕ) (g : List ℤ) → leftover L R q (suc k) g ≡ R.round (pos q) (leftover L R q k g)
  leftover-next zero g = refl
  leftover-next (suc k) g = leftover-next k (R.round (pos q) g)

  pub digits-next : (k : ℕ) (g : List ℤ) → joined (digits L R q (suc k) g) ≡ joined (digits L R q k g) ++ layer_digits L q (leftover L R q k g)
  digits-next zero g = append-nil (layer_digits L q g)
  digits-next (suc k) g = let g' : List ℤ = R.round (pos q) g in
      ap (λ (f : List ℕ). layer_digits L q g ++ f) (digits-next k g') ∙ sym (append_assoc (layer_digits L q g) (joined (digits L R q k g')) (layer_digits L q (leftover L R q k g')))

-- a decoder goes down: layer i of a row of m, and the m - i layers from it on
module _ (n q m : ℕ) (f : List ℕ) (h : IsCode n q m f) where
  pub code-drop : (i : ℕ) → i ≤ m → IsCode n q (m - i) (drop (n * i) f)
  code-drop i l = let e : i + (m - i) ≡ m = omega arith in record { long = simp length-drop (omega (arith, h.long, ap (λ (t : ℕ). n * t) e)); below = below-drop q (n * i) f h.below }

  pub code-layer : (i : ℕ) → i < m → IsLayer n q (take n (drop (n * i) f))
  code-layer i l =
      let g : List ℕ = drop (n * i) f in
      let k : IsCode n q (suc (m - suc i)) g = subst (λ (j : ℕ). IsCode n q j g) (omega arith) (code-drop i (omega arith)) in
      (cut-layers n q (suc (m - suc i)) g k).0

module _ (L : Lattice) (R : Rule L) (q m : ℕ) (f : List ℕ) where
  abbrev n : ℕ
  n = L.size

  pub decode-down : (i : ℕ) → i < m → decode L R q (cut n (m - i) (drop (n * i) f))
      ≡ add_v (layer_point L R q (take n (drop (n * i) f))) (scale_v (pos q) (decode L R q (cut n (m - suc i) (drop (n * suc i) f))))
  decode-down i l =
      let g : List ℕ = drop (n * i) f in let k : ℕ = m - suc i in let e : m - i ≡ suc k = omega arith in let s : n * i + n ≡ n * suc i = omega arith in
      ap (λ (j : ℕ). decode L R q (cut n j g)) e ∙ decode-next L R q (take n g) (cut n k (drop n g))
      ∙ ap (λ (r : List ℕ). add_v (layer_point L R q (take n g)) (scale_v (pos q) (decode L R q (cut n k r)))) (drop-drop n (n * i) f ∙ ap (λ (j : ℕ). drop j f) s)
