-- Laws of vectors: entries, lengths, sums, inner products and their sizes.
use Rattle.std.specs.Prelude.{◌≡◌, refl, List, [], ◌∷◌, map, ℕ, zero, suc, ◌+◌, ◌*◌, ◌<◌, ◌≤◌, max, ℤ, pos, neg_ℤ, nat_abs, ◌+ℤ◌, ◌*ℤ◌, length, get_or, take, drop, set}
use Rattle.std.proofs.Common.{sym, ◌∙◌, ap, ap₂, mul-le-mul, le_refl, arith, length-set, length-take, length-drop, ext_get_or}
use Rattle.std.proofs.Math.IntN.{+ℤ_idl, +ℤ_idr, +ℤ_comm, *ℤ_comm, *ℤ-zero}
use Rattle.std.proofs.lemmas.List.{length-map, length-replicate}
use Rattle.integers.specs.Laws.Difference.{by_d, ints, by_d₂, by_d₃, by_d₄}
use Rattle.integers.specs.Laws.Loops.{map_at}
use Rattle.integers.specs.Laws.Sizes.{abs-add, abs-mul}
use Rattle.integers.specs.Vectors.{«at», zeros, add_v, neg_v, scale_v, sum_v, dot, Bounded, Sized}

-- ---- entries and lengths: an equation of vectors is one of entries and one of lengths

pub at-add : (a b : List ℤ) (i : ℕ) → «at» (add_v a b) i ≡ «at» a i +ℤ «at» b i
at-add [] b i = sym (+ℤ_idl (get_or b i (pos 0)))
at-add (x ∷ a) [] i = sym (+ℤ_idr (get_or (x ∷ a) i (pos 0)))
at-add (x ∷ a) (y ∷ b) zero = refl
at-add (x ∷ a) (y ∷ b) (suc i) = at-add a b i

pub at-scale : (k : ℤ) (a : List ℤ) (i : ℕ) → «at» (scale_v k a) i ≡ k *ℤ «at» a i
at-scale k [] i = sym (*ℤ-zero k)
at-scale k (x ∷ a) zero = refl
at-scale k (x ∷ a) (suc i) = at-scale k a i

pub at-neg : (a : List ℤ) (i : ℕ) → «at» (neg_v a) i ≡ neg_ℤ («at» a i)
at-neg [] i = refl
at-neg (x ∷ a) zero = refl
at-neg (x ∷ a) (suc i) = at-neg a i

pub at-zeros : (n i : ℕ) → «at» (zeros n) i ≡ pos 0
at-zeros zero i = refl
at-zeros (suc n) zero = refl
at-zeros (suc n) (suc i) = at-zeros n i

pub ruleset entries = (at-add, at-scale, at-neg, at-zeros)

pub at_map : (f : ℤ → ℤ) (a : List ℤ) (i : ℕ) → i < length a → «at» (map f a) i ≡ f («at» a i)
at_map f a i h = map_at f a i (pos 0) (pos 0) h

pub length-add_v : (a b : List ℤ) → length (add_v a b) ≡ max (length a) (length b)
length-add_v [] b = omega arith
length-add_v (x ∷ a) [] = omega arith
length-add_v (x ∷ a) (y ∷ b) = omega (arith, length-add_v a b)

pub length-scale_v : (k : ℤ) (a : List ℤ) → length (scale_v k a) ≡ length a
length-scale_v k a = length-map a _

pub length-neg_v : (a : List ℤ) → length (neg_v a) ≡ length a
length-neg_v a = length-map a neg_ℤ

pub length-zeros : (n : ℕ) → length (zeros n) ≡ n
length-zeros n = length-replicate n (pos 0)

pub ruleset lengths = (length-add_v, length-scale_v, length-neg_v, length-zeros)

-- vectors of one length with the same entries are one
pub ext : {a b : List ℤ} → length a ≡ length b → ((i : ℕ) → «at» a i ≡ «at» b i) → a ≡ b
ext {a} {b} h f = ext_get_or (pos 0) a b h (λ i l. f i)

-- ---- sums of entries

zero-l : (x : ℤ) → x ≡ pos 0 +ℤ x
zero-l = by_d _ λ _ _. simp ints (omega arith)

zero-r : (x : ℤ) → x ≡ x +ℤ pos 0
zero-r = by_d _ λ _ _. simp ints (omega arith)

sum_step : (x y a b : ℤ) → x +ℤ y +ℤ (a +ℤ b) ≡ x +ℤ a +ℤ (y +ℤ b)
sum_step = by_d₄ _ λ _ _ _ _ _ _ _ _. simp ints (omega arith)

pub sum-add : (a b : List ℤ) → sum_v (add_v a b) ≡ sum_v a +ℤ sum_v b
sum-add [] b = zero-l (sum_v b)
sum-add (x ∷ a) [] = zero-r (x +ℤ sum_v a)
sum-add (x ∷ a) (y ∷ b) = ap (λ (t : ℤ). x +ℤ y +ℤ t) (sum-add a b) ∙ sum_step x y (sum_v a) (sum_v b)

neg-step : (x a : ℤ) → neg_ℤ x +ℤ neg_ℤ a ≡ neg_ℤ (x +ℤ a)
neg-step = by_d₂ _ λ _ _ _ _. simp ints (omega arith)

pub sum-neg : (a : List ℤ) → sum_v (neg_v a) ≡ neg_ℤ (sum_v a)
sum-neg [] = refl
sum-neg (x ∷ a) = ap (λ (t : ℤ). neg_ℤ x +ℤ t) (sum-neg a) ∙ neg-step x (sum_v a)

-- ---- inner products

pub dot-comm : (a b : List ℤ) → dot a b ≡ dot b a
dot-comm [] [] = refl
dot-comm [] (y ∷ b) = refl
dot-comm (x ∷ a) [] = refl
dot-comm (x ∷ a) (y ∷ b) = ap₂ ◌+ℤ◌ (*ℤ_comm x y) (dot-comm a b)

add_step : (x y z p q : ℤ) → (x +ℤ y) *ℤ z +ℤ (p +ℤ q) ≡ x *ℤ z +ℤ p +ℤ (y *ℤ z +ℤ q)
add_step = by_d₃ _ λ _ _ _ _ _ _. by_d₂ _ λ _ _ _ _. simp ints (omega arith)

pub dot-add : (a b c : List ℤ) → dot (add_v a b) c ≡ dot a c +ℤ dot b c
dot-add [] b c = sym (+ℤ_idl (dot b c))
dot-add (x ∷ a) [] c = sym (+ℤ_idr (dot (x ∷ a) c))
dot-add (x ∷ a) (y ∷ b) [] = refl
dot-add (x ∷ a) (y ∷ b) (z ∷ c) = ap (λ (t : ℤ). (x +ℤ y) *ℤ z +ℤ t) (dot-add a b c) ∙ add_step x y z (dot a c) (dot b c)

scale-step : (k x y p : ℤ) → k *ℤ x *ℤ y +ℤ k *ℤ p ≡ k *ℤ (x *ℤ y +ℤ p)
scale-step = by_d₄ _ λ _ _ _ _ _ _ _ _. simp ints (omega arith)

pub dot-scale : (k : ℤ) (a b : List ℤ) → dot (scale_v k a) b ≡ k *ℤ dot a b
dot-scale k [] b = sym (*ℤ-zero k)
dot-scale k (x ∷ a) [] = sym (*ℤ-zero k)
dot-scale k (x ∷ a) (y ∷ b) = ap (λ (t : ℤ). k *ℤ x *ℤ y +ℤ t) (dot-scale k a b) ∙ scale-step k x y (dot a b)

pub dot-add-r : (a b c : List ℤ) → dot c (add_v a b) ≡ dot c a +ℤ dot c b
dot-add-r a b c = dot-comm c (add_v a b) ∙ dot-add a b c ∙ ap₂ ◌+ℤ◌ (dot-comm a c) (dot-comm b c)

pub dot-scale-r : (k : ℤ) (a b : List ℤ) → dot a (scale_v k b) ≡ k *ℤ dot a b
dot-scale-r k a b = dot-comm a (scale_v k b) ∙ dot-scale k b a ∙ ap (λ (t : ℤ). k *ℤ t) (dot-comm b a)

zero-step : (y d : ℤ) → d ≡ pos 0 → y *ℤ pos 0 +ℤ d ≡ pos 0
zero-step = by_d₂ _ λ _ _ _ _. simp ints (omega arith)

pub dot-zeros : (x : List ℤ) (n : ℕ) → dot x (zeros n) ≡ pos 0
dot-zeros [] n = refl
dot-zeros (y ∷ x) zero = refl
dot-zeros (y ∷ x) (suc n) = zero-step y (dot x (zeros n)) (dot-zeros x n)

-- ---- one entry more, as a loop that goes up adds it; past the end it adds 0

snoc-step : (p d q : ℤ) → p +ℤ (d +ℤ q) ≡ p +ℤ d +ℤ q
snoc-step = by_d₃ _ λ _ _ _ _ _ _. simp ints (omega arith)

pub sum-take-suc : (a : List ℤ) (i : ℕ) → sum_v (take (suc i) a) ≡ sum_v (take i a) +ℤ «at» a i
sum-take-suc [] zero = refl
sum-take-suc [] (suc i) = refl
sum-take-suc (x ∷ a) zero = +ℤ_idr x ∙ sym (+ℤ_idl x)
sum-take-suc (x ∷ a) (suc i) = ap (λ (t : ℤ). x +ℤ t) (sum-take-suc a i) ∙ snoc-step x (sum_v (take i a)) («at» a i)

none-l : (y : ℤ) → pos 0 ≡ pos 0 +ℤ pos 0 *ℤ y
none-l = by_d _ λ _ _. simp ints (omega arith)

none-r : (x : ℤ) → pos 0 ≡ pos 0 +ℤ x *ℤ pos 0
none-r = by_d _ λ _ _. simp ints (omega arith)

pub dot-take-suc : (a b : List ℤ) (i : ℕ) → dot (take (suc i) a) (take (suc i) b) ≡ dot (take i a) (take i b) +ℤ «at» a i *ℤ «at» b i
dot-take-suc [] b zero = none-l («at» b 0)
dot-take-suc [] b (suc i) = none-l («at» b (suc i))
dot-take-suc (x ∷ a) [] zero = none-r x
dot-take-suc (x ∷ a) [] (suc i) = none-r («at» a i)
dot-take-suc (x ∷ a) (y ∷ b) zero = +ℤ_comm (x *ℤ y) (pos 0)
dot-take-suc (x ∷ a) (y ∷ b) (suc i) = ap (λ (t : ℤ). x *ℤ y +ℤ t) (dot-take-suc a b i) ∙ snoc-step (x *ℤ y) (dot (take i a) (take i b)) («at» a i *ℤ «at» b i)

-- ---- sizes

pub sum_bound : (A : ℕ) (a : List ℤ) → Bounded A a → (i : ℕ) → nat_abs (sum_v (take i a)) ≤ i * A
sum_bound A a h zero = omega arith
sum_bound A a h (suc i) = rw (sum-take-suc a i) (omega (arith, sum_bound A a h i, abs-add (sum_v (take i a)) («at» a i), h i))

pub dot-bound : (A B : ℕ) (a b : List ℤ) → Bounded A a → Bounded B b → (i : ℕ) → nat_abs (dot (take i a) (take i b)) ≤ i * (A * B)
dot-bound A B a b h k zero = omega arith
dot-bound A B a b h k (suc i) =
    let x : ℤ = «at» a i in let y : ℤ = «at» b i in
    rw (dot-take-suc a b i) (omega (arith, dot-bound A B a b h k i, abs-add (dot (take i a) (take i b)) (x *ℤ y), abs-mul x y, mul-le-mul (h i) (k i)))

module _ (n A : ℕ) (a : List ℤ) (h : Sized n A a) where
  pub sized-more : (B : ℕ) → A ≤ B → Sized n B a
  sized-more B l = record { long = h.long; small = λ i. omega (arith, h.small i) }

  -- what holds of every entry holds of the vector
  pub sized-map : (f : ℤ → ℤ) (B : ℕ) → ((x : ℤ) → nat_abs x ≤ A → nat_abs (f x) ≤ B) → Sized n B (map f a)
  sized-map f B g = record { long = length-map a f ∙ h.long; small = λ i. go a i (h.small i) }
    where
      go : (a : List ℤ) (i : ℕ) → nat_abs («at» a i) ≤ A → nat_abs («at» (map f a) i) ≤ B
      go [] i p = omega arith
      go (x ∷ a) zero p = g x p
      go (x ∷ a) (suc i) p = go a i p

  pub sized_set : (B : ℕ) → A ≤ B → (j : ℕ) (z : ℤ) → nat_abs z ≤ B → Sized n B (set a j z)
  sized_set B l j z k = record { long = length-set a j z ∙ h.long; small = λ i. go a j i (h.small i) }
    where
      go : (a : List ℤ) (j i : ℕ) → nat_abs («at» a i) ≤ A → nat_abs («at» (set a j z) i) ≤ B
      go [] j i p = omega arith
      go (x ∷ a) zero zero p = k
      go (x ∷ a) zero (suc i) p = omega arith
      go (x ∷ a) (suc j) zero p = omega arith
      go (x ∷ a) (suc j) (suc i) p = go a j i p

-- ---- parts

pub bounded-take : (B n : ℕ) (a : List ℤ) → Bounded B a → Bounded B (take n a)
bounded-take B zero a h i = omega arith
bounded-take B (suc n) [] h i = h i
bounded-take B (suc n) (x ∷ a) h zero = h 0
bounded-take B (suc n) (x ∷ a) h (suc i) = bounded-take B n a (λ j. h (suc j)) i

pub bounded-drop : (B n : ℕ) (a : List ℤ) → Bounded B a → Bounded B (drop n a)
bounded-drop B zero a h = h
bounded-drop B (suc n) [] h = h
bounded-drop B (suc n) (x ∷ a) h = bounded-drop B n a (λ j. h (suc j))

-- the part i of k parts of n
pub sized-part : (n k B : ℕ) (a : List ℤ) → Sized (n * k) B a → (i : ℕ) → i < k → Sized n B (take n (drop (n * i) a))
sized-part n k B a h i l =
    let room : n * suc i ≤ n * k = mul-le-mul (le_refl n) l in let step : n * suc i ≡ n * i + n = omega arith in
    record { long = simp (length-take, length-drop) (omega (arith, h.long)); small = bounded-take B n (drop (n * i) a) (bounded-drop B (n * i) a h.small) }
