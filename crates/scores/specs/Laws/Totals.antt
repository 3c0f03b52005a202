-- Laws of totals: one pair more, equal terms, a factor, how large they are.
use Rattle.std.specs.Prelude.{◌≡◌, refl, List, [], ◌∷◌, ◌++◌, map, ℕ, zero, suc, ◌+◌, ◌*◌, ◌<◌, ◌≤◌, ℤ, pos, nat_abs, ◌+ℤ◌, ◌*ℤ◌, length, get_or, take, drop}
use Rattle.std.proofs.Common.{sym, ◌∙◌, ap, ap₂, arith, length-drop, take-append-drop}
use Rattle.std.proofs.Math.Nat.{suc_inj}
use Rattle.std.proofs.Math.IntN.{+ℤ_idl, +ℤ_assoc, +ℤ_comm, *ℤ-zero}
use Rattle.integers.specs.Laws.Signed.{*ℤ-+ℤ}
use Rattle.integers.specs.Laws.Sizes.{abs-add}
use Rattle.integers.specs.Vectors.{dot}
use Rattle.layers.specs.Digits.{joined, cut}
use Rattle.records.specs.Laws.Parts.{cut-long, cut-more, cut_at}
use Rattle.scores.specs.Scores.{total}

module _ {A B : Type 0} (f : A → B → ℤ) where
  -- one pair more
  pub total-more : (k : List A) (l : List B) (a : A) (b : B) → length k ≡ length l → total f (k ++ (a ∷ [])) (l ++ (b ∷ [])) ≡ total f k l +ℤ f a b
  total-more [] [] a b h = +ℤ_comm (f a b) (pos 0)
  total-more [] (y ∷ l) a b h = absurd (omega arith)
  total-more (x ∷ k) [] a b h = absurd (omega arith)
  total-more (x ∷ k) (y ∷ l) a b h = ap (λ (t : ℤ). f x y +ℤ t) (total-more k l a b (suc_inj h)) ∙ sym (+ℤ_assoc (f x y) (total f k l) (f a b))

  -- a total of n terms, each at most C in magnitude, is at most n C
  pub total-small : (C : ℕ) (k : List A) (l : List B) (a : A) (b : B) → ((i : ℕ) → i < length k → nat_abs (f (get_or k i a) (get_or l i b)) ≤ C) → nat_abs (total f k l) ≤ length k * C
  total-small C [] l a b h = omega arith
  total-small C (x ∷ k) [] a b h = omega arith
  total-small C (x ∷ k) (y ∷ l) a b h = omega (arith, abs-add (f x y) (total f k l), h 0 (omega arith), total-small C k l a b (λ i j. h (suc i) (omega arith)))

  -- a factor of every term is one of the total
  pub total-times : (c : ℤ) (k : List A) (l : List B) → c *ℤ total f k l ≡ total (λ x y. c *ℤ f x y) k l
  total-times c [] l = *ℤ-zero c
  total-times c (x ∷ k) [] = *ℤ-zero c
  total-times c (x ∷ k) (y ∷ l) = *ℤ-+ℤ c (f x y) (total f k l) ∙ ap (λ (t : ℤ). c *ℤ f x y +ℤ t) (total-times c k l)

-- totals of equal terms are equal
pub total_ext : {A B : Type 0} (f g : A → B → ℤ) (k : List A) (l : List B) (a : A) (b : B) → ((i : ℕ) → i < length k → i < length l → f (get_or k i a) (get_or l i b) ≡ g (get_or k i a) (get_or l i b)) → total f k l ≡ total g k l
total_ext f g [] l a b h = refl
total_ext f g (x ∷ k) [] a b h = refl
total_ext f g (x ∷ k) (y ∷ l) a b h = ap₂ ◌+ℤ◌ (h 0 (omega arith) (omega arith)) (total_ext f g k l a b (λ i j m. h (suc i) (omega arith) (omega arith)))

-- ---- over parts: those of n from x with those of m from y

module _ {A B : Type 0} (f : List A → List B → ℤ) (n m : ℕ) (x : List A) (y : List B) where
  -- the pair of the parts i
  abbrev pub term : ℕ → ℤ
  term i = f (take n (drop (n * i) x)) (take m (drop (m * i) y))

  -- one part more
  pub parts_more : (i : ℕ) → total f (cut n (i + 1) x) (cut m (i + 1) y) ≡ total f (cut n i x) (cut m i y) +ℤ term i
  parts_more i = ap₂ (total f) (cut-more n i x) (cut-more m i y) ∙ total-more f (cut n i x) (cut m i y) _ _ (cut-long n i x ∙ sym (cut-long m i y))

  -- k parts, each at most C
  pub parts-small : (C k : ℕ) → ((i : ℕ) → i < k → nat_abs (term i) ≤ C) → nat_abs (total f (cut n k x) (cut m k y)) ≤ k * C
  parts-small C k h = rw (cut-long n k x) at (total-small f C (cut n k x) (cut m k y) [] [] (λ i l. let j : i < k = omega (arith, cut-long n k x) in rw (cut_at n k i x j, cut_at m k i y j) (h i j)))

-- ---- totals of inner products

-- an inner product in two parts
dot-append : (a b c d : List ℤ) → length a ≡ length b → dot (a ++ c) (b ++ d) ≡ dot a b +ℤ dot c d
dot-append [] [] c d h = sym (+ℤ_idl (dot c d))
dot-append [] (y ∷ b) c d h = absurd (omega arith)
dot-append (x ∷ a) [] c d h = absurd (omega arith)
dot-append (x ∷ a) (y ∷ b) c d h = ap (λ (t : ℤ). x *ℤ y +ℤ t) (dot-append a b c d (suc_inj h)) ∙ sym (+ℤ_assoc (x *ℤ y) (dot a b) (dot c d))

-- inner products of parts, together, are the inner product of the whole
pub total-dot : {A B : Type 0} (f : A → List ℤ) (g : B → List ℤ) (k : List A) (l : List B) (a : A) (b : B) → length k ≡ length l → ((i : ℕ) → i < length k → length (f (get_or k i a)) ≡ length (g (get_or l i b)))
    → total (λ x y. dot (f x) (g y)) k l ≡ dot (joined (map f k)) (joined (map g l))
total-dot f g [] l a b h each = refl
total-dot f g (x ∷ k) [] a b h each = absurd (omega arith)
total-dot f g (x ∷ k) (y ∷ l) a b h each =
    ap (λ (t : ℤ). dot (f x) (g y) +ℤ t) (total-dot f g k l a b (suc_inj h) (λ i j. each (suc i) (omega arith)))
    ∙ sym (dot-append (f x) (g y) (joined (map f k)) (joined (map g l)) (each 0 (omega arith)))

-- the whole of k parts of n
pub joined-parts : {A : Type 0} (n k : ℕ) (x : List A) → length x ≡ n * k → joined (map (λ (y : List A). y) (cut n k x)) ≡ x
joined-parts n zero [] h = refl
joined-parts n zero (y ∷ x) h = absurd (omega arith)
joined-parts {A} n (suc k) x h = ap (λ (r : List A). take n x ++ r) (joined-parts n k (drop n x) (simp length-drop (omega arith))) ∙ take-append-drop n x
