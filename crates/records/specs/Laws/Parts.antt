-- Parts of a row: cut into n each; made part by part and joined; written part by part over lent bytes.
use Rattle.std.specs.Prelude.{◌≡◌, refl, List, [], ◌∷◌, ◌++◌, map, ℕ, zero, suc, ◌+◌, ◌*◌, ◌-◌, ◌<◌, ◌≤◌, length, get_or, take, drop}
use Rattle.std.proofs.Common.{sym, ◌∙◌, ap, ap₂, append-nil, append_assoc, mul-le-mul, le_refl, add-one, arith, length-append, length-drop, drop_of_length-le, take-suc, take_at, drop_at, drop-drop}
use Rattle.std.proofs.lemmas.List.{map-append}
use Rattle.integers.specs.Laws.Loops.{map_at, rest-whole}
use Rattle.layers.specs.Digits.{joined, cut}
use Rattle.layers.proofs.Laws.Loops.{write-in}

-- a part ends where the next begins, which is not past the last part's end
pub part-ends : (n i k : ℕ) → i < k → n * i + n ≤ n * k
part-ends n i k h = let e : n * suc i ≤ n * k = mul-le-mul (le_refl n) h in omega arith

module _ {A : Type 0} (n : ℕ) (f : List A) where
  -- the parts from 0 on are all
  pub cut-whole : (k : ℕ) → cut n k f ≡ cut n (k - 0) (drop (n * 0) f)
  cut-whole k = let e : k ≡ k - 0 = omega arith in let z : 0 ≡ n * 0 = omega arith in ap₂ (λ (k j : ℕ). cut n k (drop j f)) e z

  -- the parts from i on are part i and those from i + 1 on
  pub cut-next : (k i : ℕ) → i < k → cut n (k - i) (drop (n * i) f) ≡ take n (drop (n * i) f) ∷ cut n (k - (i + 1)) (drop (n * (i + 1)) f)
  cut-next k i h =
      let g : List A = drop (n * i) f in let e : k - i ≡ suc (k - (i + 1)) = omega arith in let s : n * i + n ≡ n * (i + 1) = omega arith in
      ap (λ (j : ℕ). cut n j g) e ∙ ap (λ (r : List A). take n g ∷ cut n (k - (i + 1)) r) (drop-drop n (n * i) f ∙ ap (λ (j : ℕ). drop j f) s)

module _ {A : Type 0} (n : ℕ) where
  -- there are as many parts as asked for
  pub cut-long : (k : ℕ) (f : List A) → length (cut n k f) ≡ k
  cut-long zero f = refl
  cut-long (suc k) f = ap suc (cut-long k (drop n f))

  -- the parts up to i + 1 are those up to i and part i
  pub cut-more : (i : ℕ) (f : List A) → cut n (i + 1) f ≡ cut n i f ++ (take n (drop (n * i) f) ∷ [])
  cut-more i f = ap (λ (j : ℕ). cut n j f) (add-one i) ∙ go i f
    where
      go : (i : ℕ) (f : List A) → cut n (suc i) f ≡ cut n i f ++ (take n (drop (n * i) f) ∷ [])
      go zero f = let z : 0 ≡ n * 0 = omega arith in ap (λ (j : ℕ). take n (drop j f) ∷ []) z
      go (suc i) f = let s : n + n * i ≡ n * suc i = omega arith in
          ap (λ (r : List (List A)). take n f ∷ r) (go i (drop n f) ∙ ap (λ (g : List A). cut n i (drop n f) ++ (take n g ∷ [])) (drop-drop (n * i) n f ∙ ap (λ (j : ℕ). drop j f) s))

  -- k parts after i
  pub cut-add : (i k : ℕ) (f : List A) → cut n (i + k) f ≡ cut n i f ++ cut n k (drop (n * i) f)
  cut-add zero k f = let e : 0 + k ≡ k = omega arith in let z : 0 ≡ n * 0 = omega arith in ap₂ (λ (k j : ℕ). cut n k (drop j f)) e z
  cut-add (suc i) k f = let e : suc i + k ≡ suc (i + k) = omega arith in let s : n + n * i ≡ n * suc i = omega arith in
      ap (λ (j : ℕ). cut n j f) e ∙ ap (λ (r : List (List A)). take n f ∷ r) (cut-add i k (drop n f) ∙ ap (λ (g : List A). cut n i (drop n f) ++ cut n k g) (drop-drop (n * i) n f ∙ ap (λ (j : ℕ). drop j f) s))

  -- part i of k
  pub cut_at : (k i : ℕ) (f : List A) → i < k → get_or (cut n k f) i [] ≡ take n (drop (n * i) f)
  cut_at zero i f h = absurd (omega arith)
  cut_at (suc k) zero f h = let z : 0 ≡ n * 0 = omega arith in ap (λ (j : ℕ). take n (drop j f)) z
  cut_at (suc k) (suc i) f h = let s : n + n * i ≡ n * suc i = omega arith in
      cut_at k i (drop n f) (omega arith) ∙ ap (take n) (drop-drop (n * i) n f ∙ ap (λ (j : ℕ). drop j f) s)

-- parts of n that f makes, in one row, are found again, whatever follows the row
module _ {A B : Type 0} (f : A → List B) (n : ℕ) (each : (x : A) → length (f x) ≡ n) where
  pub cut-made : (l : List A) (rest : List B) → cut n (length l) (joined (map f l) ++ rest) ≡ map f l
  cut-made [] rest = refl
  cut-made (x ∷ l) rest = let row : List B = joined (map f l) ++ rest in
      ap (cut n (suc (length l))) (append_assoc (f x) (joined (map f l)) rest)
      ∙ ap₂ (λ (p r : List B). p ∷ cut n (length l) r) (take_at (f x) row n (each x)) (drop_at (f x) row n (each x))
      ∙ ap (λ (r : List (List B)). f x ∷ r) (cut-made l rest)

  -- and so is part i
  pub part-made : (l : List A) (rest : List B) (i : ℕ) (d : A) → i < length l → take n (drop (n * i) (joined (map f l) ++ rest)) ≡ f (get_or l i d)
  part-made l rest i d h =
      sym (cut_at n (length l) i (joined (map f l) ++ rest) h) ∙ ap (λ (r : List (List B)). get_or r i []) (cut-made l rest) ∙ map_at f l i d [] h

module _ {A : Type 0} where
  -- two rows of parts, joined
  pub joined-append : (a b : List (List A)) → joined (a ++ b) ≡ joined a ++ joined b
  joined-append [] b = refl
  joined-append (x ∷ a) b = ap (λ (l : List A). x ++ l) (joined-append a b) ∙ sym (append_assoc x (joined a) (joined b))

module _ {A B : Type 0} (f : A → List B) where
  -- one part more
  pub joined-more : (l : List A) (x : A) → joined (map f (l ++ (x ∷ []))) ≡ joined (map f l) ++ f x
  joined-more l x = ap joined (map-append f l (x ∷ [])) ∙ joined-append (map f l) (f x ∷ []) ∙ ap (λ (r : List B). joined (map f l) ++ r) (append-nil (f x))

  -- the same for the first i + 1 of a list
  pub joined-take : (l : List A) (i : ℕ) (d : A) → i < length l → joined (map f (take (i + 1) l)) ≡ joined (map f (take i l)) ++ f (get_or l i d)
  joined-take l i d h = ap (λ (r : List A). joined (map f r)) (ap (λ (j : ℕ). take j l) (add-one i) ∙ take-suc l i d h) ∙ joined-more (take i l) (get_or l i d)

module _ {A : Type 0} (w o : List A) (a : ℕ) where
  -- what was written before the rest of o is as long as its place says
  pub front_long : (x : List A) → x ≡ w ++ drop a o → length x ≡ length o → a ≤ length o → length w ≡ a
  front_long x e h k = omega (arith, simp (length-append, length-drop) at (ap length e))

  -- b is written after it, in place of k bytes
  pub write-over : (b : List A) (k : ℕ) → length w ≡ a → let x = w ++ drop a o in take a x ++ b ++ drop (a + k) x ≡ (w ++ b) ++ drop (a + k) o
  write-over b k h = let x : List A = w ++ drop a o in
      ap₂ (λ (f g : List A). f ++ b ++ g) (take_at w (drop a o) a h) (sym (drop-drop k a x) ∙ ap (drop k) (drop_at w (drop a o) a h) ∙ drop-drop k a o)

  -- all from a on was lent, and b written to its front in place of k bytes
  pub write-rest : (b : List A) (k : ℕ) → length w ≡ a → let x = w ++ drop a o in
      take a x ++ ((b ++ drop k (take (length x - a) (drop a x))) ++ drop (length x - a) (drop a x)) ≡ (w ++ b) ++ drop (a + k) o
  write-rest b k h = let x : List A = w ++ drop a o in
      let none : drop (length x - a) (drop a x) ≡ [] = drop_of_length-le (drop a x) {i = length x - a} (simp length-drop (omega arith)) in
      ap₂ (λ (f g : List A). take a x ++ ((b ++ drop k f) ++ g)) (rest-whole a x) none ∙ ap (λ (f : List A). take a x ++ f) (append-nil (b ++ drop k (drop a x))) ∙ write-in w b o a k h
