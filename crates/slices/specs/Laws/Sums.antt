-- The sums of a slice: the point of a choice, dotted with the readings, is the sums of its halves and its mend.
use Rattle.std.specs.Prelude.{◌≡◌, refl, Bool, true, false, cond, List, [], ◌∷◌, ◌++◌, map, ℕ, zero, suc, ◌+◌, ◌*◌, ◌/◌, ◌%◌, ◌^◌, ◌<◌, ◌≤◌, eqb, ℤ, pos, negsuc, nat_abs, ◌+ℤ◌, ◌-ℤ◌, ◌*ℤ◌, length, get_or, take, drop, set}
use Rattle.std.proofs.Common.{sym, ◌∙◌, ap, ap₂, subst, zero-add, arith, eqb-true, eq-eqb, length-append, length-set, get_or-set_same, get_or-set_other, take_all}
use Rattle.std.proofs.lemmas.Simd.{map-map}
use Rattle.std.proofs.lemmas.List.{map-append, length-map}
use Rattle.std.proofs.Math.Decide.{ℕ_discrete}
use Rattle.std.proofs.Math.IntN.{+ℤ_assoc, +ℤ_idl}
use Rattle.std.specs.Int.Signed.{lt_z}
use Rattle.integers.specs.Laws.Difference.{ints, by_d, by_d₂, by_d₃, by_d₄}
use Rattle.integers.specs.Laws.Loops.{range-long, by_entries}
use Rattle.integers.specs.Laws.Sizes.{abs-mul-le}
use Rattle.integers.specs.Laws.Sums.{at-zeros, length-zeros, dot-bound, sized-map}
use Rattle.integers.specs.Vectors.{«at», zeros, dot, Bounded, Sized, range}
use Rattle.columns.specs.Narrow.{left_by}
use Rattle.rounding.proofs.Laws.Lowered.{lowered-small}
use Rattle.rounding.specs.Rounding.{sign, lowered}
use Rattle.slices.specs.Slices.{choice_by}
use Rattle.slices.specs.Sums.{mend_at, Paired}

-- the entry k of 0, 1 .. n - 1
pub range-entry : (n k : ℕ) → k < n → get_or (range 0 n) k 0 ≡ k
range-entry n k h = go 0 n k h ∙ zero-add k
  where
    go : (i n k : ℕ) → k < n → get_or (range i n) k 0 ≡ i + k
    go i zero k h = absurd (omega arith)
    go i (suc n) zero h = omega arith
    go i (suc n) (suc k) h = go (suc i) n k (omega arith) ∙ omega arith

-- what f makes of them is as large as it makes any
pub range-sized : (f : ℕ → ℤ) (B n : ℕ) → ((k : ℕ) → k < n → nat_abs (f k) ≤ B) → Sized n B (map f (range 0 n))
range-sized f B n h = record { long = length-map (range 0 n) f ∙ range-long 0 n; small = go 0 n (λ k l m. h k (omega arith)) }
  where
    go : (i n : ℕ) → ((k : ℕ) → i ≤ k → k < i + n → nat_abs (f k) ≤ B) → Bounded B (map f (range i n))
    go i zero h j = omega arith
    go i (suc n) h zero = h i (omega arith) (omega arith)
    go i (suc n) h (suc j) = go (suc i) n (λ k l m. h k (omega arith) (omega arith)) j

-- n entries 0 are small
pub zeros-sized : (n B : ℕ) → Sized n B (zeros n)
zeros-sized n B = record { long = length-zeros n; small = λ i. rw (at-zeros n i) (omega arith) }

-- ---- inner products by entries

-- of one list with two, one after the other
pub dot-parts : (X l h : List ℤ) → dot X (l ++ h) ≡ dot (take (length l) X) l +ℤ dot (drop (length l) X) h
dot-parts X [] h = sym (+ℤ_idl (dot X h))
dot-parts [] (y ∷ l) h = refl
dot-parts (x ∷ X) (y ∷ l) h = ap (λ (t : ℤ). x *ℤ y +ℤ t) (dot-parts X l h) ∙ sym (+ℤ_assoc (x *ℤ y) (dot (take (length l) X) l) (dot (drop (length l) X) h))

less-step : (x f g s a b : ℤ) → x *ℤ (f -ℤ s *ℤ g) +ℤ (a -ℤ s *ℤ b) ≡ x *ℤ f +ℤ a -ℤ s *ℤ (x *ℤ g +ℤ b)
less-step = by_d₃ _ λ _ _ _ _ _ _. by_d₃ _ λ _ _ _ _ _ _. simp ints (omega arith)

none-step : (s : ℤ) → pos 0 ≡ pos 0 -ℤ s *ℤ pos 0
none-step = by_d _ λ _ _. simp ints (omega arith)

-- with entries less s times others
pub dot-less : (s : ℤ) (f g : ℕ → ℤ) (X : List ℤ) (i n : ℕ) → dot X (map (λ (k : ℕ). f k -ℤ s *ℤ g k) (range i n)) ≡ dot X (map f (range i n)) -ℤ s *ℤ dot X (map g (range i n))
dot-less s f g [] i n = none-step s
dot-less s f g (x ∷ X) i zero = none-step s
dot-less s f g (x ∷ X) i (suc n) = ap (λ (t : ℤ). x *ℤ (f i -ℤ s *ℤ g i) +ℤ t) (dot-less s f g X (suc i) n) ∙ less-step x (f i) (g i) s (dot X (map f (range (suc i) n))) (dot X (map g (range (suc i) n)))

-- an entry t at the place j, and else 0
abbrev only : ℕ → ℤ → ℕ → ℤ
only j t k = cond (eqb k j) t (pos 0)

skip_step : (x d : ℤ) → x *ℤ pos 0 +ℤ d ≡ d
skip_step = by_d₂ _ λ _ _ _ _. simp ints (omega arith)

last_step : (x t d : ℤ) → d ≡ pos 0 → x *ℤ t +ℤ d ≡ x *ℤ t
last_step = by_d₃ _ λ _ _ _ _ _ _. simp ints (omega arith)

none_left : (t : ℤ) → pos 0 ≡ pos 0 *ℤ t
none_left = by_d _ λ _ _. simp ints (omega arith)

only-not : (j : ℕ) (t : ℤ) (k : ℕ) → (k ≡ j → ⊥) → only j t k ≡ pos 0
only-not j t k h = go (eqb k j) refl
  where
    go : (b : Bool) → eqb k j ≡ b → cond b t (pos 0) ≡ pos 0
    go true e = absurd (h (eqb-true k j e))
    go false e = refl

-- past the place
dot-past : (j : ℕ) (t : ℤ) (X : List ℤ) (i n : ℕ) → j < i → dot X (map (only j t) (range i n)) ≡ pos 0
dot-past j t [] i n h = refl
dot-past j t (x ∷ X) i zero h = refl
dot-past j t (x ∷ X) i (suc n) h = rw (only-not j t i (λ e. omega (arith, e))) (skip_step x (dot X (map (only j t) (range (suc i) n))) ∙ dot-past j t X (suc i) n (omega arith))

-- with such entries
pub dot-only : (t : ℤ) (X : List ℤ) (i n j : ℕ) → j < n → dot X (map (only (i + j) t) (range i n)) ≡ «at» X j *ℤ t
dot-only t [] i n j h = none_left t
dot-only t (x ∷ X) i zero j h = absurd (omega arith)
dot-only t (x ∷ X) i (suc n) zero h = let e : i ≡ i + 0 = omega arith in rw (eq-eqb i (i + 0) e) (last_step x t (dot X (map (only (i + 0) t) (range (suc i) n))) (dot-past (i + 0) t X (suc i) n (omega arith)))
dot-only t (x ∷ X) i (suc n) (suc j) h =
    let e : suc i + j ≡ i + suc j = omega arith in
    rw (only-not (i + suc j) t i (λ e. omega (arith, e))) (skip_step x (dot X (map (only (i + suc j) t) (range (suc i) n)))
    ∙ ap (λ (p : ℕ). dot X (map (only p t) (range (suc i) n))) (sym e) ∙ dot-only t X (suc i) n j (omega arith))

-- how large one is
pub dot-sized : (n A B : ℕ) (a b : List ℤ) → Sized n A a → Sized n B b → nat_abs (dot a b) ≤ n * (A * B)
dot-sized n A B a b h k = subst (λ (d : ℤ). nat_abs d ≤ n * (A * B)) (ap₂ dot (take_all n a (omega (arith, h.long))) (take_all n b (omega (arith, k.long)))) (dot-bound A B a b h.small k.small n)

-- ---- the halves

-- the odd half of small coordinates is small
pub lowered-sized : (n : ℕ) (s : ℤ) (a : List ℤ) → nat_abs s ≤ 4 → Sized n 4 a → Sized n 8 (map (lowered s) a)
lowered-sized n s a h k = sized-map n 4 a k (lowered s) 8 (λ x l. omega (arith, lowered-small s x))

-- what the half of the parity p leaves
abbrev pub halved : ℤ → ℕ → List ℤ → List ℤ
halved s p a = cond (eqb p 0) a (map (lowered s) a)

module _ (s : ℤ) where
  -- of one coordinate, by the sign of what is left
  abbrev half : ℤ → ℤ → ℤ
  half p x = x -ℤ s *ℤ (p *ℤ sign x)

  half-even : (x w : ℤ) → x -ℤ s *ℤ (pos 0 *ℤ w) ≡ x
  half-even = go s
    where
      go : (s x w : ℤ) → x -ℤ s *ℤ (pos 0 *ℤ w) ≡ x
      go = by_d₃ _ λ _ _ _ _ _ _. simp ints (omega arith)

  half-odd : (x : ℤ) → half (pos 1) x ≡ lowered s x
  half-odd x = go (lt_z (pos 0) x) s x
    where
      go : (b : Bool) (s x : ℤ) → x -ℤ s *ℤ (pos 1 *ℤ cond b (pos 1) (negsuc 0)) ≡ cond b (x -ℤ s) (x +ℤ s)
      go true = by_d₂ _ λ _ _ _ _. simp ints (omega arith)
      go false = by_d₂ _ λ _ _ _ _. simp ints (omega arith)

  -- of all coordinates
  halves : (p : ℕ) → p < 2 → (a : List ℤ) → map (half (pos p)) a ≡ halved s p a
  halves zero h [] = refl
  halves zero h (x ∷ a) = ap₂ ◌∷◌ (half-even x (sign x)) (halves zero h a)
  halves (suc zero) h a = go a
    where
      go : (a : List ℤ) → map (half (pos 1)) a ≡ map (lowered s) a
      go [] = refl
      go (x ∷ a) = ap₂ ◌∷◌ (half-odd x) (go a)
  halves (suc (suc p)) h a = absurd (omega arith)

  halved-append : (p : ℕ) (l h : List ℤ) → halved s p (l ++ h) ≡ halved s p l ++ halved s p h
  halved-append p l h = go (eqb p 0)
    where
      go : (b : Bool) → cond b (l ++ h) (map (lowered s) (l ++ h)) ≡ cond b l (map (lowered s) l) ++ cond b h (map (lowered s) h)
      go true = refl
      go false = map-append (lowered s) l h

  halved-long : (p : ℕ) (l : List ℤ) → length (halved s p l) ≡ length l
  halved-long p l = go (eqb p 0)
    where
      go : (b : Bool) → length (cond b l (map (lowered s) l)) ≡ length l
      go true = refl
      go false = length-map l (lowered s)

map_same : (f g : ℕ → ℤ) → ((k : ℕ) → f k ≡ g k) → (l : List ℕ) → map f l ≡ map g l
map_same f g h [] = refl
map_same f g h (k ∷ l) = ap₂ ◌∷◌ (h k) (map_same f g h l)

entry-step : (x s p o : ℤ) → x -ℤ s *ℤ (p +ℤ o) ≡ x -ℤ s *ℤ p -ℤ s *ℤ o
entry-step = by_d₄ _ λ _ _ _ _ _ _ _ _. simp ints (omega arith)

mend-step : (s x w u l h : ℤ) → l +ℤ h -ℤ s *ℤ (x *ℤ (w -ℤ u)) ≡ l +ℤ (s *ℤ (u -ℤ w) *ℤ x +ℤ h)
mend-step = by_d₃ _ λ _ _ _ _ _ _. by_d₃ _ λ _ _ _ _ _ _. simp ints (omega arith)

-- the choice k, and a point of three coordinates and five
module _ (s : ℤ) (k : ℕ) (X l h : List ℤ) (l3 : length l ≡ 3) (h5 : length h ≡ 5) where
  abbrev p : ℕ
  p = k % 2

  abbrev j : ℕ
  j = k / 2 % 8

  abbrev step : ℤ
  step = pos (2 * (k / 16)) -ℤ pos 2

  abbrev a : List ℤ
  a = l ++ h

  abbrev f : ℕ → ℤ
  f i = half s (pos p) («at» a i)

  long : length a ≡ 8
  long = length-append l h ∙ omega arith

  parts : dot X (map f (range 0 8)) ≡ dot (take 3 X) (halved s p l) +ℤ dot (drop 3 X) (halved s p h)
  parts = ap (dot X) (sym (map-map (half s (pos p)) («at» a) (range 0 8)) ∙ ap (map (half s (pos p))) (sym (by_entries a (pos 0) 8 long)) ∙ halves s p (omega arith) a ∙ halved-append s p l h)
      ∙ dot-parts X (halved s p l) (halved s p h)
      ∙ ap (λ (n : ℕ). dot (take n X) (halved s p l) +ℤ dot (drop n X) (halved s p h)) (halved-long s p l ∙ l3)

  place : dot X (map (only j step) (range 0 8)) ≡ «at» X j *ℤ step
  place = subst (λ (i : ℕ). dot X (map (only i step) (range 0 8)) ≡ «at» X j *ℤ step) (zero-add j) (dot-only step X 0 8 j (omega arith))

  -- the readings with its point: with what the half leaves of the three and of the five, and with the mend
  pub dot-choice : dot X (left_by s (choice_by k) a) ≡ dot (take 3 X) (halved s (k % 2) l) +ℤ (mend_at s X k +ℤ dot (drop 3 X) (halved s (k % 2) h))
  dot-choice =
      ap (dot X) (map_same _ (λ (i : ℕ). f i -ℤ s *ℤ only j step i) (λ i. entry-step («at» a i) s (pos p *ℤ sign («at» a i)) (only j step i)) (range 0 8))
      ∙ dot-less s f (only j step) X 0 8
      ∙ ap₂ (λ (x y : ℤ). x -ℤ s *ℤ y) parts place
      ∙ mend-step s («at» X j) (pos (2 * (k / 16))) (pos 2) (dot (take 3 X) (halved s p l)) (dot (drop 3 X) (halved s p h))

-- the size of a mend, factor by factor
module _ (s : ℤ) (h : nat_abs s ≤ 4) (k : ℕ) (below : k < 48) where
  -- of the step
  pub step_small : nat_abs (pos 2 -ℤ pos (2 * (k / 16))) ≤ 2
  step_small = go (k / 16) (omega arith)
    where
      go : (d : ℕ) → d < 3 → nat_abs (pos 2 -ℤ pos (2 * d)) ≤ 2
      go zero l = omega arith
      go (suc zero) l = omega arith
      go (suc (suc zero)) l = omega arith
      go (suc (suc (suc d))) l = absurd (omega arith)

  -- times s
  pub steps-small : nat_abs (s *ℤ (pos 2 -ℤ pos (2 * (k / 16)))) ≤ 8
  steps-small = abs-mul-le s (pos 2 -ℤ pos (2 * (k / 16))) h step_small

  -- times the reading
  pub mend-small : (X : List ℤ) → Bounded (2 ^ 24) X → nat_abs (mend_at s X k) ≤ 2 ^ 27
  mend-small X x = abs-mul-le (s *ℤ (pos 2 -ℤ pos (2 * (k / 16)))) («at» X (k / 2 % 8)) steps-small (x (k / 2 % 8))

-- ---- pairs

module _ (f g : ℕ → ℤ) where
  -- none yet
  pub paired_none : (r : List ℤ) → Paired f g 0 r
  paired_none r = record { first = λ j h. absurd (omega arith); second = λ j h. absurd (omega arith) }

  -- one more
  pub paired-more : (n : ℕ) (r : List ℤ) → Paired f g n r → 2 * n + 1 < length r → (x y : ℤ) → x ≡ f n → y ≡ g n → Paired f g (n + 1) (set (set r (2 * n) x) (2 * n + 1) y)
  paired-more n r p h x y ex ey = record {
    first = λ j l. elim (ℕ_discrete j n) [
      | yes e ↦ subst (λ (j : ℕ). «at» w (2 * j) ≡ f j) (sym e) (get_or-set_other v (2 * n + 1) (2 * n) y (pos 0) (λ e. omega (arith, e)) ∙ get_or-set_same r (2 * n) x (pos 0) (omega arith) ∙ ex)
      | no e ↦ other (2 * j) (omega (arith, e)) ∙ p.first j (omega (arith, e))
    ];
    second = λ j l. elim (ℕ_discrete j n) [
      | yes e ↦ subst (λ (j : ℕ). «at» w (2 * j + 1) ≡ g j) (sym e) (get_or-set_same v (2 * n + 1) y (pos 0) (omega (arith, length-set r (2 * n) x)) ∙ ey)
      | no e ↦ other (2 * j + 1) (omega (arith, e)) ∙ p.second j (omega (arith, e))
    ];
  }
    where
      v : List ℤ
      v = set r (2 * n) x

      w : List ℤ
      w = set v (2 * n + 1) y

      other : (i : ℕ) → i < 2 * n → «at» w i ≡ «at» r i
      other i k = get_or-set_other v (2 * n + 1) i y (pos 0) (λ e. omega (arith, e)) ∙ get_or-set_other r (2 * n) i x (pos 0) (λ e. omega (arith, e))

  -- by place in the pair
  pub paired_at : (n : ℕ) (r : List ℤ) → Paired f g n r → (j p : ℕ) → j < n → p < 2 → «at» r (2 * j + p) ≡ cond (eqb p 0) (f j) (g j)
  paired_at n r h j zero l m = let e : 2 * j + 0 ≡ 2 * j = omega arith in ap («at» r) e ∙ h.first j l
  paired_at n r h j (suc zero) l m = h.second j l
  paired_at n r h j (suc (suc p)) l m = absurd (omega arith)
