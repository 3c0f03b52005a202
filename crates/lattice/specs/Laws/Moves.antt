-- The nearest point moves with its input.
use Rattle.std.specs.Prelude.{◌≡◌, refl, ◌⊎◌, List, [], ◌∷◌, ℕ, suc, ◌+◌, ◌%◌, ℤ, pos, neg_ℤ, nat_abs, ◌+ℤ◌, ◌-ℤ◌, ◌*ℤ◌, length, ◌<ℤ◌}
use Rattle.std.proofs.Common.{sym, ◌∙◌, ap, ap₂, inl, inr, ⊎_elim, arith}
use Rattle.std.proofs.Math.Nat.{suc_inj}
use Rattle.std.proofs.lemmas.List.{length-map}
use Rattle.integers.specs.Laws.Difference.{by_d, ints, by_d₂, by_d₄}
use Rattle.integers.specs.Laws.Lexicographic.{≤V-add}
use Rattle.integers.specs.Laws.Sizes.{abs_neg}
use Rattle.integers.specs.Laws.Sums.{sum-add, sum-neg}
use Rattle.integers.specs.Vectors.{square, add_v, neg_v, scale_v, sum_v}
use Rattle.lattice.specs.Computed.{nearest_half, nearest_point}
use Rattle.lattice.specs.Doubled.{par, All, Half, Doubled}
use Rattle.lattice.specs.Laws.Halves.{fours, nearest_half-least, nearest_point-least}
use Rattle.lattice.specs.Laws.Least.{Least, least-unique, least-map}
use Rattle.lattice.specs.Laws.Parity.{parities}
use Rattle.lattice.specs.Nearest.{cost}

par-plus : (p q : ℕ) (x y : ℤ) → par x ≡ p → par y ≡ q → par (x +ℤ y) ≡ (p + q) % 2
par-plus p q = by_d₂ _ λ _ _ _ _. simp parities (omega arith)

par-neg : (x : ℤ) → par (neg_ℤ x) ≡ par x
par-neg = by_d _ λ _ _. simp parities (omega arith)

four-plus : (x y : ℤ) → nat_abs x % 4 ≡ 0 → nat_abs y % 4 ≡ 0 → nat_abs (x +ℤ y) % 4 ≡ 0
four-plus = by_d₂ _ λ _ _ _ _. simp fours (omega arith)

four-neg : (x : ℤ) → nat_abs x % 4 ≡ 0 → nat_abs (neg_ℤ x) % 4 ≡ 0
four-neg x h = rw (abs_neg x) h

pub length-add : (a b : List ℤ) → length a ≡ length b → length (add_v a b) ≡ length a
length-add [] b e = sym e
length-add (x ∷ a) [] e = refl
length-add (x ∷ a) (y ∷ b) e = ap suc (length-add a b (suc_inj e))

all-add : (p q : ℕ) (a b : List ℤ) → length a ≡ length b → All p a → All q b → All ((p + q) % 2) (add_v a b)
all-add p q [] [] e h k = tt
all-add p q [] (y ∷ b) e h k = absurd (omega arith)
all-add p q (x ∷ a) [] e h k = absurd (omega arith)
all-add p q (x ∷ a) (y ∷ b) e h k = (par-plus p q x y h.0 k.0, all-add p q a b (suc_inj e) h.1 k.1)

all-neg : (p : ℕ) (a : List ℤ) → All p a → All p (neg_v a)
all-neg p [] h = tt
all-neg p (x ∷ a) h = (par-neg x ∙ h.0, all-neg p a h.1)

module _ (n : ℕ) where
  pub doubled-add : (a b : List ℤ) → Doubled n a → Doubled n b → Doubled n (add_v a b)
  doubled-add a b h k = record { long = length-add a b e ∙ h.long; alike = go h.alike k.alike; four = rw (sum-add a b) (four-plus (sum_v a) (sum_v b) h.four k.four) }
    where
      e : length a ≡ length b
      e = h.long ∙ sym k.long

      go : All 0 a ⊎ All 1 a → All 0 b ⊎ All 1 b → All 0 (add_v a b) ⊎ All 1 (add_v a b)
      go (inl x) (inl y) = inl (all-add 0 0 a b e x y)
      go (inl x) (inr y) = inr (all-add 0 1 a b e x y)
      go (inr x) (inl y) = inr (all-add 1 0 a b e x y)
      go (inr x) (inr y) = inl (all-add 1 1 a b e x y)

  pub doubled-neg : (a : List ℤ) → Doubled n a → Doubled n (neg_v a)
  doubled-neg a h = record { long = length-map a neg_ℤ ∙ h.long; alike = ⊎_elim (λ x. inl (all-neg 0 a x)) (λ x. inr (all-neg 1 a x)) h.alike; four = rw (sum-neg a) (four-neg (sum_v a) h.four) }

  pub half-add : (a b : List ℤ) → Half 0 n a → Half 0 n b → Half 0 n (add_v a b)
  half-add a b h k = let e : length a ≡ length b = h.long ∙ sym k.long in
      record { long = length-add a b e ∙ h.long; alike = all-add 0 0 a b e h.alike k.alike; four = rw (sum-add a b) (four-plus (sum_v a) (sum_v b) h.four k.four) }

  pub half-neg : (a : List ℤ) → Half 0 n a → Half 0 n (neg_v a)
  half-neg a h = record { long = length-map a neg_ℤ ∙ h.long; alike = all-neg 0 a h.alike; four = rw (sum-neg a) (four-neg (sum_v a) h.four) }

move_step : (s x y v : ℤ) → x +ℤ s *ℤ v -ℤ s *ℤ (y +ℤ v) ≡ x -ℤ s *ℤ y
move_step = by_d₄ _ λ _ _ _ _ _ _ _ _. simp ints (omega arith)

pub cost-move : (s : ℤ) (d e v : List ℤ) → length d ≡ length v → length e ≡ length v → cost s (add_v d (scale_v s v)) (add_v e v) ≡ cost s d e
cost-move s [] [] [] h k = refl
cost-move s [] [] (w ∷ v) h k = absurd (omega arith)
cost-move s [] (y ∷ e) v h k = absurd (omega arith)
cost-move s (x ∷ d) e [] h k = absurd (omega arith)
cost-move s (x ∷ d) [] (w ∷ v) h k = absurd (omega arith)
cost-move s (x ∷ d) (y ∷ e) (w ∷ v) h k = ap₂ ◌+ℤ◌ (ap square (move_step s x y w)) (cost-move s d e v (suc_inj h) (suc_inj k))

back_step : (x y : ℤ) → x +ℤ neg_ℤ y +ℤ y ≡ x
back_step = by_d₂ _ λ _ _ _ _. simp ints (omega arith)

back : (e v : List ℤ) → length e ≡ length v → add_v (add_v e (neg_v v)) v ≡ e
back [] [] h = refl
back [] (w ∷ v) h = absurd (omega arith)
back (x ∷ e) [] h = refl
back (x ∷ e) (w ∷ v) h = ap₂ ◌∷◌ (back_step x w) (back e v (suc_inj h))

-- a class that adding v, and taking it away, leads back into
module _ (K : List ℤ → Type 0) (n : ℕ) (long : (e : List ℤ) → K e → length e ≡ n) (v : List ℤ) (v-long : length v ≡ n)
    (plus : (e : List ℤ) → K e → K (add_v e v)) (minus : (e : List ℤ) → K e → K (add_v e (neg_v v))) (s : ℤ) (d : List ℤ) (d-long : length d ≡ n) where
  pub least-move : {e : List ℤ} → Least K (cost s d) e → Least K (cost s (add_v d (scale_v s v))) (add_v e v)
  least-move = least-map (λ e. add_v e v) (λ e. add_v e (neg_v v)) plus
      (λ g h. (minus g h, back g v (long g h ∙ sym v-long)))
      (λ f h. cost-move s d f v (d-long ∙ sym v-long) (long f h ∙ sym v-long))
      (λ f g h k. ≤V-add f g v (long f h ∙ sym (long g k)))

  pub moved-long : length (add_v d (scale_v s v)) ≡ n
  moved-long = length-add d (scale_v s v) (d-long ∙ sym (length-map v _ ∙ v-long)) ∙ d-long

module _ (n : ℕ) (s : ℤ) (s> : pos 0 <ℤ s) (d : List ℤ) (long : length d ≡ n) (v : List ℤ) where
  -- a point of the lattice, s times, added to the target is added to the nearest point
  pub doubled-move : n % 4 ≡ 0 → Doubled n v → nearest_point s (add_v d (scale_v s v)) ≡ add_v (nearest_point s d) v
  doubled-move four lat =
      let plus : (e : List ℤ) → Doubled n e → Doubled n (add_v e v) = λ e h. doubled-add n e v h lat in
      let minus : (e : List ℤ) → Doubled n e → Doubled n (add_v e (neg_v v)) = λ e h. doubled-add n e (neg_v v) h (doubled-neg n v lat) in
      least-unique
      (nearest_point-least s s> n (add_v d (scale_v s v)) (moved-long (Doubled n) n (λ e h. h.long) v lat.long plus minus s d long) four)
      (least-move (Doubled n) n (λ e h. h.long) v lat.long plus minus s d long (nearest_point-least s s> n d long four))

  -- the same of the even points alone
  pub half-move : Half 0 n v → nearest_half 0 s (add_v d (scale_v s v)) ≡ add_v (nearest_half 0 s d) v
  half-move lat =
      let plus : (e : List ℤ) → Half 0 n e → Half 0 n (add_v e v) = λ e h. half-add n e v h lat in
      let minus : (e : List ℤ) → Half 0 n e → Half 0 n (add_v e (neg_v v)) = λ e h. half-add n e (neg_v v) h (half-neg n v lat) in
      least-unique
      (nearest_half-least s s> n (add_v d (scale_v s v)) (moved-long (Half 0 n) n (λ e h. h.long) v lat.long plus minus s d long) 0 (omega arith) (omega arith))
      (least-move (Half 0 n) n (λ e h. h.long) v lat.long plus minus s d long (nearest_half-least s s> n d long 0 (omega arith) (omega arith)))
