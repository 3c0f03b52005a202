-- The numbers that the code computes for one coordinate: the reciprocal, its guess, the rounding, what is left.
use Rattle.std.specs.Prelude.{◌≡◌, suc, ◌+◌, ◌*◌, ◌^◌, ◌<◌, ◌≤◌, ℤ, neg_ℤ, nat_abs, ◌+ℤ◌, ◌-ℤ◌, ◌*ℤ◌, ◌≤ℤ◌, ◌<ℤ◌}
use Rattle.std.proofs.Common.{sym, ◌∙◌, arith}
use Rattle.std.proofs.Math.Path.{ap}
use Rattle.std.proofs.Math.Nat.{div-add-mod, mul-div-mul_left}
use Rattle.std.proofs.Math.IntN.{pos}
use Rattle.std.specs.Int.Signed.{shr_z}
use Rattle.integers.specs.Floor.{reciprocal as whole-reciprocal, floor_div}
use Rattle.integers.specs.Laws.Difference.{D, abs-D, by_d, ints, by_d₂, by_d₃}
use Rattle.integers.specs.Laws.Floors.{floor_div-shr, by_pos}
use Rattle.integers.specs.Laws.Reciprocals.{guess as guess-at, guess-ok as guess-at-ok}
use Rattle.integers.specs.Laws.Signed.{slack<, trichotomy}
use Rattle.integers.specs.Laws.Sizes.{abs-add, abs-sub, abs-mul, abs-from, abs-times}
use Rattle.rounding.proofs.Laws.Rounds.{round-rest}
use Rattle.rounding.specs.Rounding.{round, left, Divisor, reciprocal}

pub twice : (s : ℤ) → s +ℤ s ≡ pos 2 *ℤ s
twice = by_d _ λ _ _. simp ints (omega arith)

pub twice-pos : (s : ℤ) → pos 1 ≤ℤ s → (pos 0 <ℤ (pos 2 *ℤ s)) × (pos 0 <ℤ s)
twice-pos = by_d _ λ _ _. simp ints (omega arith)

-- one integer leaves at most half of S
apart : (S : ℤ) → pos 0 <ℤ S → (x q c : ℤ) → q <ℤ c → (pos 2 *ℤ (x -ℤ S *ℤ q)) ≤ℤ S → neg_ℤ S <ℤ (pos 2 *ℤ (x -ℤ S *ℤ c)) → ⊥
apart = slack< _ (pos 0) λ n. by_d₂ _ λ x x' q q'. slack< _ (D q q') λ j. simp ints (omega arith)

pub round_is : (S x c : ℤ) → pos 0 <ℤ S → neg_ℤ S <ℤ (pos 2 *ℤ (x -ℤ S *ℤ c)) → (pos 2 *ℤ (x -ℤ S *ℤ c)) ≤ℤ S → c ≡ round S x
round_is S x c S> l h = let r = round-rest S x S> in
    trichotomy c (round S x) (λ k. absurd (apart S S> x c (round S x) k h r.0)) (λ e. e) (λ k. absurd (apart S S> x (round S x) c k r.1 l))

-- the guess at y over 2s: 2^31 over s is 2^32 over 2s
twice-reciprocal : (s : ℤ) → pos 1 ≤ℤ s → reciprocal s ≡ whole-reciprocal (nat_abs (pos 2 *ℤ s))
twice-reciprocal = by_pos _ λ n. sym (mul-div-mul_left {m = 2} 2147483648 (suc n) (omega arith))

abbrev guess : ℤ → ℤ → ℤ
guess s y = guess-at (nat_abs (pos 2 *ℤ s)) y

guess-ok : (s : ℤ) → pos 1 ≤ℤ s → (y : ℤ) → nat_abs y ≤ 2147483648
    → (pos 0 ≤ℤ (y -ℤ pos 2 *ℤ s *ℤ guess s y)) × ((y -ℤ pos 2 *ℤ s *ℤ guess s y) <ℤ (pos 2 *ℤ (pos 2 *ℤ s)))
guess-ok = by_pos _ λ n y h. guess-at-ok (2 * suc n) (omega arith) y h

-- the guess rounds x where it leaves at most s, and one more rounds it where it leaves more
module _ (s x : ℤ) (s≥ : pos 1 ≤ℤ s) (small : nat_abs (x +ℤ s -ℤ pos 1) ≤ 2147483648) where
  abbrev q : ℤ
  q = guess s (x +ℤ s -ℤ pos 1)

  guess-next : s <ℤ (x -ℤ pos 2 *ℤ s *ℤ q) → q +ℤ pos 1 ≡ round (pos 2 *ℤ s) x
  guess-next l = let k = go s x q s≥ (guess-ok s s≥ (x +ℤ s -ℤ pos 1) small).1 l in round_is (pos 2 *ℤ s) x _ (twice-pos s s≥).0 k.0 k.1
    where
      go : (s x q : ℤ) → pos 1 ≤ℤ s → (x +ℤ s -ℤ pos 1 -ℤ pos 2 *ℤ s *ℤ q) <ℤ (pos 2 *ℤ (pos 2 *ℤ s)) → s <ℤ (x -ℤ pos 2 *ℤ s *ℤ q)
          → (neg_ℤ (pos 2 *ℤ s) <ℤ (pos 2 *ℤ (x -ℤ pos 2 *ℤ s *ℤ (q +ℤ pos 1)))) × ((pos 2 *ℤ (x -ℤ pos 2 *ℤ s *ℤ (q +ℤ pos 1))) ≤ℤ (pos 2 *ℤ s))
      go = by_d₃ _ λ _ _ _ _ _ _. simp ints (omega arith)

  guess-right : (x -ℤ pos 2 *ℤ s *ℤ q) ≤ℤ s → q ≡ round (pos 2 *ℤ s) x
  guess-right l = let k = go s x q s≥ (guess-ok s s≥ (x +ℤ s -ℤ pos 1) small).0 l in round_is (pos 2 *ℤ s) x _ (twice-pos s s≥).0 k.0 k.1
    where
      go : (s x q : ℤ) → pos 1 ≤ℤ s → pos 0 ≤ℤ (x +ℤ s -ℤ pos 1 -ℤ pos 2 *ℤ s *ℤ q) → (x -ℤ pos 2 *ℤ s *ℤ q) ≤ℤ s
          → (neg_ℤ (pos 2 *ℤ s) <ℤ (pos 2 *ℤ (x -ℤ pos 2 *ℤ s *ℤ q))) × ((pos 2 *ℤ (x -ℤ pos 2 *ℤ s *ℤ q)) ≤ℤ (pos 2 *ℤ s))
      go = by_d₃ _ λ _ _ _ _ _ _. simp ints (omega arith)

-- what is left, and how large a rounded coordinate is
half-left : (s r : ℤ) → pos 1 ≤ℤ s → neg_ℤ (pos 2 *ℤ s) <ℤ (pos 2 *ℤ r) → (pos 2 *ℤ r) ≤ℤ (pos 2 *ℤ s) → nat_abs r ≤ nat_abs s
half-left = by_d₂ _ λ _ _ _ _. simp (ints, abs-D) (omega arith)

pub left-small : (s : ℤ) → Divisor s → (x : ℤ) → nat_abs (left (pos 2 *ℤ s) x) ≤ nat_abs s
left-small s h x = let r = round-rest (pos 2 *ℤ s) x (twice-pos s h.least).0 in half-left s (left (pos 2 *ℤ s) x) h.least r.0 r.1

pub round-small : (s : ℤ) → Divisor s → (x : ℤ) → nat_abs (round (pos 2 *ℤ s) x) ≤ nat_abs x + 16384
round-small s h x = let r : ℤ = round (pos 2 *ℤ s) x in
    omega (arith, abs-times (pos 2 *ℤ s) r (doubled s h.least), abs-from x (pos 2 *ℤ s *ℤ r), left-small s h x, h.most)
  where
    doubled : (s : ℤ) → pos 1 ≤ℤ s → 0 < nat_abs (pos 2 *ℤ s)
    doubled = by_pos _ λ n. omega arith

pub reciprocal-small : (s : ℤ) → pos 1 ≤ℤ s → reciprocal s ≤ 2147483648
reciprocal-small = by_pos _ λ n. omega (arith, div-add-mod 2147483648 (suc n))

-- the same in the code's terms
module _ (s x w : ℤ) (h : Divisor s) (k : nat_abs x ≤ 2 ^ 30) (e : w ≡ pos (reciprocal s)) where
  abbrev code_y : ℤ
  code_y = x +ℤ s -ℤ pos 1

  abbrev code_z : ℤ
  code_z = code_y *ℤ w -ℤ pos 2147483648

  abbrev code_q : ℤ
  code_q = shr_z code_z 4294967296

  abbrev code_r : ℤ
  code_r = x -ℤ (s +ℤ s) *ℤ code_q

  pub y-small : nat_abs code_y ≤ 2147483648
  y-small = omega (arith, abs-sub (x +ℤ s) (pos 1), abs-add x s, h.most)

  is-guess : code_q ≡ guess s code_y
  unfolding guess-at
  is-guess = floor_div-shr code_z 4294967296 ∙ ap (λ (t : ℤ). floor_div (code_y *ℤ t -ℤ pos 2147483648) 4294967296) (e ∙ ap pos (twice-reciprocal s h.least))

  product_small : (y m z : ℤ) → pos 0 ≤ℤ (y -ℤ z) → (y -ℤ z) <ℤ (pos 2 *ℤ m) → nat_abs z ≤ nat_abs y + 2 * nat_abs m
  product_small = by_d₃ _ λ _ _ _ _ _ _. simp (ints, abs-D) (omega arith)

  pub mq-small : nat_abs ((s +ℤ s) *ℤ code_q) ≤ 2147549184
  mq-small = let g = guess-ok s h.least code_y y-small in
      rw (is-guess, twice s) (omega (arith, product_small code_y (pos 2 *ℤ s) (pos 2 *ℤ s *ℤ guess s code_y) g.0 g.1, abs-mul (pos 2) s, h.most, y-small))

  -- where more than s is left, and where not
  pub code-next : s <ℤ code_r → (code_q +ℤ pos 1 ≡ round (pos 2 *ℤ s) x) × (code_r -ℤ (s +ℤ s) ≡ left (pos 2 *ℤ s) x)
  code-next l = let q : code_q +ℤ pos 1 ≡ round (pos 2 *ℤ s) x = rw is-guess (guess-next s x h.least y-small (rw (is-guess, twice s) at l)) in
      (q, step s x code_q ∙ ap (λ (t : ℤ). x -ℤ pos 2 *ℤ s *ℤ t) q)
    where
      step : (s x q : ℤ) → x -ℤ (s +ℤ s) *ℤ q -ℤ (s +ℤ s) ≡ x -ℤ pos 2 *ℤ s *ℤ (q +ℤ pos 1)
      step = by_d₃ _ λ _ _ _ _ _ _. simp ints (omega arith)

  pub code-right : code_r ≤ℤ s → (code_q ≡ round (pos 2 *ℤ s) x) × (code_r ≡ left (pos 2 *ℤ s) x)
  code-right l = let q : code_q ≡ round (pos 2 *ℤ s) x = rw is-guess (guess-right s x h.least y-small (rw (is-guess, twice s) at l)) in (q, rw (twice s, q))
