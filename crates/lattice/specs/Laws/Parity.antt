-- Parities of sums, and the nearest whole number of a given parity.
use Rattle.std.specs.Prelude.{◌≡◌, ◌⊎◌, ℕ, zero, suc, ◌+◌, ◌*◌, ◌%◌, ◌<◌, ℤ, pos, negsuc, neg_ℤ, nat_abs, ◌+ℤ◌, ◌-ℤ◌, ◌*ℤ◌, ◌≤ℤ◌, ◌<ℤ◌}
use Rattle.std.proofs.Common.{sym, ◌∙◌, subst, inl, inr, ⊎_elim, arith, zero-add, add-zero, zero-mul, mul-zero}
use Rattle.integers.specs.Floor.{floor_div, floor_mod}
use Rattle.integers.specs.Laws.Difference.{D, pos-D, negsuc-D, cond-D, neg-pos-D, neg-D, add-D, mul-D, eq-D, le-D, lt-D, abs-D, by_d, ints, by_d₂, by_d₃}
use Rattle.integers.specs.Laws.Floors.{floor_mod-lt, floor-split}
use Rattle.integers.specs.Laws.Squares.{nearest, nearest-eq}
use Rattle.integers.specs.Vectors.{square}
use Rattle.lattice.specs.Computed.{pick}
use Rattle.lattice.specs.Doubled.{par}

pub par-D : (a b : ℕ) → nat_abs (D a b) % 2 ≡ (a + b) % 2
par-D a b = simp abs-D (omega arith)

-- `ints`, for parities
pub ruleset parities = (pos-D, negsuc-D, cond-D, neg-pos-D, neg-D, zero-add, add-zero, zero-mul, mul-zero, add-D, mul-D, par-D, eq-D, le-D, lt-D)

pub par-add : (x y : ℤ) → par (x +ℤ y) ≡ (par x + par y) % 2
par-add = by_d₂ _ λ _ _ _ _. simp parities (omega arith)

pub par-two : (p : ℕ) (q : ℤ) → par (pos p +ℤ pos 2 *ℤ q) ≡ p % 2
par-two p = by_d _ λ _ _. simp parities (omega arith)

-- two integers of one parity differ by an even one
even-apart : (x y k : ℤ) (r : ℕ) → r < 2 → x -ℤ y ≡ pos 2 *ℤ k +ℤ pos r → par x ≡ par y → x ≡ y +ℤ pos 2 *ℤ k
even-apart = by_d₃ _ λ _ _ _ _ _ _ r. simp parities (omega arith)

same-par : (x y : ℤ) → par x ≡ par y → x ≡ y +ℤ pos 2 *ℤ floor_div (x -ℤ y) 2
same-par x y h = even-apart x y (floor_div (x -ℤ y) 2) (floor_mod (x -ℤ y) 2) (floor_mod-lt (x -ℤ y) 2 (omega arith)) (floor-split (x -ℤ y) 2 (omega arith)) h

-- c has parity p and leaves more than -S and at most S of x
pub record Mid (S x : ℤ) (p : ℕ) (c : ℤ) : Type 0 where
  pub parity : par c ≡ p
  pub low : neg_ℤ S <ℤ (x -ℤ S *ℤ c)
  pub high : (x -ℤ S *ℤ c) ≤ℤ S

pick-mid' : (n p r : ℕ) → r < 2 * n → (x q : ℤ) → x -ℤ pos n *ℤ pos p +ℤ pos n -ℤ pos 1 ≡ pos (2 * n) *ℤ q +ℤ pos r
    → (neg_ℤ (pos n) <ℤ (x -ℤ pos n *ℤ (pos p +ℤ pos 2 *ℤ q))) × ((x -ℤ pos n *ℤ (pos p +ℤ pos 2 *ℤ q)) ≤ℤ pos n)
pick-mid' n p r h = by_d₂ _ λ _ _ _ _. simp ints (omega arith)

pub pick-mid : (S x : ℤ) (p : ℕ) → pos 0 <ℤ S → p < 2 → Mid S x p (pick S p x)
unfolding pick
pick-mid (pos zero) x p h k = absurd h.lt
pick-mid (pos (suc n)) x p h k =
    let z : ℤ = x -ℤ pos (suc n) *ℤ pos p +ℤ pos (suc n) -ℤ pos 1 in
    let q = floor_div z (2 * suc n) in
    let r = pick-mid' (suc n) p (floor_mod z (2 * suc n)) (floor_mod-lt z (2 * suc n) (omega arith)) x q (floor-split z (2 * suc n) (omega arith)) in
    record { parity = omega (arith, par-two p q); low = r.0; high = r.1 }
pick-mid (negsuc n) x p h k = absurd h.lt

two_up : (k : ℤ) → (k ≡ pos 0) ⊎ (k ≡ pos 1) → (y c : ℤ) → y ≡ c +ℤ pos 2 *ℤ k → c ≤ℤ y
two_up k (inl h) = rw h (by_d₂ _ λ _ _ _ _. simp ints (omega arith))
two_up k (inr h) = rw h (by_d₂ _ λ _ _ _ _. simp ints (omega arith))

-- no other of its parity is nearer, and none as near is lower
module _ (S x : ℤ) (p : ℕ) (S> : pos 0 <ℤ S) (c : ℤ) (m : Mid S x p c) (y : ℤ) (h : par y ≡ p) where
  way : y ≡ c +ℤ pos 2 *ℤ floor_div (y -ℤ c) 2
  way = same-par y c (h ∙ sym m.parity)

  pub mid-≤ : square (x -ℤ S *ℤ c) ≤ℤ square (x -ℤ S *ℤ y)
  mid-≤ = subst (λ (t : ℤ). square (x -ℤ S *ℤ c) ≤ℤ square (x -ℤ S *ℤ t)) (sym way) (nearest x S c S> m.low m.high (floor_div (y -ℤ c) 2))

  pub mid-low : square (x -ℤ S *ℤ c) ≡ square (x -ℤ S *ℤ y) → c ≤ℤ y
  mid-low e = two_up (floor_div (y -ℤ c) 2)
      (⊎_elim inl (λ r. inr r.1) (nearest-eq x S c S> m.low m.high (floor_div (y -ℤ c) 2) (subst (λ (t : ℤ). square (x -ℤ S *ℤ t) ≡ square (x -ℤ S *ℤ c)) way (sym e))))
      y c way
