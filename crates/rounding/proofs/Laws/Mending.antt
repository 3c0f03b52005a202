-- Of all changes of one entry, the one at the worst place is nearest among the vectors of the other parity.
use Rattle.std.specs.Prelude.{◌≡◌, refl, ◌⊎◌, Bool, true, false, cond, leb, ltb, negsuc, ◌+ℤ◌, ◌-ℤ◌, ◌*ℤ◌, length, ◌≤ℤ◌, ◌<ℤ◌}
use Rattle.std.proofs.Common.{sym, ◌∙◌, ap, inl, inr, ⊎_elim, not-suc-le-zero, arith, ltb-true, ltb-false, leb-true, leb-false, leb→le}
use Rattle.std.proofs.Math.Path.{subst}
use mathlib.Core.List.{List, [], ◌∷◌, map}
use Prim.Native.Nat.{ℕ, zero, suc, ◌+◌, ◌-◌, ◌%◌, ◌<◌}
use Rattle.std.proofs.Math.IntN.{ℤ, pos, nat_abs}
use Rattle.std.specs.Int.Signed.{le_z, clash_ℤ}
use Rattle.integers.specs.Laws.Difference.{by_d, ints, by_d₂, by_d₃, by_d₄}
use Rattle.integers.specs.Laws.Signed.{slack<}
use Rattle.integers.specs.Laws.Sizes.{le_z-true, le_z-false}
use Rattle.integers.specs.Vectors.{square, «at», sum_v}
use Rattle.lattice.specs.Doubled.{par}
use Rattle.lattice.specs.Laws.Dn.{Summed, Split, join, part, cons-least, one-least}
use Rattle.lattice.specs.Laws.Least.{Least, Tests, least-left, least-right}
use Rattle.lattice.specs.Laws.Parity.{par-add, Mid}
use Rattle.rounding.proofs.Laws.Rounds.{rounds-least, turn-cases, round-is-mid, turn-is-mid}
use Rattle.lattice.specs.Nearest.{cost}
use Rattle.rounding.specs.Rounding.{round, left, turn, changed}

-- what a change adds to the cost where m is left, up to sign
abbrev penalty : ℤ → ℕ → ℤ
penalty S m = S *ℤ S -ℤ pos 2 *ℤ S *ℤ pos m

-- whether a change where r is left comes before a later one where m is left, up to sign
abbrev pub wins : ℤ → ℕ → Bool
wins r m = elim (ltb m (nat_abs r)) [ true ↦ true | false ↦ elim (leb m (nat_abs r)) [ true ↦ le_z r (pos 0) | false ↦ false ] ]

-- the place to change in x ∷ v, found from the right
unfoldable pub worst : ℤ → ℤ → List ℤ → ℕ
worst S x [] = 0
worst S x (y ∷ v) = let j : ℕ = worst S y v in cond (wins (left S x) (nat_abs (left S («at» (y ∷ v) j)))) 0 (suc j)

up-cost : (x S c r : ℤ) → x -ℤ S *ℤ c ≡ r → pos 0 <ℤ r → square (x -ℤ S *ℤ (c +ℤ pos 1)) ≡ square r +ℤ penalty S (nat_abs r)
up-cost x S c (pos n) e h = ap square (go x S c (pos n) e) ∙ sq n S
  where
    go : (x S c r : ℤ) → x -ℤ S *ℤ c ≡ r → x -ℤ S *ℤ (c +ℤ pos 1) ≡ r -ℤ S
    go = by_d₄ _ λ _ _ _ _ _ _ _ _. simp ints (omega arith)

    sq : (n : ℕ) (S : ℤ) → square (pos n -ℤ S) ≡ square (pos n) +ℤ penalty S n
    sq n = by_d _ λ _ _. simp ints (omega arith)
up-cost x S c (negsuc n) e h = absurd h.lt

down-cost : (x S c r : ℤ) → x -ℤ S *ℤ c ≡ r → r ≤ℤ pos 0 → square (x -ℤ S *ℤ (c +ℤ negsuc 0)) ≡ square r +ℤ penalty S (nat_abs r)
down-cost x S c r e h = ap square (go x S c r e) ∙ sq S r h
  where
    go : (x S c r : ℤ) → x -ℤ S *ℤ c ≡ r → x -ℤ S *ℤ (c +ℤ negsuc 0) ≡ r +ℤ S
    go = by_d₄ _ λ _ _ _ _ _ _ _ _. simp ints (omega arith)

    sq : (S r : ℤ) → r ≤ℤ pos 0 → square (r +ℤ S) ≡ square r +ℤ penalty S (nat_abs r)
    sq S (pos zero) h = nil S
      where
        nil : (S : ℤ) → square (pos 0 +ℤ S) ≡ square (pos 0) +ℤ penalty S 0
        nil = by_d _ λ _ _. simp ints (omega arith)
    sq S (pos (suc n)) h = absurd (not-suc-le-zero (leb→le (suc n) 0 h.le))
    sq S (negsuc n) h = neg n S
      where
        neg : (n : ℕ) (S : ℤ) → square (negsuc n +ℤ S) ≡ square (negsuc n) +ℤ penalty S (suc n)
        neg n = by_d _ λ _ _. simp ints (omega arith)

turn-cost : (S x : ℤ) → square (x -ℤ S *ℤ turn S x) ≡ square (left S x) +ℤ penalty S (nat_abs (left S x))
turn-cost S x = ⊎_elim
    (λ t. rw t.1 (up-cost x S (round S x) (left S x) refl t.0))
    (λ t. rw t.1 (down-cost x S (round S x) (left S x) refl t.0)) (turn-cases S x)

swap-last : (a b c : ℤ) → a +ℤ b +ℤ c ≡ a +ℤ c +ℤ b
swap-last = by_d₃ _ λ _ _ _ _ _ _. simp ints (omega arith)

assoc : (a b c : ℤ) → a +ℤ (b +ℤ c) ≡ a +ℤ b +ℤ c
assoc = by_d₃ _ λ _ _ _ _ _ _. simp ints (omega arith)

pub changed-cost : (S : ℤ) (v : List ℤ) (j : ℕ) → j < length v → cost S v (changed S v j) ≡ cost S v (map (round S) v) +ℤ penalty S (nat_abs (left S («at» v j)))
changed-cost S [] j h = absurd (omega arith)
changed-cost S (x ∷ v) zero h = ap (λ (t : ℤ). t +ℤ cost S v (map (round S) v)) (turn-cost S x) ∙ swap-last (square (left S x)) (penalty S (nat_abs (left S x))) (cost S v (map (round S) v))
changed-cost S (x ∷ v) (suc j) h = ap (λ (t : ℤ). square (left S x) +ℤ t) (changed-cost S v j (omega arith)) ∙ assoc (square (left S x)) (cost S v (map (round S) v)) (penalty S (nat_abs (left S («at» v j))))

pub worst-< : (S x : ℤ) (v : List ℤ) → worst S x v < length (x ∷ v)
unfolding worst
worst-< S x [] = omega arith
worst-< S x (y ∷ v) = go (wins (left S x) (nat_abs (left S («at» (y ∷ v) (worst S y v))))) (worst S y v) (worst-< S y v)
  where
    go : (b : Bool) (j : ℕ) → j < length (y ∷ v) → cond b 0 (suc j) < length (x ∷ y ∷ v)
    go true j h = omega arith
    go false j h = omega arith

-- the cost of a change at the head, and of one behind it
pen-< : (S : ℤ) → pos 0 <ℤ S → (m k : ℕ) (q R : ℤ) → (q +ℤ penalty S (suc (m + k)) +ℤ R) <ℤ (q +ℤ (R +ℤ penalty S m))
pen-< = slack< _ (pos 0) λ s m k. by_d₂ _ λ _ _ _ _. simp ints (omega arith)

pen-> : (S : ℤ) → pos 0 <ℤ S → (m k : ℕ) (q R : ℤ) → (q +ℤ (R +ℤ penalty S (suc (m + k)))) <ℤ (q +ℤ penalty S m +ℤ R)
pen-> = slack< _ (pos 0) λ s m k. by_d₂ _ λ _ _ _ _. simp ints (omega arith)

pen-= : (p q R : ℤ) → q +ℤ p +ℤ R ≡ q +ℤ (R +ℤ p)
pen-= = by_d₃ _ λ _ _ _ _ _ _. simp ints (omega arith)

more : (m a : ℕ) → m < a → a ≡ suc (m + (a - suc m))
more m a h = omega arith

lower : (c : ℤ) → (c +ℤ negsuc 0) <ℤ c
lower = by_d _ λ _ _. simp ints (omega arith)

higher : (c : ℤ) → c <ℤ (c +ℤ pos 1)
higher = by_d _ λ _ _. simp ints (omega arith)

-- the test says which of the two comes first
module _ (S x : ℤ) (S> : pos 0 <ℤ S) (R : ℤ) (m : ℕ) (f g : List ℤ) where
  same : nat_abs (left S x) ≡ m → square (x -ℤ S *ℤ turn S x) +ℤ R ≡ square (left S x) +ℤ (R +ℤ penalty S m)
  same e = rw (turn-cost S x, e) (pen-= (penalty S m) (square (left S x)) R)

  less : m < nat_abs (left S x) → (square (x -ℤ S *ℤ turn S x) +ℤ R) <ℤ (square (left S x) +ℤ (R +ℤ penalty S m))
  less h = rw (turn-cost S x) (subst (λ (a : ℕ). (square (left S x) +ℤ penalty S a +ℤ R) <ℤ (square (left S x) +ℤ (R +ℤ penalty S m))) (sym (more m (nat_abs (left S x)) h)) (pen-< S S> m _ (square (left S x)) R))

  greater : nat_abs (left S x) < m → (square (left S x) +ℤ (R +ℤ penalty S m)) <ℤ (square (x -ℤ S *ℤ turn S x) +ℤ R)
  greater h = rw (turn-cost S x) (subst (λ (a : ℕ). (square (left S x) +ℤ (R +ℤ penalty S a)) <ℤ (square (left S x) +ℤ penalty S (nat_abs (left S x)) +ℤ R)) (sym (more (nat_abs (left S x)) m h)) (pen-> S S> (nat_abs (left S x)) _ (square (left S x)) R))

  pub compare : Tests ((square (x -ℤ S *ℤ turn S x) +ℤ R) ∷ turn S x ∷ f) ((square (left S x) +ℤ (R +ℤ penalty S m)) ∷ round S x ∷ g) (wins (left S x) m)
  compare = go (ltb m (nat_abs (left S x))) refl (leb m (nat_abs (left S x))) refl (le_z (left S x) (pos 0)) refl
    where
      go : (s : Bool) → ltb m (nat_abs (left S x)) ≡ s → (t : Bool) → leb m (nat_abs (left S x)) ≡ t → (u : Bool) → le_z (left S x) (pos 0) ≡ u
          → Tests ((square (x -ℤ S *ℤ turn S x) +ℤ R) ∷ turn S x ∷ f) ((square (left S x) +ℤ (R +ℤ penalty S m)) ∷ round S x ∷ g) (elim s [ true ↦ true | false ↦ elim t [ true ↦ u | false ↦ false ] ])
      go true p t q u z = inl (less (ltb-true _ _ p))
      go false p true q true z = inr (same (omega (arith, ltb-false m (nat_abs (left S x)) p, leb-true m (nat_abs (left S x)) q)), inl (⊎_elim (λ t. clash_ℤ t.0 (le_z-true _ _ z)) (λ t. rw t.1 (lower (round S x))) (turn-cases S x)))
      go false p true q false z = inr (sym (same (omega (arith, ltb-false m (nat_abs (left S x)) p, leb-true m (nat_abs (left S x)) q))), inl (⊎_elim (λ t. rw t.1 (higher (round S x))) (λ t. clash_ℤ (le_z-false _ _ z) t.0) (turn-cases S x)))
      go false p false q u z = inl (greater (leb-false _ _ q))

one-par : (c : ℤ) → par c ≡ par (c +ℤ pos 0)
one-par c = ap par (go c)
  where
    go : (c : ℤ) → c ≡ c +ℤ pos 0
    go = by_d _ λ _ _. simp ints (omega arith)

-- one more entry in front, where f is the nearest of the other parity behind it
module _ (S x : ℤ) (S> : pos 0 <ℤ S) (w f : List ℤ) (h : Least (Summed ((1 + par (sum_v (map (round S) w))) % 2) w) (cost S w) f) where
  step : (b : Bool) → Tests (cost S (x ∷ w) (turn S x ∷ map (round S) w) ∷ turn S x ∷ map (round S) w) (cost S (x ∷ w) (round S x ∷ f) ∷ round S x ∷ f) b
      → Least (Summed ((1 + par (sum_v (map (round S) (x ∷ w)))) % 2) (x ∷ w)) (cost S (x ∷ w)) (cond b (turn S x ∷ map (round S) w) (round S x ∷ f))
  step b = go b
    where
      π : ℕ
      π = par (round S x)

      σ : ℕ
      σ = par (sum_v (map (round S) w))

      p : ℕ
      p = (1 + par (round S x +ℤ sum_v (map (round S) w))) % 2

      e : (1 + π + σ) % 2 ≡ p
      e = omega (arith, par-add (round S x) (sum_v (map (round S) w)))

      k : (g : List ℤ) → Split ((1 + π) % 2) σ w g → Summed p (x ∷ w) g
      k = join x w ((1 + π) % 2) σ p (omega (arith, e))

      l : (g : List ℤ) → Split π ((1 + σ) % 2) w g → Summed p (x ∷ w) g
      l = join x w π ((1 + σ) % 2) p (omega (arith, e))

      s : (g : List ℤ) → Summed p (x ∷ w) g → Split ((1 + π) % 2) σ w g ⊎ Split π ((1 + σ) % 2) w g
      s = part x w π σ p (omega arith) (omega arith) e

      here : Least (Split ((1 + π) % 2) σ w) (cost S (x ∷ w)) (turn S x ∷ map (round S) w)
      here = cons-least S S> x w (map (round S) w) ((1 + π) % 2) σ (turn S x) (turn-is-mid S x S>) (rounds-least S S> w)

      there : Least (Split π ((1 + σ) % 2) w) (cost S (x ∷ w)) (round S x ∷ f)
      there = cons-least S S> x w f π ((1 + σ) % 2) (round S x) (round-is-mid S x S>) h

      go : (b : Bool) → Tests (cost S (x ∷ w) (turn S x ∷ map (round S) w) ∷ turn S x ∷ map (round S) w) (cost S (x ∷ w) (round S x ∷ f) ∷ round S x ∷ f) b
          → Least (Summed p (x ∷ w)) (cost S (x ∷ w)) (cond b (turn S x ∷ map (round S) w) (round S x ∷ f))
      go true t = least-left k l s here there t
      go false t = least-right k l s here there t

cond-at : (S x : ℤ) (w : List ℤ) (j : ℕ) (b : Bool) → cond b (turn S x ∷ map (round S) w) (round S x ∷ changed S w j) ≡ changed S (x ∷ w) (cond b 0 (suc j))
cond-at S x w j true = refl
cond-at S x w j false = refl

module _ (S : ℤ) (S> : pos 0 <ℤ S) where
  -- with the change, the nearest of the other parity
  pub changed-least : (x : ℤ) (v : List ℤ) → Least (Summed ((1 + par (sum_v (map (round S) (x ∷ v)))) % 2) (x ∷ v)) (cost S (x ∷ v)) (changed S (x ∷ v) (worst S x v))
  unfolding worst
  changed-least x [] = one-least S S> x ((1 + par (round S x +ℤ pos 0)) % 2) (omega arith) (turn S x) (subst (λ (p : ℕ). Mid S x ((1 + p) % 2) (turn S x)) (one-par (round S x)) (turn-is-mid S x S>))
  changed-least x (y ∷ v) =
      let w : List ℤ = y ∷ v in let j : ℕ = worst S y v in let m : ℕ = nat_abs (left S («at» w j)) in
      subst (Least (Summed ((1 + par (sum_v (map (round S) (x ∷ w)))) % 2) (x ∷ w)) (cost S (x ∷ w))) (cond-at S x w j (wins (left S x) m))
      (step S x S> w (changed S w j) (changed-least y v) (wins (left S x) m)
      (rw (changed-cost S w j (worst-< S y v)) (compare S x S> (cost S w (map (round S) w)) m (map (round S) w) (changed S w j))))
