-- Rounding every entry is nearest among the vectors of its own parity; one step toward the input is the next nearest.
use Rattle.std.specs.Prelude.{◌≡◌, refl, ◌⊎◌, Bool, true, false, cond, List, [], ◌∷◌, map, ℕ, zero, suc, ◌+◌, ◌*◌, ◌%◌, ◌<◌, ℤ, pos, negsuc, neg_ℤ, ◌+ℤ◌, ◌-ℤ◌, ◌*ℤ◌, length, ◌≤ℤ◌, ◌<ℤ◌}
use Rattle.std.proofs.Common.{sym, inl, inr, ⊎_elim, arith}
use Rattle.std.proofs.Math.Nat.{suc_inj}
use Rattle.std.proofs.lemmas.List.{length-map}
use Rattle.std.specs.Int.Signed.{lt_z}
use Rattle.integers.specs.Floor.{floor_div, floor_mod}
use Rattle.integers.specs.Laws.Difference.{by_d, ints, by_d₂, by_d₃, by_d₄}
use Rattle.integers.specs.Laws.Floors.{floor_mod-lt, floor-split}
use Rattle.integers.specs.Laws.Sizes.{lt_z-true, lt_z-false}
use Rattle.integers.specs.Laws.Squares.{nearest, nearest-eq}
use Rattle.integers.specs.Vectors.{square, sum_v, ◌≤V◌}
use Rattle.lattice.specs.Doubled.{par}
use Rattle.lattice.specs.Laws.Dn.{Summed}
use Rattle.lattice.specs.Laws.Least.{Least, cons-≤V}
use Rattle.lattice.specs.Laws.Parity.{parities, Mid}
use Rattle.lattice.specs.Nearest.{cost}
use Rattle.rounding.specs.Rounding.{round, left, turn}

round-mid : (n r : ℕ) → r < 2 * n → (x q : ℤ) → pos 2 *ℤ x +ℤ pos n -ℤ pos 1 ≡ pos (2 * n) *ℤ q +ℤ pos r
    → (neg_ℤ (pos n) <ℤ (pos 2 *ℤ (x -ℤ pos n *ℤ q))) × ((pos 2 *ℤ (x -ℤ pos n *ℤ q)) ≤ℤ pos n)
round-mid n r h = by_d₂ _ λ _ _ _ _. simp ints (omega arith)

-- twice what is left is above -S and at most S
pub round-rest : (S x : ℤ) → pos 0 <ℤ S → (neg_ℤ S <ℤ (pos 2 *ℤ left S x)) × ((pos 2 *ℤ left S x) ≤ℤ S)
unfolding round
round-rest (pos zero) x h = absurd h.lt
round-rest (pos (suc n)) x h = let z : ℤ = pos 2 *ℤ x +ℤ pos (suc n) -ℤ pos 1 in
    round-mid (suc n) (floor_mod z (2 * suc n)) (floor_mod-lt z (2 * suc n) (omega arith)) x (floor_div z (2 * suc n)) (floor-split z (2 * suc n) (omega arith))
round-rest (negsuc n) x h = absurd h.lt

-- ---- rounding is least

dbl : (x S c : ℤ) → pos 2 *ℤ x -ℤ S *ℤ (pos 2 *ℤ c) ≡ pos 2 *ℤ (x -ℤ S *ℤ c)
dbl = by_d₃ _ λ _ _ _ _ _ _. simp ints (omega arith)

dbl' : (x S c y : ℤ) → pos 2 *ℤ x -ℤ S *ℤ (pos 2 *ℤ c +ℤ pos 2 *ℤ (y -ℤ c)) ≡ pos 2 *ℤ (x -ℤ S *ℤ y)
dbl' = by_d₄ _ λ _ _ _ _ _ _ _ _. simp ints (omega arith)

sq-half : (a b : ℤ) → square (pos 2 *ℤ a) ≤ℤ square (pos 2 *ℤ b) → square a ≤ℤ square b
sq-half = by_d₂ _ λ _ _ _ _. simp ints (omega arith)

one_up : (c y : ℤ) → (y -ℤ c ≡ pos 0) ⊎ (y -ℤ c ≡ pos 1) → c ≤ℤ y
one_up c y (inl h) = go c y h
  where
    go : (c y : ℤ) → y -ℤ c ≡ pos 0 → c ≤ℤ y
    go = by_d₂ _ λ _ _ _ _. simp ints (omega arith)
one_up c y (inr h) = go c y h
  where
    go : (c y : ℤ) → y -ℤ c ≡ pos 1 → c ≤ℤ y
    go = by_d₂ _ λ _ _ _ _. simp ints (omega arith)

module _ (S x c : ℤ) (S> : pos 0 <ℤ S) (low : neg_ℤ S <ℤ (pos 2 *ℤ (x -ℤ S *ℤ c))) (high : (pos 2 *ℤ (x -ℤ S *ℤ c)) ≤ℤ S) (y : ℤ) where
  mid≤ : square (x -ℤ S *ℤ c) ≤ℤ square (x -ℤ S *ℤ y)
  mid≤ = sq-half (x -ℤ S *ℤ c) (x -ℤ S *ℤ y) (rw (dbl x S c, dbl' x S c y) at (nearest (pos 2 *ℤ x) S (pos 2 *ℤ c) S> (rw (dbl x S c) low) (rw (dbl x S c) high) (y -ℤ c)))

  mid-lo : square (x -ℤ S *ℤ c) ≡ square (x -ℤ S *ℤ y) → c ≤ℤ y
  mid-lo e = one_up c y (⊎_elim inl (λ r. inr r.1) (nearest-eq (pos 2 *ℤ x) S (pos 2 *ℤ c) S> (rw (dbl x S c) low) (rw (dbl x S c) high) (y -ℤ c)
      (rw (dbl x S c, dbl' x S c y) (go (x -ℤ S *ℤ y) (x -ℤ S *ℤ c) (sym e)))))
    where
      go : (a b : ℤ) → square a ≡ square b → square (pos 2 *ℤ a) ≡ square (pos 2 *ℤ b)
      go = by_d₂ _ λ _ _ _ _. simp ints (omega arith)

module _ (S : ℤ) (S> : pos 0 <ℤ S) where
  rounds-≤ : (v g : List ℤ) → length g ≡ length v → (cost S v (map (round S) v) ∷ map (round S) v) ≤V (cost S v g ∷ g)
  rounds-≤ [] g e = inr (refl, tt)
  rounds-≤ (x ∷ v) [] e = absurd (omega arith)
  rounds-≤ (x ∷ v) (y ∷ g) e = let r = round-rest S x S> in
      cons-≤V (square (left S x)) (square (x -ℤ S *ℤ y)) (cost S v (map (round S) v)) (cost S v g) (round S x) y (map (round S) v) g
      (mid≤ S x (round S x) S> r.0 r.1 y) (mid-lo S x (round S x) S> r.0 r.1 y) (rounds-≤ v g (suc_inj e))

  pub rounds-least : (v : List ℤ) → Least (Summed (par (sum_v (map (round S) v))) v) (cost S v) (map (round S) v)
  rounds-least v = record { member = record { long = length-map v (round S); parity = refl }; least = λ g h. rounds-≤ v g h.long }

-- ---- the next nearest

pub turn-cases : (S x : ℤ) → ((pos 0 <ℤ left S x) × (turn S x ≡ round S x +ℤ pos 1)) ⊎ ((left S x ≤ℤ pos 0) × (turn S x ≡ round S x +ℤ negsuc 0))
unfolding turn
turn-cases S x = go (lt_z (pos 0) (left S x)) refl
  where
    go : (b : Bool) → lt_z (pos 0) (left S x) ≡ b
        → ((pos 0 <ℤ left S x) × (round S x +ℤ cond b (pos 1) (negsuc 0) ≡ round S x +ℤ pos 1)) ⊎ ((left S x ≤ℤ pos 0) × (round S x +ℤ cond b (pos 1) (negsuc 0) ≡ round S x +ℤ negsuc 0))
    go true e = inl (lt_z-true (pos 0) (left S x) e, refl)
    go false e = inr (lt_z-false (pos 0) (left S x) e, refl)

module _ (S x : ℤ) (S> : pos 0 <ℤ S) where
  pub round-is-mid : Mid S x (par (round S x)) (round S x)
  round-is-mid = let r = round-rest S x S> in let h = go S (left S x) S> r.0 r.1 in record { parity = refl; low = h.0; high = h.1 }
    where
      go : (S r : ℤ) → pos 0 <ℤ S → neg_ℤ S <ℤ (pos 2 *ℤ r) → (pos 2 *ℤ r) ≤ℤ S → (neg_ℤ S <ℤ r) × (r ≤ℤ S)
      go = by_d₂ _ λ _ _ _ _. simp ints (omega arith)

  pub turn-is-mid : Mid S x ((1 + par (round S x)) % 2) (turn S x)
  turn-is-mid = let r = round-rest S x S> in ⊎_elim
      (λ t. let h = up S x (round S x) r.0 r.1 t.0 in rw t.1 (record { parity = odd (round S x); low = h.0; high = h.1 }))
      (λ t. let h = down S x (round S x) r.0 r.1 t.0 in rw t.1 (record { parity = odd' (round S x); low = h.0; high = h.1 }))
      (turn-cases S x)
    where
      up : (S x c : ℤ) → neg_ℤ S <ℤ (pos 2 *ℤ (x -ℤ S *ℤ c)) → (pos 2 *ℤ (x -ℤ S *ℤ c)) ≤ℤ S → pos 0 <ℤ (x -ℤ S *ℤ c)
          → (neg_ℤ S <ℤ (x -ℤ S *ℤ (c +ℤ pos 1))) × ((x -ℤ S *ℤ (c +ℤ pos 1)) ≤ℤ S)
      up = by_d₃ _ λ _ _ _ _ _ _. simp ints (omega arith)

      down : (S x c : ℤ) → neg_ℤ S <ℤ (pos 2 *ℤ (x -ℤ S *ℤ c)) → (pos 2 *ℤ (x -ℤ S *ℤ c)) ≤ℤ S → (x -ℤ S *ℤ c) ≤ℤ pos 0
          → (neg_ℤ S <ℤ (x -ℤ S *ℤ (c +ℤ negsuc 0))) × ((x -ℤ S *ℤ (c +ℤ negsuc 0)) ≤ℤ S)
      down = by_d₃ _ λ _ _ _ _ _ _. simp ints (omega arith)

      odd : (c : ℤ) → par (c +ℤ pos 1) ≡ (1 + par c) % 2
      odd = by_d _ λ _ _. simp parities (omega arith)

      odd' : (c : ℤ) → par (c +ℤ negsuc 0) ≡ (1 + par c) % 2
      odd' = by_d _ λ _ _. simp parities (omega arith)
