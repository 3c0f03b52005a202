-- What a key says of its entry, and that the largest stands at the place to change.
use Rattle.std.specs.Prelude.{◌≡◌, refl, ◌⊎◌, Bool, true, false, cond, not, List, ℕ, ◌+◌, ◌*◌, ◌-◌, ◌/◌, ◌%◌, ◌<◌, ◌≤◌, ltb, ℤ, pos, negsuc, nat_abs, ◌+ℤ◌, ◌-ℤ◌, ◌*ℤ◌, ◌≤ℤ◌, ◌<ℤ◌}
use Rattle.std.proofs.Common.{sym, ◌∙◌, ap, subst, inl, inr, arith, lt-ltb, le-ltb}
use Rattle.std.specs.Int.Signed.{le_z, clash_ℤ}
use Rattle.integers.specs.Laws.Difference.{abs-D, by_d, ints}
use Rattle.integers.specs.Laws.Sizes.{le_z-true, le_z-false, lt_z-not}
use Rattle.integers.specs.Vectors.{«at»}
use Rattle.rounding.specs.Rounding.{sign, Place, key, spot}

-- a key by the two cases of its entry
data Key (i : ℕ) (x : ℤ) (k : ℕ) : Type 0 where
  down : x ≤ℤ pos 0 → sign x ≡ negsuc 0 → k ≡ nat_abs x * 16 + (15 - i) → Key i x k
  up : pos 0 <ℤ x → sign x ≡ pos 1 → k ≡ nat_abs x * 16 + i → Key i x k

keys : (i : ℕ) (x : ℤ) → Key i x (key i x)
keys i x = go (le_z x (pos 0)) refl
  where
    way : (b : Bool) → le_z x (pos 0) ≡ b → sign x ≡ cond (not b) (pos 1) (negsuc 0)
    way b e = ap (λ (t : Bool). cond t (pos 1) (negsuc 0)) (lt_z-not (pos 0) x b e)

    go : (b : Bool) → le_z x (pos 0) ≡ b → Key i x (cond b (nat_abs x * 16 + (15 - i)) (nat_abs x * 16 + i))
    go true e = down (le_z-true _ _ e) (way true e) refl
    go false e = up (le_z-false _ _ e) (way false e) refl

pub key-down : (i : ℕ) (x : ℤ) → x ≤ℤ pos 0 → (sign x ≡ negsuc 0) × (key i x ≡ nat_abs x * 16 + (15 - i))
key-down i x h = go (key i x) (keys i x)
  where
    go : (k : ℕ) → Key i x k → (sign x ≡ negsuc 0) × (k ≡ nat_abs x * 16 + (15 - i))
    go k (down l w e) = (w, e)
    go k (up l w e) = clash_ℤ l h

pub key-up : (i : ℕ) (x : ℤ) → pos 0 <ℤ x → (sign x ≡ pos 1) × (key i x ≡ nat_abs x * 16 + i)
key-up i x h = go (key i x) (keys i x)
  where
    go : (k : ℕ) → Key i x k → (sign x ≡ pos 1) × (k ≡ nat_abs x * 16 + i)
    go k (down l w e) = clash_ℤ h l
    go k (up l w e) = (w, e)

-- a key as the code computes it, from 16 x + i
pub code-down : (i : ℕ) → i < 8 → (x : ℤ) → (pos 16 *ℤ x +ℤ pos i) ≤ℤ pos 7 → (pos 0 ≤ℤ (pos 15 -ℤ (pos 16 *ℤ x +ℤ pos i))) × (nat_abs (pos 15 -ℤ (pos 16 *ℤ x +ℤ pos i)) ≡ key i x)
code-down i h x l = let g = go i h x l in (g.0, g.2 ∙ sym (key-down i x g.1).1)
  where
    go : (i : ℕ) → i < 8 → (x : ℤ) → (pos 16 *ℤ x +ℤ pos i) ≤ℤ pos 7
        → (pos 0 ≤ℤ (pos 15 -ℤ (pos 16 *ℤ x +ℤ pos i))) × (x ≤ℤ pos 0) × (nat_abs (pos 15 -ℤ (pos 16 *ℤ x +ℤ pos i)) ≡ nat_abs x * 16 + (15 - i))
    go i h = by_d _ λ _ _. simp (ints, abs-D) (omega arith)

pub code_up : (i : ℕ) → i < 8 → (x : ℤ) → pos 7 <ℤ (pos 16 *ℤ x +ℤ pos i) → (pos 0 ≤ℤ (pos 16 *ℤ x +ℤ pos i)) × (nat_abs (pos 16 *ℤ x +ℤ pos i) ≡ key i x)
code_up i h x l = let g = go i h x l in (g.0, g.2 ∙ sym (key-up i x g.1).1)
  where
    go : (i : ℕ) → i < 8 → (x : ℤ) → pos 7 <ℤ (pos 16 *ℤ x +ℤ pos i) → (pos 0 ≤ℤ (pos 16 *ℤ x +ℤ pos i)) × (pos 0 <ℤ x) × (nat_abs (pos 16 *ℤ x +ℤ pos i) ≡ nat_abs x * 16 + i)
    go i h = by_d _ λ _ _. simp (ints, abs-D) (omega arith)

-- a key is its entry's size, 16 times, and little more
pub key-small : (i : ℕ) (x : ℤ) → i < 8 → (16 * nat_abs x ≤ key i x) × (key i x ≤ 16 * nat_abs x + 15)
key-small i x h = go (key i x) (keys i x)
  where
    go : (k : ℕ) → Key i x k → (16 * nat_abs x ≤ k) × (k ≤ 16 * nat_abs x + 15)
    go k (down l w e) = (omega arith, omega arith)
    go k (up l w e) = (omega arith, omega arith)

-- the entry, the size and the way of a key's entry, read off the key
pub record Reads (k j : ℕ) (x : ℤ) : Type 0 where
  pub entry : spot k ≡ j
  pub size : k / 16 ≡ nat_abs x
  pub way : cond (ltb (k % 16) 8) (pos 1) (negsuc 0) ≡ sign x

key_reads : (j : ℕ) (x : ℤ) → j < 8 → Reads (key j x) j x
key_reads j x h = go (key j x) (keys j x)
  where
    go : (k : ℕ) → Key j x k → Reads k j x
    go k (down l w e) = let m : k % 16 ≡ 15 - j = omega arith in let t : ltb (k % 16) 8 ≡ false = le-ltb (k % 16) 8 (omega arith) in
        record { entry = rw t (omega arith); size = omega arith; way = rw t (sym w) }
    go k (up l w e) = let m : k % 16 ≡ j = omega arith in let t : ltb (k % 16) 8 ≡ true = lt-ltb (k % 16) 8 (omega arith) in
        record { entry = rw t m; size = omega arith; way = rw t (sym w) }

most-of : (i j : ℕ) (x y : ℤ) (k l : ℕ) → i < 8 → j < 8 → Key i x k → Key j y l → k ≤ l → nat_abs x ≤ nat_abs y
most-of i j x y k l hi hj (down p w e) (down q v g) h = omega arith
most-of i j x y k l hi hj (down p w e) (up q v g) h = omega arith
most-of i j x y k l hi hj (up p w e) (down q v g) h = omega arith
most-of i j x y k l hi hj (up p w e) (up q v g) h = omega arith

-- the largest key stands at the place to mend
largest : (r : List ℤ) (j : ℕ) → j < 8 → ((i : ℕ) → i < 8 → key i («at» r i) ≤ key j («at» r j)) → Place 8 («at» r) j
largest r j j< h = record {
  within = j<;
  most = λ i i<. most-of i j _ _ _ _ i< j< (keys i («at» r i)) (keys j («at» r j)) (h i i<);
  tie = go (key j («at» r j)) (keys j («at» r j)) (λ i i<. h i i<);
}
  where
    A : ℕ → ℤ
    A i = «at» r i

    first : (i : ℕ) (k l : ℕ) → i < j → Key i (A i) k → nat_abs (A i) ≡ nat_abs (A j) → l ≡ nat_abs (A j) * 16 + (15 - j) → k ≤ l → pos 0 <ℤ A i
    first i k l i< (down p w e) q g m = absurd (omega arith)
    first i k l i< (up p w e) q g m = p

    last : (i : ℕ) (k l : ℕ) → i < 8 → Key i (A i) k → nat_abs (A i) ≡ nat_abs (A j) → l ≡ nat_abs (A j) * 16 + j → k ≤ l → (pos 0 <ℤ A i) × (i ≤ j)
    last i k l i< (down p w e) q g m = absurd (omega arith)
    last i k l i< (up p w e) q g m = (p, omega arith)

    go : (l : ℕ) → Key j (A j) l → ((i : ℕ) → i < 8 → key i (A i) ≤ l)
        → ((A j ≤ℤ pos 0) × ((i : ℕ) → i < j → nat_abs (A i) ≡ nat_abs (A j) → pos 0 <ℤ A i)) ⊎ ((i : ℕ) → i < 8 → nat_abs (A i) ≡ nat_abs (A j) → (pos 0 <ℤ A i) × (i ≤ j))
    go l (down p w e) f = inl (p, λ i i< q. first i (key i (A i)) l i< (keys i (A i)) q e (f i (omega arith)))
    go l (up p w e) f = inr λ i i< q. last i (key i (A i)) l i< (keys i (A i)) q e (f i i<)

-- k is the largest of the eight keys
pub record Top (r : List ℤ) (k : ℕ) : Type 0 where
  pub most : (i : ℕ) → i < 8 → key i («at» r i) ≤ k
  pub one : (j : ℕ) × (j < 8) × (k ≡ key j («at» r j))

module _ {r : List ℤ} {k : ℕ} (t : Top r k) where
  pub top-reads : Reads k (spot k) («at» r (spot k))
  top-reads = let j : ℕ = t.one.0 in let d = key_reads j («at» r j) t.one.1 in
      subst (λ (n : ℕ). Reads n (spot n) («at» r (spot n))) (sym t.one.2) (subst (λ (i : ℕ). Reads (key j («at» r j)) i («at» r i)) (sym d.entry) d)

  pub top-place : Place 8 («at» r) (spot k)
  top-place = let j : ℕ = t.one.0 in
      subst (Place 8 («at» r)) (sym (ap spot t.one.2 ∙ (key_reads j («at» r j) t.one.1).entry)) (largest r j t.one.1 (λ n h. omega (arith, t.most n h, t.one.2)))
