-- One half of the lattice, mended by its largest key: it is the nearest whole vector of even sum, and what that costs.
use Rattle.std.specs.Prelude.{◌≡◌, Bool, ℕ, zero, suc, ◌%◌, ◌^◌, ◌<◌, ltb, ℤ, negsuc, ◌+ℤ◌, ◌-ℤ◌, ◌*ℤ◌, length, ◌<ℤ◌}
use Rattle.std.proofs.Math.Path.{refl, sym, ap, ap₂}
use Rattle.std.proofs.Common.{◌∙◌, subst, arith}
use Rattle.std.proofs.Math.Bool.{true, false, cond}
use mathlib.Core.List.{List, [], ◌∷◌, map}
use Rattle.std.proofs.Math.Decide.{dec_le}
use borrow.Author.Tests.{eqb-true, eqb-false, ne_eqb}
use Rattle.std.proofs.Math.Dec.{eqb}
use Rattle.std.proofs.Math.IntN.{pos, nat_abs, +ℤ_idr}
use Rattle.std.proofs.Math.ListN.{set, length-map}
use Rattle.std.proofs.Math.Seq.{set-get_or}
use Rattle.integers.specs.Laws.Difference.{by_d, ints}
use Rattle.integers.specs.Laws.Signed.{*ℤ-+ℤ}
use Rattle.integers.specs.Laws.Sums.{at_map, sized-map}
use Rattle.integers.specs.Vectors.{square, «at», sum_v, dot, Sized}
use Rattle.lattice.specs.Computed.{nearest_d}
use Rattle.lattice.specs.Doubled.{par}
use Rattle.lattice.specs.Laws.Dn.{Summed, nearest_d-least}
use Rattle.lattice.specs.Laws.Halves.{double-pos}
use Rattle.rounding.specs.Laws.Keys.{Top, top-reads, top-place}
use Rattle.lattice.specs.Laws.Least.{Least, least-unique}
use Rattle.rounding.proofs.Laws.Mending.{changed-cost}
use Rattle.rounding.proofs.Laws.Places.{place-nearest, place_same}
use Rattle.rounding.proofs.Laws.Reciprocals.{left-small, round-small}
use Rattle.rounding.proofs.Laws.Rounds.{rounds-least}
use Rattle.lattice.specs.Nearest.{cost}
use Rattle.rounding.specs.Pass.{Mend, mended, first}
use Rattle.rounding.specs.Rounding.{round, left, sign, turn, changed, Divisor, spot}

-- ---- the sizes of the entries

module _ (s : ℤ) (h : Divisor s) (v : List ℤ) (k : Sized 8 (2 ^ 30) v) where
  pub rounds-sized : Sized 8 (2 ^ 32) (map (round (pos 2 *ℤ s)) v)
  rounds-sized = sized-map 8 _ v k (round (pos 2 *ℤ s)) (2 ^ 32) (λ x l. omega (arith, round-small s h x))

  pub lefts-sized : Sized 8 (nat_abs s) (map (left (pos 2 *ℤ s)) v)
  lefts-sized = sized-map 8 _ v k (left (pos 2 *ℤ s)) (nat_abs s) (λ x l. left-small s h x)

-- ---- the mend

-- what it adds to the cost
mend-step : (n : ℕ) (s : ℤ) → pos 2 *ℤ s *ℤ (pos 2 *ℤ s) -ℤ pos 2 *ℤ (pos 2 *ℤ s) *ℤ pos n ≡ pos 4 *ℤ s *ℤ (s -ℤ pos n)
mend-step n = by_d _ λ _ _. simp ints (omega arith)

-- the cost of rounding is the sum of the squares of what it leaves
cost-rounds : (S : ℤ) (v : List ℤ) → cost S v (map (round S) v) ≡ dot (map (left S) v) (map (left S) v)
cost-rounds S [] = refl
cost-rounds S (x ∷ v) = ap (λ (t : ℤ). square (left S x) +ℤ t) (cost-rounds S v)

-- the first entry, doubled
first_of : (f : List ℤ) (j : ℕ) (t : ℤ) → 0 < length f → pos 2 *ℤ «at» (set f j («at» f j +ℤ t)) 0 ≡ pos 2 *ℤ «at» f 0 +ℤ cond (eqb j 0) (pos 2 *ℤ t) (pos 0)
first_of [] j t h = absurd (omega arith)
first_of (x ∷ f) zero t h = *ℤ-+ℤ (pos 2) x t
first_of (x ∷ f) (suc j) t h = rw (ne_eqb (suc j) 0 (λ e. omega arith)) (sym (+ℤ_idr (pos 2 *ℤ x)))

module _ (s : ℤ) (s> : pos 0 <ℤ s) (v : List ℤ) (long : length v ≡ 8) (k : ℕ) (top : Top (map (left (pos 2 *ℤ s)) v) k) where
  abbrev S : ℤ
  S = pos 2 *ℤ s

  S> : pos 0 <ℤ S
  S> = double-pos s s>

  abbrev f : List ℤ
  f = map (round S) v

  abbrev j : ℕ
  j = spot k

  -- the step, not doubled
  abbrev step : Bool → ℤ
  step b = cond b (cond (ltb (k % 16) 8) (pos 1) (negsuc 0)) (pos 0)

  step_twice : (b : Bool) → (mended s k b).step ≡ pos 2 *ℤ step b
  unfolding mended
  step_twice true = go (ltb (k % 16) 8)
    where
      go : (b : Bool) → cond b (pos 2) (negsuc 1) ≡ pos 2 *ℤ cond b (pos 1) (negsuc 0)
      go true = refl
      go false = refl
  step_twice false = refl

  within : j < length v
  within = omega (arith, (top-place top).within)

  left_at : (i : ℕ) → i < 8 → «at» (map (left S) v) i ≡ left S («at» v i)
  left_at i h = at_map (left S) v i (omega arith)

  -- where the sum is odd, the change at the key's place
  module _ (e : par (sum_v f) ≡ 1) where
    turned : changed S v j ≡ nearest_d S v
    turned = place-nearest S S> v j (rw long (place_same left_at (top-place top))) e

    odd-nearest : set f j («at» f j +ℤ step true) ≡ nearest_d S v
    unfolding turn
    odd-nearest = ap₂ (λ (y z : ℤ). set f j (y +ℤ z)) (at_map (round S) v j within) ((top-reads top).way ∙ ap sign (left_at j (top-place top).within)) ∙ turned

    odd-cost : cost S v (nearest_d S v) ≡ cost S v f +ℤ (mended s k true).cost
    unfolding mended
    odd-cost = ap (cost S v) (sym turned) ∙ changed-cost S v j within
        ∙ ap (λ (z : ℤ). cost S v f +ℤ z) (mend-step (nat_abs (left S («at» v j))) s ∙ ap (λ (n : ℕ). pos 4 *ℤ s *ℤ (s -ℤ pos n)) (sym ((top-reads top).size ∙ ap nat_abs (left_at j (top-place top).within))))

  -- where it is even, nothing
  even-nearest : par (sum_v f) ≡ 0 → f ≡ nearest_d S v
  even-nearest e = least-unique (subst (λ (n : ℕ). Least (Summed n v) (cost S v) f) e (rounds-least S S> v)) (nearest_d-least S S> v)

  odd-or : (n : ℕ) → n < 2 → (n ≡ 1 → ⊥) → n ≡ 0
  odd-or n l h = elim (dec_le n 0) [ yes k ↦ omega arith | no k ↦ absurd (h (omega arith)) ]

  abbrev Mends : Bool → Type 0
  Mends b = (set f j («at» f j +ℤ step b) ≡ nearest_d S v) × (cost S v (nearest_d S v) ≡ cost S v f +ℤ (mended s k b).cost)

  mends : Mends (eqb (par (sum_v f)) 1)
  unfolding mended
  mends = go (eqb (par (sum_v f)) 1) refl
    where
      go : (b : Bool) → eqb (par (sum_v f)) 1 ≡ b → Mends b
      go true e = let o : par (sum_v f) ≡ 1 = eqb-true (par (sum_v f)) 1 e in (odd-nearest o, odd-cost o)
      go false e = let n : f ≡ nearest_d S v = even-nearest (odd-or (par (sum_v f)) (omega arith) (eqb-false (par (sum_v f)) 1 e)) in
          (ap (set f j) (+ℤ_idr («at» f j)) ∙ set-get_or f j (pos 0) ∙ n, ap (cost S v) (sym n) ∙ sym (+ℤ_idr (cost S v f)))

  abbrev m : Mend
  m = mended s k (eqb (par (sum_v f)) 1)

  -- half the step at its place makes the nearest whole vector of even sum
  pub mend-nearest : (t : ℤ) × (m.step ≡ pos 2 *ℤ t) × (set f m.place («at» f m.place +ℤ t) ≡ nearest_d S v)
  unfolding mended
  mend-nearest = (step (eqb (par (sum_v f)) 1), step_twice (eqb (par (sum_v f)) 1), mends.0)

  pub mend-cost : cost S v (nearest_d S v) ≡ dot (map (left S) v) (map (left S) v) +ℤ m.cost
  mend-cost = mends.1 ∙ ap (λ (z : ℤ). z +ℤ m.cost) (cost-rounds S v)

  pub mend-first : pos 2 *ℤ «at» (nearest_d S v) 0 ≡ pos 2 *ℤ «at» f 0 +ℤ first m
  unfolding mended
  mend-first = ap (λ (e : List ℤ). pos 2 *ℤ «at» e 0) (sym mends.0) ∙ first_of f j (step (eqb (par (sum_v f)) 1)) (omega (arith, length-map v (round S)))
      ∙ ap (λ (z : ℤ). pos 2 *ℤ «at» f 0 +ℤ cond (eqb j 0) z (pos 0)) (sym (step_twice (eqb (par (sum_v f)) 1)))
