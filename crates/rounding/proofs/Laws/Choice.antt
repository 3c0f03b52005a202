-- Even half against odd half, in the terms of the code.
use Rattle.std.specs.Prelude.{◌≡◌, refl, ℕ, zero, suc, ◌+◌, ◌*◌, ◌-◌, ◌/◌, ◌%◌, ◌^◌, ◌<◌, ◌≤◌, T, eqb, ltb, negsuc, ◌+ℤ◌, ◌*ℤ◌, length, take, set, ◌≤ℤ◌, ◌<ℤ◌}
use Rattle.std.proofs.Common.{sym, ◌∙◌, zero-add, le-leb, ext_get_or, take_all}
use Rattle.std.proofs.Math.Path.{ap, ap₂}
use Rattle.std.proofs.Math.Bool.{Bool, true, false, cond}
use mathlib.Core.List.{List, [], ◌∷◌, map}
use native.Mathlib.Omega.{arith}
use Rattle.std.proofs.Math.IntN.{ℤ, pos, nat_abs, ◌-ℤ◌}
use Rattle.std.proofs.lemmas.List.{length-map}
use Rattle.std.specs.Int.Signed.{le_z, lt_z, shr_z, ≤ℤ_refl}
use Rattle.integers.specs.Laws.Difference.{by_d, ints, by_d₂, by_d₃, by_d₄}
use Rattle.integers.specs.Laws.Loops.{range_at}
use Rattle.integers.specs.Laws.Signed.{<ℤ-weak, trichotomy}
use Rattle.integers.specs.Laws.Sizes.{abs-add, abs-sub, abs-mul, abs-mul-le, le_z-true, le_z-false, lt_z-true, lt_z-false, le_z-not, lt_z-not}
use Rattle.integers.specs.Laws.Sums.{at_map}
use Rattle.integers.specs.Vectors.{«at», sum_v, dot, Bounded}
use Rattle.lattice.specs.Computed.{lesser, nearest_d, spread, lower, nearest_half, nearest_point}
use Rattle.lattice.specs.Doubled.{par}
use Rattle.lattice.specs.Laws.Dn.{nearest_d-least}
use Rattle.lattice.specs.Laws.Halves.{cost-spread, double-pos}
use Rattle.rounding.specs.Laws.Keys.{top-place}
use Rattle.lattice.specs.Laws.Least.{le_v-heads}
use Rattle.rounding.proofs.Laws.Mended.{mend-nearest, mend-cost, mend-first}
use Rattle.lattice.specs.Laws.Parity.{parities}
use Rattle.rounding.proofs.Laws.Scans.{scan-sum, scan-even, scan-odd, scan-top, twin-at, odd-top, odd-parity}
use Rattle.lattice.specs.Nearest.{cost}
use Rattle.rounding.specs.Pass.{Scan, Mend, Choice, Ranged, Small, scanned, mended, first, lead, even_mend, odd_mend, chosen, choose, spread_by}
use Rattle.rounding.specs.Rounding.{round, left, sign, Divisor}

-- ---- two tests are one where they cannot differ

same_test : (b t : Bool) → (b ≡ true → t ≡ false → ⊥) → (b ≡ false → t ≡ true → ⊥) → b ≡ t
same_test true true p q = refl
same_test true false p q = absurd (p refl refl)
same_test false true p q = absurd (q refl refl)
same_test false false p q = refl

-- true where s is, else u where t is, else false
abbrev in_turn : Bool → Bool → Bool → Bool
in_turn s t u = elim s [ true ↦ true | false ↦ elim t [ true ↦ u | false ↦ false ] ]

-- ---- the nearest point, from the nearest of each half

-- 2x against 2y + 1
heads : (x y : ℤ) → lt_z (pos 2 *ℤ x +ℤ pos 0) (pos 2 *ℤ y +ℤ pos 1) ≡ le_z x y
heads x y = same_test _ _ (λ p q. no-1 x y (lt_z-true _ _ p) (le_z-false x y q)) (λ p q. no-2 x y (lt_z-false _ _ p) (le_z-true x y q))
  where
    no-1 : (x y : ℤ) → (pos 2 *ℤ x +ℤ pos 0) <ℤ (pos 2 *ℤ y +ℤ pos 1) → y <ℤ x → ⊥
    no-1 = by_d₂ _ λ _ _ _ _. simp ints (omega arith)

    no-2 : (x y : ℤ) → (pos 2 *ℤ y +ℤ pos 1) ≤ℤ (pos 2 *ℤ x +ℤ pos 0) → x ≤ℤ y → ⊥
    no-2 = by_d₂ _ λ _ _ _ _. simp ints (omega arith)

even : (x : ℤ) → par (pos 2 *ℤ x +ℤ pos 0) ≡ 0
even = by_d _ λ _ _. simp parities (omega arith)

odd : (x : ℤ) → par (pos 2 *ℤ x +ℤ pos 1) ≡ 1
odd = by_d _ λ _ _. simp parities (omega arith)

-- of an even vector and an odd one, the costs and the first entries say which is the lesser
lesser-heads : (c : List ℤ → ℤ) (x y : ℤ) (f g : List ℤ) → par x ≡ 0 → par y ≡ 1
    → lesser c (x ∷ f) (y ∷ g) ≡ cond (in_turn (lt_z (c (x ∷ f)) (c (y ∷ g))) (le_z (c (x ∷ f)) (c (y ∷ g))) (lt_z x y)) (x ∷ f) (y ∷ g)
unfolding lesser
lesser-heads c x y f g p q = ap (λ (b : Bool). cond b (x ∷ f) (y ∷ g)) (le_v-heads (c (x ∷ f)) (c (y ∷ g)) x y f g (λ e. omega (arith, p, q, ap par e)))

-- whether an even point of cost a, its first half-entry x, comes before an odd one of cost b, its first half-entry y
abbrev ahead : ℤ → ℤ → ℤ → ℤ → Bool
ahead a b x y = in_turn (lt_z a b) (le_z a b) (le_z x y)

lesser-two : (c : List ℤ → ℤ) (e o : List ℤ) → 0 < length e → 0 < length o
    → lesser c (spread 0 e) (spread 1 o) ≡ cond (ahead (c (spread 0 e)) (c (spread 1 o)) («at» e 0) («at» o 0)) (spread 0 e) (spread 1 o)
lesser-two c [] o h k = absurd (omega arith)
lesser-two c (x ∷ e) [] h k = absurd (omega arith)
lesser-two c (x ∷ e) (y ∷ o) h k = let E = spread 0 (x ∷ e) in let O = spread 1 (y ∷ o) in
    lesser-heads c (pos 2 *ℤ x +ℤ pos 0) (pos 2 *ℤ y +ℤ pos 1) (spread 0 e) (spread 1 o) (even x) (odd y) ∙ ap (λ (u : Bool). cond (in_turn (lt_z (c E) (c O)) (le_z (c E) (c O)) u) E O) (heads x y)

same : (s x : ℤ) → x -ℤ s *ℤ pos 0 ≡ x
same = by_d₂ _ λ _ _ _ _. simp ints (omega arith)

lower-none : (s : ℤ) (d : List ℤ) → lower s 0 d ≡ d
lower-none s [] = refl
lower-none s (x ∷ d) = ap₂ ◌∷◌ (same s x) (lower-none s d)

module _ (s : ℤ) (s> : pos 0 <ℤ s) (d : List ℤ) (long : length d ≡ 8) where
  long-nearest : (v : List ℤ) → length v ≡ 8 → 0 < length (nearest_d (pos 2 *ℤ s) v)
  long-nearest v h = omega (arith, (nearest_d-least (pos 2 *ℤ s) (double-pos s s>) v).member.long)

  nearest-halves : let S = pos 2 *ℤ s in let e = nearest_d S d in let o = nearest_d S (lower s 1 d) in
      nearest_point s d ≡ cond (ahead (cost S d e) (cost S (lower s 1 d) o) («at» e 0) («at» o 0)) (spread 0 e) (spread 1 o)
  unfolding nearest_point nearest_half
  nearest-halves = let S : ℤ = pos 2 *ℤ s in let e = nearest_d S d in let o = nearest_d S (lower s 1 d) in
      ap (λ (v : List ℤ). lesser (cost s d) (spread 0 (nearest_d S v)) (spread 1 o)) (lower-none s d)
      ∙ lesser-two (cost s d) e o (long-nearest d long) (long-nearest (lower s 1 d) (length-map d _ ∙ long))
      ∙ ap₂ (λ (a b : ℤ). cond (ahead a b («at» e 0) («at» o 0)) (spread 0 e) (spread 1 o)) (cost-spread 0 s d e ∙ ap (λ (v : List ℤ). cost S v e) (lower-none s d)) (cost-spread 1 s d o)

-- ---- the comparison by one number

holds : (b : Bool) → T b → b ≡ true
holds true h = refl
holds false h = absurd h

-- the difference of the costs decides before the test t does
module _ (a b : ℤ) (t : Bool) where
  abbrev v : ℤ
  v = cond t (pos 1) (pos 0) -ℤ pos 2 *ℤ (a -ℤ b)

  decides : in_turn (lt_z a b) (le_z a b) t ≡ lt_z (pos 0) v
  decides = trichotomy a b
      (λ l. ap (λ (u : Bool). in_turn u (le_z a b) t) (holds (lt_z a b) l.lt) ∙ sym (holds (lt_z (pos 0) v) (front t a b l).lt))
      (λ e. rw e (ap₂ (λ (u w : Bool). in_turn u w t) (lt_z-not b b true (holds (le_z b b) (≤ℤ_refl b).le)) (holds (le_z b b) (≤ℤ_refl b).le) ∙ last t ∙ ap (λ (z : ℤ). lt_z (pos 0) (cond t (pos 1) (pos 0) -ℤ pos 2 *ℤ z)) (none b)))
      (λ l. ap₂ (λ (u w : Bool). in_turn u w t) (lt_z-not a b true (holds (le_z b a) (<ℤ-weak b a l).le)) (le_z-not a b true (holds (lt_z b a) l.lt)) ∙ sym (lt_z-not (pos 0) v true (holds (le_z v (pos 0)) (back t a b l).le)))
    where
      front : (t : Bool) (a b : ℤ) → a <ℤ b → pos 0 <ℤ (cond t (pos 1) (pos 0) -ℤ pos 2 *ℤ (a -ℤ b))
      front true = by_d₂ _ λ _ _ _ _. simp ints (omega arith)
      front false = by_d₂ _ λ _ _ _ _. simp ints (omega arith)

      back : (t : Bool) (a b : ℤ) → b <ℤ a → (cond t (pos 1) (pos 0) -ℤ pos 2 *ℤ (a -ℤ b)) ≤ℤ pos 0
      back true = by_d₂ _ λ _ _ _ _. simp ints (omega arith)
      back false = by_d₂ _ λ _ _ _ _. simp ints (omega arith)

      none : (b : ℤ) → pos 0 ≡ b -ℤ b
      none = by_d _ λ _ _. simp ints (omega arith)

      last : (t : Bool) → t ≡ lt_z (pos 0) (cond t (pos 1) (pos 0) -ℤ pos 2 *ℤ pos 0)
      last true = refl
      last false = refl

-- the parity of the half by the sign alone, as a shift reads it
pub sign-shift : (v : ℤ) → nat_abs v ≤ 2 ^ 62 → pos 0 -ℤ shr_z (v -ℤ pos 1) (2 ^ 63) ≡ cond (lt_z (pos 0) v) (pos 0) (pos 1)
sign-shift v h = ap (λ (z : ℤ). pos 0 -ℤ z) (go (v -ℤ pos 1) (omega (arith, abs-sub v (pos 1)))) ∙ flip (le_z (pos 0) (v -ℤ pos 1))
    ∙ ap (λ (b : Bool). cond b (pos 0) (pos 1)) (same_test _ _ (λ p q. no-1 v (le_z-true _ _ p) (lt_z-false _ _ q)) (λ p q. no-2 v (le_z-false _ _ p) (lt_z-true _ _ q)))
  where
    go : (z : ℤ) → nat_abs z ≤ 2 ^ 62 + 1 → shr_z z (2 ^ 63) ≡ cond (le_z (pos 0) z) (pos 0) (negsuc 0)
    go (pos n) l = let e : n / 2 ^ 63 ≡ 0 = omega arith in ap pos e ∙ sym (ap (λ (b : Bool). cond b (pos 0) (negsuc 0)) (le-leb 0 n (omega arith)))
    go (negsuc n) l = let e : n / 2 ^ 63 ≡ 0 = omega arith in ap negsuc e

    flip : (b : Bool) → pos 0 -ℤ cond b (pos 0) (negsuc 0) ≡ cond b (pos 0) (pos 1)
    flip true = refl
    flip false = refl

    no-1 : (v : ℤ) → pos 0 ≤ℤ (v -ℤ pos 1) → v ≤ℤ pos 0 → ⊥
    no-1 = by_d _ λ _ _. simp ints (omega arith)

    no-2 : (v : ℤ) → (v -ℤ pos 1) <ℤ pos 0 → pos 0 <ℤ v → ⊥
    no-2 = by_d _ λ _ _. simp ints (omega arith)

pub parity-small : (b : Bool) → nat_abs (cond b (pos 0) (pos 1)) ≤ 1
parity-small true = omega arith
parity-small false = omega arith

pub bit-small : (b : Bool) → nat_abs (cond b (pos 1) (pos 0)) ≤ 1
bit-small true = omega arith
bit-small false = omega arith

-- the first entries: 2x and 2y are 2f and 2g, mended by p and q, and w leads from 2f to 2g + 1
first-test : (f g w p q x y : ℤ) → pos 2 *ℤ f +ℤ pos 1 *ℤ w ≡ pos 2 *ℤ g +ℤ pos 1 → pos 2 *ℤ x ≡ pos 2 *ℤ f +ℤ p → pos 2 *ℤ y ≡ pos 2 *ℤ g +ℤ q → le_z x y ≡ lt_z p (w +ℤ q)
first-test f g w p q x y e h k = same_test _ _ (λ u v. no-1 f g w p q x y e h k (le_z-true _ _ u) (lt_z-false _ _ v)) (λ u v. no-2 f g w p q x y e h k (le_z-false _ _ u) (lt_z-true _ _ v))
  where
    no-1 : (f g w p q x y : ℤ) → pos 2 *ℤ f +ℤ pos 1 *ℤ w ≡ pos 2 *ℤ g +ℤ pos 1 → pos 2 *ℤ x ≡ pos 2 *ℤ f +ℤ p → pos 2 *ℤ y ≡ pos 2 *ℤ g +ℤ q → x ≤ℤ y → (w +ℤ q) ≤ℤ p → ⊥
    no-1 = by_d₃ _ λ _ _ _ _ _ _. by_d₄ _ λ _ _ _ _ _ _ _ _. simp ints (omega arith)

    no-2 : (f g w p q x y : ℤ) → pos 2 *ℤ f +ℤ pos 1 *ℤ w ≡ pos 2 *ℤ g +ℤ pos 1 → pos 2 *ℤ x ≡ pos 2 *ℤ f +ℤ p → pos 2 *ℤ y ≡ pos 2 *ℤ g +ℤ q → y <ℤ x → p <ℤ (w +ℤ q) → ⊥
    no-2 = by_d₃ _ λ _ _ _ _ _ _. by_d₄ _ λ _ _ _ _ _ _ _ _. simp ints (omega arith)

-- ---- how large the numbers of the comparison are

pub sign_small : (x : ℤ) → nat_abs (sign x) ≤ 1
sign_small x = go (lt_z (pos 0) x)
  where
    go : (b : Bool) → nat_abs (cond b (pos 1) (negsuc 0)) ≤ 1
    go true = omega arith
    go false = omega arith

-- a mend's cost, with what the code forms on the way
pub four-small : (s : ℤ) → Divisor s → nat_abs (pos 4 *ℤ s) ≤ 2 ^ 16
four-small s h = omega (arith, abs-mul (pos 4) s, h.most)

pub less-small : (s : ℤ) → Divisor s → (k : ℕ) → k ≤ 2 ^ 20 → nat_abs (s -ℤ pos (k / 16)) ≤ 2 ^ 17
less-small s h k l = omega (arith, abs-sub s (pos (k / 16)), h.most)

pub mend-small : (s : ℤ) → Divisor s → (k : ℕ) → k ≤ 2 ^ 20 → nat_abs (pos 4 *ℤ s *ℤ (s -ℤ pos (k / 16))) ≤ 2 ^ 33
mend-small s h k l = omega (arith, abs-mul-le (pos 4 *ℤ s) (s -ℤ pos (k / 16)) (four-small s h) (less-small s h k l))

-- a mend, where that is at most B
module _ (B : ℕ) (s : ℤ) (k : ℕ) (h : nat_abs (pos 4 *ℤ s *ℤ (s -ℤ pos (k / 16))) ≤ B) where
  pub mended-bound : (b : Bool) → (nat_abs (mended s k b).step ≤ 2) × (nat_abs (mended s k b).cost ≤ B)
  unfolding mended
  mended-bound true = (go (ltb (k % 16) 8), h)
    where
      go : (b : Bool) → nat_abs (cond b (pos 2) (negsuc 1)) ≤ 2
      go true = omega arith
      go false = omega arith
  mended-bound false = (omega arith, omega arith)

pub mended-small : (s : ℤ) → Divisor s → (k : ℕ) → k ≤ 2 ^ 20 → (b : Bool) → Small (mended s k b)
mended-small s h k l b = let m = mended-bound (2 ^ 33) s k (mend-small s h k l) b in record { step = m.0; cost = omega (arith, m.1) }

pub first_small : (m : Mend) → nat_abs m.step ≤ 2 → nat_abs (first m) ≤ 2
first_small m h = go (eqb m.place 0)
  where
    go : (b : Bool) → nat_abs (cond b m.step (pos 0)) ≤ 2
    go true = h
    go false = omega arith

module _ (B : ℕ) (a b : ℤ) (x y : Mend) (h : nat_abs a + nat_abs x.cost + (nat_abs b + nat_abs y.cost) ≤ B) where
  pub apart-bound : nat_abs ((a +ℤ x.cost) -ℤ (b +ℤ y.cost)) ≤ B
  apart-bound = omega (arith, abs-sub (a +ℤ x.cost) (b +ℤ y.cost), abs-add a x.cost, abs-add b y.cost)

  pub lead-bound : (w : ℤ) → nat_abs (lead a b x y w) ≤ 1 + 2 * B
  unfolding lead
  lead-bound w = let z : ℤ = (a +ℤ x.cost) -ℤ (b +ℤ y.cost) in let t : Bool = lt_z (first x) (w +ℤ first y) in
      omega (arith, abs-sub (cond t (pos 1) (pos 0)) (pos 2 *ℤ z), abs-mul (pos 2) z, apart-bound, bit-small t)

module _ (a b : ℤ) (x y : Mend) (h : nat_abs a ≤ 2 ^ 40) (l : nat_abs b ≤ 2 ^ 40) (p : Small x) (q : Small y) where
  pub apart-small : nat_abs ((a +ℤ x.cost) -ℤ (b +ℤ y.cost)) ≤ 2 ^ 42
  apart-small = apart-bound (2 ^ 42) a b x y (omega (arith, p.cost, q.cost))

  pub lead-small : (w : ℤ) → nat_abs (lead a b x y w) ≤ 2 ^ 62
  lead-small w = omega (arith, lead-bound (2 ^ 42) a b x y (omega (arith, p.cost, q.cost)) w)

-- ---- the doubled entries

spread-step : (p : ℕ) (x t : ℤ) → pos 2 *ℤ x +ℤ pos p +ℤ pos 2 *ℤ t ≡ pos 2 *ℤ (x +ℤ t) +ℤ pos p
spread-step p = by_d₂ _ λ _ _ _ _. simp ints (omega arith)

-- a step is doubled too
spread-set : (p : ℕ) (f : List ℤ) (j : ℕ) (t : ℤ) → j < length f → set (spread p f) j («at» (spread p f) j +ℤ pos 2 *ℤ t) ≡ spread p (set f j («at» f j +ℤ t))
spread-set p [] j t h = absurd (omega arith)
spread-set p (x ∷ f) zero t h = ap (λ (z : ℤ). z ∷ spread p f) (spread-step p x t)
spread-set p (x ∷ f) (suc j) t h = ap (λ (l : List ℤ). (pos 2 *ℤ x +ℤ pos p) ∷ l) (spread-set p f j t (omega arith))

no_step : (x w : ℤ) → pos 2 *ℤ x +ℤ pos 0 *ℤ w ≡ pos 2 *ℤ x +ℤ pos 0
no_step = by_d₂ _ λ _ _ _ _. simp ints (omega arith)

-- the entries of a half before its mend, where they are so one by one
spread-by : (p : ℤ) (n : ℕ) (f r g : List ℤ) → length g ≡ 8 → ((i : ℕ) → i < 8 → pos 2 *ℤ «at» f i +ℤ p *ℤ sign («at» r i) ≡ pos 2 *ℤ «at» g i +ℤ pos n) → spread_by p f r ≡ spread n g
spread-by p n f r g long e = ext_get_or (pos 0) (spread_by p f r) (spread n g) (sym (length-map g _ ∙ long))
    (λ i h. range_at (λ (i : ℕ). pos 2 *ℤ «at» f i +ℤ p *ℤ sign («at» r i)) 0 8 i (pos 0) h ∙ rw (zero-add i) (e i h) ∙ sym (at_map (λ (y : ℤ). pos 2 *ℤ y +ℤ pos n) g i (omega arith)))

pub spread-small : (p : ℤ) (f r : List ℤ) → nat_abs p ≤ 1 → Bounded (2 ^ 32) f → (j : ℕ) → j < 8 → nat_abs («at» (spread_by p f r) j) ≤ 2 ^ 34
spread-small p f r h k j l = let x : ℤ = «at» f j in let w : ℤ = sign («at» r j) in
    rw (range_at (λ (i : ℕ). pos 2 *ℤ «at» f i +ℤ p *ℤ sign («at» r i)) 0 8 j (pos 0) l, zero-add j)
    (omega (arith, abs-add (pos 2 *ℤ x) (p *ℤ w), abs-mul (pos 2) x, k j, abs-mul-le p w {m = 1} {n = 1} h (sign_small («at» r j))))

-- ---- the choice of the code

module _ (s : ℤ) (s> : pos 0 <ℤ s) (d : List ℤ) (long : length d ≡ 8) where
  abbrev S : ℤ
  S = pos 2 *ℤ s

  abbrev L : List ℤ
  L = lower s 1 d

  abbrev f : List ℤ
  f = map (round S) d

  abbrev a : List ℤ
  a = map (left S) d

  abbrev g : List ℤ
  g = map (round S) L

  abbrev b : List ℤ
  b = map (left S) L

  long_L : length L ≡ 8
  long_L = length-map d _ ∙ long

  abbrev c : Scan
  c = scanned s 8 f a

  abbrev x : Mend
  x = mended s c.most (eqb (par (sum_v f)) 1)

  abbrev y : Mend
  y = mended s (16 * nat_abs s + 15 - c.least) (eqb (par (sum_v g)) 1)

  x-is : even_mend s c ≡ x
  x-is = ap (λ (z : ℤ). mended s c.most (eqb (par z) 1)) (scan-sum s f a 8 ∙ ap sum_v (take_all 8 f (omega (arith, length-map d (round S)))))

  y-is : odd_mend s c ≡ y
  y-is = ap (λ (n : ℕ). mended s (16 * nat_abs s + 15 - c.least) (eqb n 1)) (odd-parity s s> d long)

  costs : (cost S d (nearest_d S d) ≡ c.even +ℤ x.cost) × (cost S L (nearest_d S L) ≡ c.odd +ℤ y.cost)
  costs = (
    mend-cost s s> d long c.most (scan-top s f a) ∙ ap (λ (z : ℤ). z +ℤ x.cost) (sym (scan-even s f a 8 ∙ ap₂ dot a-all a-all)),
    mend-cost s s> L long_L (16 * nat_abs s + 15 - c.least) (odd-top s s> d long) ∙ ap (λ (z : ℤ). z +ℤ y.cost) (sym (scan-odd s f a b (λ i h. (twin-at s s> d long i h).rest) 8 (omega arith) ∙ ap₂ dot b_all b_all)),
  )
    where
      a-all : take 8 a ≡ a
      a-all = take_all 8 a (omega (arith, length-map d (left S)))

      b_all : take 8 b ≡ b
      b_all = take_all 8 b (omega (arith, length-map L (left S), long_L))

  firsts : le_z («at» (nearest_d S d) 0) («at» (nearest_d S L) 0) ≡ lt_z (first x) (sign («at» a 0) +ℤ first y)
  firsts = first-test («at» f 0) («at» g 0) (sign («at» a 0)) (first x) (first y) («at» (nearest_d S d) 0) («at» (nearest_d S L) 0) (twin-at s s> d long 0 (omega arith)).doubled
      (mend-first s s> d long c.most (scan-top s f a)) (mend-first s s> L long_L (16 * nat_abs s + 15 - c.least) (odd-top s s> d long))

  abbrev t : Bool
  t = lt_z (pos 0) (lead c.even c.odd x y (sign («at» a 0)))

  chosen_is : chosen s c (sign («at» a 0)) ≡ choose t x y
  unfolding chosen
  chosen_is = ap₂ (λ (x y : Mend). choose (lt_z (pos 0) (lead c.even c.odd x y (sign («at» a 0)))) x y) x-is y-is

  nearest-is : nearest_point s d ≡ cond t (spread 0 (nearest_d S d)) (spread 1 (nearest_d S L))
  unfolding lead
  nearest-is = nearest-halves s s> d long ∙ ap (λ (u : Bool). cond u (spread 0 (nearest_d S d)) (spread 1 (nearest_d S L)))
      (decides (cost S d (nearest_d S d)) (cost S L (nearest_d S L)) (le_z («at» (nearest_d S d) 0) («at» (nearest_d S L) 0))
      ∙ ap₂ (λ (u : Bool) (z : ℤ). lt_z (pos 0) (cond u (pos 1) (pos 0) -ℤ pos 2 *ℤ z)) firsts (ap₂ ◌-ℤ◌ costs.0 costs.1))

  -- the half of the choice, mended
  abbrev made : Choice → List ℤ
  made h = let e : List ℤ = spread_by h.parity f a in set e h.place («at» e h.place +ℤ h.step)

  place-small : (b : Bool) → (choose b x y).place < 8
  unfolding mended
  place-small true = (top-place (scan-top s f a)).within
  place-small false = (top-place (odd-top s s> d long)).within

  made-is : (b : Bool) → made (choose b x y) ≡ cond b (spread 0 (nearest_d S d)) (spread 1 (nearest_d S L))
  made-is true = let n = mend-nearest s s> d long c.most (scan-top s f a) in
      ap₂ (λ (e : List ℤ) (t : ℤ). set e x.place («at» e x.place +ℤ t)) (spread-by (pos 0) 0 f a f (length-map d _ ∙ long) (λ i h. no_step («at» f i) (sign («at» a i)))) n.1
      ∙ spread-set 0 f x.place n.0 (omega (arith, place-small true, length-map d (round S))) ∙ ap (spread 0) n.2
  made-is false = let n = mend-nearest s s> L long_L (16 * nat_abs s + 15 - c.least) (odd-top s s> d long) in
      ap₂ (λ (e : List ℤ) (t : ℤ). set e y.place («at» e y.place +ℤ t)) (spread-by (pos 1) 1 f a g (length-map L _ ∙ long_L) (λ i h. (twin-at s s> d long i h).doubled)) n.1
      ∙ spread-set 1 g y.place n.0 (omega (arith, place-small false, length-map L (round S), long_L)) ∙ ap (spread 1) n.2

  -- how large its numbers are
  pub chosen-small : Divisor s → Ranged s c → let h = chosen s c (sign («at» a 0)) in (nat_abs h.parity ≤ 1) × (h.place < 8) × (nat_abs h.step ≤ 2)
  chosen-small h k = rw chosen_is (go t)
    where
      go : (b : Bool) → (nat_abs (choose b x y).parity ≤ 1) × ((choose b x y).place < 8) × (nat_abs (choose b x y).step ≤ 2)
      go true = (omega arith, place-small true, (mended-small s h c.most k.most (eqb (par (sum_v f)) 1)).step)
      go false = (omega arith, place-small false, (mended-small s h (16 * nat_abs s + 15 - c.least) (omega (arith, h.most)) (eqb (par (sum_v g)) 1)).step)

  -- it is the nearest point
  pub nearest_point-code : made (chosen s c (sign («at» a 0))) ≡ nearest_point s d
  nearest_point-code = ap made chosen_is ∙ made-is t ∙ sym nearest-is
