-- The nearest point in narrow numbers: three comparisons round, every number is small, and what is left is d less s times the nearest point.
use Rattle.std.specs.Prelude.{◌≡◌, refl, Bool, true, false, cond, List, [], ◌∷◌, map, eqb, pos, neg_ℤ, ◌+ℤ◌, ◌-ℤ◌, ◌*ℤ◌, length, set, ◌≤ℤ◌, ◌<ℤ◌}
use Rattle.std.proofs.Common.{sym, ◌∙◌, ap, subst, zero-add, eqb-true, length-set, ext_get_or, get_or-set_same, get_or-set_other}
use Prim.Native.Nat.{ℕ, zero, suc, ◌+◌, ◌*◌, ◌/◌, ◌<◌, ◌≤◌}
use native.Mathlib.Omega.{arith}
use Rattle.std.proofs.lemmas.Bool.{eqb-false}
use Rattle.std.proofs.Math.IntN.{ℤ, nat_abs, +ℤ_idr}
use Rattle.std.proofs.lemmas.List.{length-map}
use Rattle.std.specs.Int.Signed.{lt_z}
use Rattle.integers.specs.Laws.Difference.{ints, by_d₂, by_d₃}
use Rattle.integers.specs.Laws.Loops.{range_at}
use Rattle.integers.specs.Laws.Sizes.{abs-add, abs-sub, abs-mul, abs-mul-le, lt_z-true, lt_z-false}
use Rattle.integers.specs.Laws.Sums.{entries, lengths, at_map}
use Rattle.integers.specs.Vectors.{square, «at», sub_v, scale_v, Bounded, Sized}
use Rattle.lattice.specs.Computed.{nearest_point}
use Rattle.rounding.proofs.Laws.Choice.{mended-bound, nearest_point-code}
use Rattle.rounding.specs.Laws.Keys.{key-small}
use Rattle.rounding.proofs.Laws.Lowered.{lowered-small}
use Rattle.rounding.proofs.Laws.Reciprocals.{twice-pos, round_is, left-small}
use Rattle.columns.specs.Narrow.{Few, Near, Narrow, Part, Slim, Slender, Slight, brief, left_at, left_by}
use Rattle.rounding.specs.Pass.{Scan, Mend, Choice, seen, scanned, scanned_from, mended, choose, chosen, spread_by}
use Rattle.rounding.specs.Rounding.{round, left, sign, lowered, key, Divisor}

pub few-divisor : {s : ℤ} → Few s → Divisor s
few-divisor h = record { least = h.least; most = omega (arith, h.most) }

pub narrow-few : {s : ℤ} {d : List ℤ} → Narrow s d → Few s
narrow-few h = record { least = h.least; most = h.most }

pub narrow-near : {s : ℤ} {d : List ℤ} → Narrow s d → (i : ℕ) → i < 8 → Near s («at» d i)
narrow-near h i l = record { low = h.low i l; high = h.high i l }

-- ---- the rounding

-- what a test says
abbrev Told : Bool → ℤ → ℤ → Type 0
Told true a b = a <ℤ b
Told false a b = b ≤ℤ a

told : (a b : ℤ) → Told (lt_z a b) a b
told a b = go (lt_z a b) refl
  where
    go : (t : Bool) → lt_z a b ≡ t → Told t a b
    go true e = lt_z-true a b e
    go false e = lt_z-false a b e

abbrev bit : Bool → ℤ
bit b = cond b (pos 1) (pos 0)

-- where x lies above s, above 3 s, below 1 - s, or not
middle : (u v w : Bool) (s x : ℤ) → pos 1 ≤ℤ s → (neg_ℤ (pos 3 *ℤ s)) <ℤ x → x ≤ℤ (pos 5 *ℤ s) → Told u s x → Told v (pos 3 *ℤ s) x → Told w x (pos 1 -ℤ s)
    → (neg_ℤ (pos 2 *ℤ s) <ℤ (pos 2 *ℤ (x -ℤ pos 2 *ℤ s *ℤ (bit u +ℤ bit v -ℤ bit w)))) × ((pos 2 *ℤ (x -ℤ pos 2 *ℤ s *ℤ (bit u +ℤ bit v -ℤ bit w))) ≤ℤ (pos 2 *ℤ s))
middle true true true = by_d₂ _ λ _ _ _ _. simp ints (omega arith)
middle true true false = by_d₂ _ λ _ _ _ _. simp ints (omega arith)
middle true false true = by_d₂ _ λ _ _ _ _. simp ints (omega arith)
middle true false false = by_d₂ _ λ _ _ _ _. simp ints (omega arith)
middle false true true = by_d₂ _ λ _ _ _ _. simp ints (omega arith)
middle false true false = by_d₂ _ λ _ _ _ _. simp ints (omega arith)
middle false false true = by_d₂ _ λ _ _ _ _. simp ints (omega arith)
middle false false false = by_d₂ _ λ _ _ _ _. simp ints (omega arith)

-- three comparisons round
pub round-three : (s x : ℤ) → Few s → Near s x → bit (lt_z s x) +ℤ bit (lt_z (pos 3 *ℤ s) x) -ℤ bit (lt_z x (pos 1 -ℤ s)) ≡ round (pos 2 *ℤ s) x
round-three s x h k =
    let m = middle (lt_z s x) (lt_z (pos 3 *ℤ s) x) (lt_z x (pos 1 -ℤ s)) s x h.least k.low k.high (told s x) (told (pos 3 *ℤ s) x) (told x (pos 1 -ℤ s)) in
    round_is (pos 2 *ℤ s) x _ (twice-pos s h.least).0 m.0 m.1

-- ---- the sizes

-- what holds of every entry made holds of the vector
map-bound : (f : ℤ → ℤ) (B : ℕ) (a : List ℤ) → ((i : ℕ) → i < length a → nat_abs (f («at» a i)) ≤ B) → Bounded B (map f a)
map-bound f B [] g i = omega arith
map-bound f B (x ∷ a) g zero = g 0 (omega arith)
map-bound f B (x ∷ a) g (suc i) = map-bound f B a (λ j l. g (suc j) (omega arith)) i

pub near-small : (s x : ℤ) → Few s → Near s x → nat_abs x ≤ 80
near-small s x h k = go s x h.least h.most k.low k.high
  where
    go : (s x : ℤ) → pos 1 ≤ℤ s → nat_abs s ≤ 16 → (neg_ℤ (pos 3 *ℤ s)) <ℤ x → x ≤ℤ (pos 5 *ℤ s) → nat_abs x ≤ 80
    go = by_d₂ _ λ _ _ _ _. simp ints (omega arith)

pub round-few : (s x : ℤ) → Few s → Near s x → nat_abs (round (pos 2 *ℤ s) x) ≤ 2
round-few s x h k = subst (λ (z : ℤ). nat_abs z ≤ 2) (round-three s x h k) (go (lt_z s x) (lt_z (pos 3 *ℤ s) x) (lt_z x (pos 1 -ℤ s)))
  where
    go : (u v w : Bool) → nat_abs (bit u +ℤ bit v -ℤ bit w) ≤ 2
    go true true true = omega arith
    go true true false = omega arith
    go true false true = omega arith
    go true false false = omega arith
    go false true true = omega arith
    go false true false = omega arith
    go false false true = omega arith
    go false false false = omega arith

module _ {s : ℤ} {d : List ℤ} (h : Narrow s d) where
  pub rounds-few : Sized 8 2 (map (round (pos 2 *ℤ s)) d)
  rounds-few = record { long = length-map d (round (pos 2 *ℤ s)) ∙ h.long; small = map-bound (round (pos 2 *ℤ s)) 2 d (λ i l. round-few s («at» d i) (narrow-few h) (narrow-near h i (omega (arith, h.long)))) }

  pub lefts-few : Sized 8 (nat_abs s) (map (left (pos 2 *ℤ s)) d)
  lefts-few = record { long = length-map d (left (pos 2 *ℤ s)) ∙ h.long; small = map-bound (left (pos 2 *ℤ s)) (nat_abs s) d (λ i l. left-small s (few-divisor (narrow-few h)) («at» d i)) }

pub part-slim : {R n : ℕ} {c : Scan} → n ≤ 8 → Part R n c → Slim c
part-slim l p = record { keys = omega (arith, p.keys); sum = omega (arith, p.sum); even = omega (arith, p.even); odd = omega (arith, p.odd) }

module _ (s : ℤ) (h : Few s) where
  pub four-few : nat_abs (pos 4 *ℤ s) ≤ 64
  four-few = omega (arith, abs-mul (pos 4) s, h.most)

  pub less-few : (k : ℕ) → k ≤ 271 → nat_abs (s -ℤ pos (k / 16)) ≤ 32
  less-few k l = omega (arith, abs-sub s (pos (k / 16)), h.most)

  pub mend-few : (k : ℕ) → k ≤ 271 → nat_abs (pos 4 *ℤ s *ℤ (s -ℤ pos (k / 16))) ≤ 2048
  mend-few k l = abs-mul-le (pos 4 *ℤ s) (s -ℤ pos (k / 16)) four-few (less-few k l)

  pub mended-slight : (k : ℕ) → k ≤ 271 → (b : Bool) → Slight (mended s k b)
  mended-slight k l b = let m = mended-bound 2048 s k (mend-few k l) b in record { step = m.0; cost = m.1 }

  -- a pass over some entries
  module _ (R : ℕ) (most : R ≤ 16) (f r : List ℤ) (hf : Bounded 2 f) (hr : Bounded R r) where
    key-few : (i : ℕ) → i < 8 → key i («at» r i) ≤ 16 * R + 15
    key-few i l = omega (arith, (key-small i («at» r i) l).1, hr i)

    pub scan-part : (k n : ℕ) → k < 8 → k + n ≤ 8 → Part R n (scanned_from s k n f r)
    unfolding scanned_from
    scan-part k zero k< l = record { most = key-few k k<; least = key-few k k<; keys = omega arith; sum = omega arith; even = omega arith; odd = omega arith }
    scan-part k (suc n) k< l =
        let p = scan-part k n k< (omega arith) in let c : Scan = scanned_from s k n f r in let i : ℕ = k + n in let x : ℤ = «at» r i in let y : ℤ = lowered s x in
        let x≤ : nat_abs x ≤ 16 = omega (arith, hr i) in let y≤ : nat_abs y ≤ 32 = omega (arith, lowered-small s x, h.most) in let m = key-few i (omega arith) in
        record {
          most = omega (arith, p.most, m);
          least = omega (arith, p.least, m);
          keys = omega (arith, p.keys, m);
          sum = omega (arith, p.sum, abs-add c.sum («at» f i), hf i);
          even = omega (arith, p.even, abs-add c.even (square x), abs-mul-le x x x≤ x≤);
          odd = omega (arith, p.odd, abs-add c.odd (square y), abs-mul-le y y y≤ y≤);
        }

  pub part-slender : {c : Scan} → Part (nat_abs s) 8 c → Slender s c
  part-slender p = record { most = omega (arith, p.most, h.most); least = p.least; slim = part-slim (omega arith) p }

-- from the first entry on
pub from_first : (s : ℤ) (n : ℕ) (f r : List ℤ) → scanned_from s 0 n f r ≡ scanned s n f r
unfolding scanned_from scanned
from_first s zero f r = refl
from_first s (suc n) f r = rw (zero-add n) (ap (λ (c : Scan). seen s c («at» f n) («at» r n) n) (from_first s n f r))

-- ---- what is left

-- the choice of a half, field by field
pub brief-choose : (t : Bool) (x y : Mend) → record { parity = cond t (pos 0) (pos 1); place = cond t x.place y.place; step = cond t x.step y.step } ≡ brief (choose t x y)
brief-choose true x y = refl
brief-choose false x y = refl

-- a step at the entry j is one added where the index is j
at-step : (e : List ℤ) (j i : ℕ) (t : ℤ) → i < length e → «at» (set e j («at» e j +ℤ t)) i ≡ «at» e i +ℤ cond (eqb i j) t (pos 0)
at-step e j i t h = go (eqb i j) refl
  where
    go : (b : Bool) → eqb i j ≡ b → «at» (set e j («at» e j +ℤ t)) i ≡ «at» e i +ℤ cond b t (pos 0)
    go true p = let q : i ≡ j = eqb-true i j p in subst (λ (k : ℕ). «at» (set e k («at» e k +ℤ t)) i ≡ «at» e i +ℤ t) q (get_or-set_same e i («at» e i +ℤ t) (pos 0) h)
    go false p = get_or-set_other e j i («at» e j +ℤ t) (pos 0) (eqb-false i j p) ∙ sym (+ℤ_idr («at» e i))

-- x less 2 s f is left of x; of that, s times the half's way and its step
leaves : (s f x p t : ℤ) → x -ℤ pos 2 *ℤ s *ℤ f -ℤ s *ℤ (p +ℤ t) ≡ x +ℤ neg_ℤ (s *ℤ (pos 2 *ℤ f +ℤ p +ℤ t))
leaves = by_d₃ _ λ _ _ _ _ _ _. by_d₂ _ λ _ _ _ _. simp ints (omega arith)

module _ (s : ℤ) (s> : pos 0 <ℤ s) (d : List ℤ) (long : length d ≡ 8) where
  abbrev S : ℤ
  S = pos 2 *ℤ s

  abbrev f : List ℤ
  f = map (round S) d

  abbrev a : List ℤ
  a = map (left S) d

  abbrev h : Choice
  h = chosen s (scanned s 8 f a) (sign («at» a 0))

  abbrev e : List ℤ
  e = spread_by h.parity f a

  abbrev p : List ℤ
  p = set e h.place («at» e h.place +ℤ h.step)

  spread_at : (i : ℕ) → i < 8 → «at» e i ≡ pos 2 *ℤ round S («at» d i) +ℤ h.parity *ℤ sign («at» a i)
  spread_at i l = range_at (λ (i : ℕ). pos 2 *ℤ «at» f i +ℤ h.parity *ℤ sign («at» a i)) 0 8 i (pos 0) l
      ∙ rw (zero-add i) (ap (λ (x : ℤ). pos 2 *ℤ x +ℤ h.parity *ℤ sign («at» a i)) (at_map (round S) d i (omega arith)))

  entry : (i : ℕ) → i < 8 → left_at s (brief h) a i ≡ «at» (sub_v d (scale_v s p)) i
  entry i l = let t : ℤ = cond (eqb i h.place) h.step (pos 0) in let w : ℤ = h.parity *ℤ sign («at» a i) in
      ap (λ (x : ℤ). x -ℤ s *ℤ (w +ℤ t)) (at_map (left S) d i (omega arith)) ∙ leaves s (round S («at» d i)) («at» d i) w t
      ∙ ap (λ (x : ℤ). «at» d i +ℤ neg_ℤ (s *ℤ x)) (sym (at-step e h.place i h.step (omega arith) ∙ ap (λ (x : ℤ). x +ℤ t) (spread_at i l)))
      ∙ sym (simp entries)

  pub rest-code : left_by s (brief h) a ≡ sub_v d (scale_v s (nearest_point s d))
  rest-code = ext_get_or (pos 0) (left_by s (brief h) a) (sub_v d (scale_v s p)) (simp lengths (omega (arith, long, length-set e h.place («at» e h.place +ℤ h.step))))
      (λ i l. range_at (left_at s (brief h) a) 0 8 i (pos 0) l ∙ rw (zero-add i) (entry i l))
      ∙ ap (λ (p : List ℤ). sub_v d (scale_v s p)) (nearest_point-code s s> d long)
