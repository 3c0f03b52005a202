-- The pass in numbers of either width: how large what it forms is, and what its lists and choices stand for.
use Rattle.std.specs.Prelude.{◌≡◌, refl, Bool, true, false, cond, List, map, ℕ, zero, suc, ◌+◌, ◌*◌, ◌/◌, ◌<◌, ◌≤◌, ℤ, pos, nat_abs, ◌+ℤ◌, ◌-ℤ◌, ◌*ℤ◌, ◌≤ℤ◌}
use Rattle.std.proofs.Common.{sym, ◌∙◌, ap, zero-add, get_or, add-one, arith}
use Rattle.std.proofs.Math.Nat.{mul-le-mul_right}
use Rattle.std.proofs.Math.Path.{ap₂}
use Rattle.std.proofs.lemmas.List.{length-map}
use Rattle.integers.specs.Laws.Difference.{abs-D, by_d, ints}
use Rattle.integers.specs.Laws.Loops.{map_at}
use Rattle.integers.specs.Laws.Sizes.{abs-add, abs-sub, abs-mul, abs-mul-le}
use Rattle.integers.specs.Vectors.{square, «at», Bounded, Sized}
use Rattle.rounding.specs.Laws.Keys.{key-small}
use Rattle.rounding.proofs.Laws.Choice.{mended-bound}
use Rattle.rounding.proofs.Laws.Lowered.{lowered-small}
use Rattle.rounding.specs.Pass.{Scan, Mend, Choice, Fair, Ready, Mild, seen, scanned, scanned_from, mended, choose}
use Rattle.rounding.specs.Rounding.{lowered, key}

-- what stands for a choice is the choice of what stands for the two
pub of_cond : {A B : Type 0} (f : A → B) (b : Bool) (x y : A) {z : A} → z ≡ cond b x y → f z ≡ cond b (f x) (f y)
of_cond f true x y e = ap f e
of_cond f false x y e = ap f e

-- an entry of what stands for eight values
module _ {A : Type 0} (f : A → ℤ) (B : ℕ) (l : List A) (h : Sized 8 B (map f l)) (d : A) (i : ℕ) (i< : i < 8) where
  pub entry-is : f (get_or l i d) ≡ «at» (map f l) i
  entry-is = sym (map_at f l i d (pos 0) (omega (arith, h.long, length-map l f)))

  pub entry-small : nat_abs (f (get_or l i d)) ≤ B
  entry-small = rw entry-is (h.small i)

-- the square of what the odd half leaves
pub square-room : (S : ℕ) (s a b : ℤ) → nat_abs s ≤ S → nat_abs a ≤ S → b ≡ lowered s a → nat_abs (b *ℤ b) ≤ 4 * (S * S)
square-room S s a b h k e = let l : nat_abs b ≤ 2 * S = rw e (omega (arith, lowered-small s a)) in omega (arith, abs-mul-le b b l l)

-- what a step adds to the cost
module _ (S : ℕ) (s : ℤ) (k : ℕ) (h : nat_abs s ≤ S) (l : k ≤ 16 * S + 15) where
  pub cost-room : nat_abs (pos 4 *ℤ s *ℤ (s -ℤ pos (k / 16))) ≤ 8 * (S * S)
  cost-room = let p : nat_abs (pos 4 *ℤ s) ≤ 4 * S = omega (arith, abs-mul (pos 4) s) in let q : nat_abs (s -ℤ pos (k / 16)) ≤ 2 * S = omega (arith, abs-sub s (pos (k / 16))) in
      omega (arith, abs-mul-le (pos 4 *ℤ s) (s -ℤ pos (k / 16)) p q)

  pub mended-mild : (b : Bool) → Mild S (mended s k b)
  mended-mild b = let m = mended-bound (8 * (S * S)) s k cost-room b in record { step = m.0; cost = m.1 }

-- n entries, where none leaves more than R
record Partly (S W R n : ℕ) (c : Scan) : Type 0 where
  most : c.most ≤ 16 * R + 15
  least : c.least ≤ 16 * R + 15
  keys : c.keys ≤ n * (16 * S + 15)
  sum : nat_abs c.sum ≤ n * W
  even : nat_abs c.even ≤ n * (S * S)
  odd : nat_abs c.odd ≤ n * (4 * (S * S))

module _ (S W : ℕ) (s : ℤ) (h : nat_abs s ≤ S) (R : ℕ) (R≤ : R ≤ S) (f r : List ℤ) (hf : Bounded W f) (hr : Bounded R r) (k : ℕ) (k< : k < 8) where
  key-room : (i : ℕ) → i < 8 → key i («at» r i) ≤ 16 * R + 15
  key-room i l = omega (arith, (key-small i («at» r i) l).1, hr i)

  partly : (n : ℕ) → k + n ≤ 8 → Partly S W R n (scanned_from s k n f r)
  unfolding scanned_from
  partly zero l = record { most = key-room k k<; least = key-room k k<; keys = omega arith; sum = omega arith; even = omega arith; odd = omega arith }
  partly (suc n) l =
      let p = partly n (omega arith) in let c : Scan = scanned_from s k n f r in let i : ℕ = k + n in let x : ℤ = «at» r i in let y : ℤ = lowered s x in
      let m = key-room i (omega arith) in let x≤ : nat_abs x ≤ S = omega (arith, hr i) in
      record {
        most = omega (arith, p.most, m);
        least = omega (arith, p.least, m);
        keys = omega (arith, p.keys, m);
        sum = omega (arith, p.sum, abs-add c.sum («at» f i), hf i);
        even = omega (arith, p.even, abs-add c.even (square x), abs-mul-le x x x≤ x≤);
        odd = omega (arith, p.odd, abs-add c.odd (square y), square-room S s x y h x≤ refl);
      }

  pub scan-fair : (n : ℕ) → k + n ≤ 8 → Fair S W (scanned_from s k n f r)
  scan-fair n l = let p = partly n l in let n≤ : n ≤ 8 = omega arith in record {
    keys = omega (arith, p.keys, mul-le-mul_right (16 * S + 15) n≤);
    sum = omega (arith, p.sum, mul-le-mul_right (W) n≤);
    even = omega (arith, p.even, mul-le-mul_right (S * S) n≤);
    odd = omega (arith, p.odd, mul-le-mul_right (4 * (S * S)) n≤);
  }

pub scan-ready : (S W : ℕ) (s : ℤ) → nat_abs s ≤ S → (f r : List ℤ) → Bounded W f → Bounded (nat_abs s) r → Ready S W s (scanned_from s 0 8 f r)
scan-ready S W s h f r hf hr = let p = partly S W s h (nat_abs s) h f r hf hr 0 (omega arith) 8 (omega arith) in
    record { most = omega (arith, p.most); least = p.least; fair = scan-fair S W s h (nat_abs s) h f r hf hr 0 (omega arith) 8 (omega arith) }

-- from the first entry on
pub from_first : (s : ℤ) (n : ℕ) (f r : List ℤ) → scanned_from s 0 n f r ≡ scanned s n f r
unfolding scanned_from scanned
from_first s zero f r = refl
from_first s (suc n) f r = rw (zero-add n) (ap (λ (c : Scan). seen s c («at» f n) («at» r n) n) (from_first s n f r))

-- one entry more
pub seen_next : (s : ℤ) (k n : ℕ) (f r : List ℤ) {c d : Scan} {x y : ℤ} → c ≡ scanned_from s k n f r → x ≡ «at» f (k + n) → y ≡ «at» r (k + n) → d ≡ seen s c x y (k + n) → d ≡ scanned_from s k (n + 1) f r
unfolding scanned_from
seen_next s k n f r {c} {d} {x} {y} e p q h = rw (add-one n) (h ∙ ap (λ (b : Scan). seen s b x y (k + n)) e ∙ ap₂ (λ (u v : ℤ). seen s (scanned_from s k n f r) u v (k + n)) p q)

-- the greatest key that the keys of the odd half are taken from
pub all_keys : (s : ℤ) → pos 1 ≤ℤ s → nat_abs (pos 16 *ℤ s +ℤ pos 15) ≡ 16 * nat_abs s + 15
all_keys = by_d _ λ _ _. simp (ints, abs-D) (omega arith)

-- the choice, field by field
pub choice-is : {t u : Bool} {x y X Y : Mend} {p q : ℤ} {j : ℕ} → p ≡ cond t (pos 0) (pos 1) → j ≡ cond t x.place y.place → q ≡ cond t x.step y.step → t ≡ u → x ≡ X → y ≡ Y → ◌≡◌ {A = Choice} (record { parity = p; place = j; step = q }) (choose u X Y)
choice-is {t} {u} {x} {y} {X} {Y} a b c e h k = rw (a, b, c) (ap (λ (w : Bool). choose w x y) e ∙ ap₂ (choose u) h k)
