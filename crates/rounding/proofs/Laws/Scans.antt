-- What one pass has seen: the largest key of the even half and of the odd one, the sums, the squares and the parities.
use Rattle.std.specs.Prelude.{◌≡◌, List, map, pos, ◌+ℤ◌, ◌-ℤ◌, ◌*ℤ◌, length, take, ◌<ℤ◌}
use Rattle.std.proofs.Math.Path.{refl, sym, ap, ap₂}
use Rattle.std.proofs.Common.{◌∙◌, mul-le-mul, take_all}
use Prim.Native.Nat.{ℕ, zero, suc, ◌+◌, ◌*◌, ◌-◌, ◌%◌, ◌^◌, ◌<◌, ◌≤◌}
use native.Mathlib.Omega.{arith}
use Rattle.std.proofs.Math.Decide.{dec_le}
use Rattle.std.proofs.Math.IntN.{ℤ, nat_abs}
use Rattle.std.proofs.lemmas.List.{length-map}
use Rattle.integers.specs.Laws.Difference.{ints, by_d₄}
use Rattle.integers.specs.Laws.Sizes.{abs-add, abs-mul-le}
use Rattle.integers.specs.Laws.Sums.{at_map, sum-take-suc, dot-take-suc, sum_bound, dot-bound}
use Rattle.integers.specs.Vectors.{square, «at», sum_v, dot, Bounded}
use Rattle.lattice.specs.Computed.{lower}
use Rattle.lattice.specs.Doubled.{par}
use Rattle.rounding.specs.Laws.Keys.{Top, key-small}
use Rattle.rounding.proofs.Laws.Lowered.{Twin, twins, lowered-small}
use Rattle.lattice.specs.Laws.Parity.{par-add}
use Rattle.rounding.specs.Pass.{Light, Ranged, scanned}
use Rattle.rounding.specs.Rounding.{round, left, lowered, Divisor, key}

module _ (s : ℤ) (f r : List ℤ) where
  pub scan-sum : (n : ℕ) → (scanned s n f r).sum ≡ sum_v (take n f)
  unfolding scanned
  scan-sum zero = refl
  scan-sum (suc n) = ap (λ (t : ℤ). t +ℤ «at» f n) (scan-sum n) ∙ sym (sum-take-suc f n)

  pub scan-even : (n : ℕ) → (scanned s n f r).even ≡ dot (take n r) (take n r)
  unfolding scanned
  scan-even zero = refl
  scan-even (suc n) = ap (λ (t : ℤ). t +ℤ square («at» r n)) (scan-even n) ∙ sym (dot-take-suc r r n)

  -- and of b, where the odd half leaves b
  pub scan-odd : (b : List ℤ) → ((i : ℕ) → i < 8 → lowered s («at» r i) ≡ «at» b i) → (n : ℕ) → n ≤ 8 → (scanned s n f r).odd ≡ dot (take n b) (take n b)
  unfolding scanned
  scan-odd b e zero h = refl
  scan-odd b e (suc n) h = ap₂ (λ (t x : ℤ). t +ℤ square x) (scan-odd b e n (omega arith)) (e n (omega arith)) ∙ sym (dot-take-suc b b n)

  pub scan-most : (n : ℕ) → n ≤ 8 → ((i : ℕ) → i < n → key i («at» r i) ≤ (scanned s n f r).most) × ((j : ℕ) × (j < 8) × ((scanned s n f r).most ≡ key j («at» r j)))
  unfolding scanned
  scan-most zero h = (λ i l. absurd (omega arith), (0, omega arith, refl))
  scan-most (suc n) h = let t = scan-most n (omega arith) in let m = (scanned s n f r).most in let k = key n («at» r n) in (
    λ i l. elim (dec_le (suc i) n) [ yes z ↦ omega (arith, t.0 i z) | no z ↦ let e : i ≡ n = omega arith in rw e (omega arith) ],
    elim (dec_le k m) [ yes z ↦ (t.1.0, t.1.1, omega (arith, t.1.2)) | no z ↦ (n, omega arith, omega arith) ],
  )

  pub scan-least : (n : ℕ) → n ≤ 8 → ((i : ℕ) → i < n → (scanned s n f r).least ≤ key i («at» r i)) × ((j : ℕ) × (j < 8) × ((scanned s n f r).least ≡ key j («at» r j)))
  unfolding scanned
  scan-least zero h = (λ i l. absurd (omega arith), (0, omega arith, refl))
  scan-least (suc n) h = let t = scan-least n (omega arith) in let m = (scanned s n f r).least in let k = key n («at» r n) in (
    λ i l. elim (dec_le (suc i) n) [ yes z ↦ omega (arith, t.0 i z) | no z ↦ let e : i ≡ n = omega arith in rw e (omega arith) ],
    elim (dec_le m k) [ yes z ↦ (t.1.0, t.1.1, omega (arith, t.1.2)) | no z ↦ (n, omega arith, omega arith) ],
  )

  -- how large the sums are
  module _ (F R : ℕ) (hf : Bounded F f) (hr : Bounded R r) where
    pub keys-bound : (n : ℕ) → n ≤ 8 → (scanned s n f r).keys ≤ n * (16 * R + 15)
    unfolding scanned
    keys-bound zero h = omega arith
    keys-bound (suc n) h = omega (arith, keys-bound n (omega arith), (key-small n («at» r n) (omega arith)).1, hr n)

    pub sum-bounded : (n : ℕ) → nat_abs (scanned s n f r).sum ≤ n * F
    sum-bounded n = rw (scan-sum n) (sum_bound F f hf n)

    pub even-bound : (n : ℕ) → nat_abs (scanned s n f r).even ≤ n * (R * R)
    even-bound n = rw (scan-even n) (dot-bound R R r r hr hr n)

    pub odd-bound : (n : ℕ) → nat_abs (scanned s n f r).odd ≤ n * ((R + nat_abs s) * (R + nat_abs s))
    unfolding scanned
    odd-bound zero = omega arith
    odd-bound (suc n) = let x : ℤ = lowered s («at» r n) in let l : nat_abs x ≤ R + nat_abs s = omega (arith, lowered-small s («at» r n), hr n) in
        omega (arith, odd-bound n, abs-add (scanned s n f r).odd (square x), abs-mul-le x x l l)

  pub scan-light : Divisor s → Bounded (2 ^ 32) f → Bounded (2 ^ 14) r → (n : ℕ) → n ≤ 8 → Light (scanned s n f r)
  scan-light h hf hr n l = record {
    keys = omega (arith, keys-bound (2 ^ 32) (2 ^ 14) hf hr n l);
    sum = omega (arith, sum-bounded (2 ^ 32) (2 ^ 14) hf hr n);
    even = omega (arith, even-bound (2 ^ 32) (2 ^ 14) hf hr n);
    odd = let m : 2 ^ 14 + nat_abs s ≤ 2 ^ 15 = omega (arith, h.most) in omega (arith, odd-bound (2 ^ 32) (2 ^ 14) hf hr n, mul-le-mul m m, mul-le-mul l (mul-le-mul m m));
  }

  pub scan-top : Top r (scanned s 8 f r).most
  scan-top = let t = scan-most 8 (omega arith) in record { most = t.0; one = t.1 }

-- 0 + 1 + .. + (n - 1)
abbrev tri : ℕ → ℕ
tri zero = 0
tri (suc n) = tri n + n

swap : (F x G y : ℤ) → F +ℤ x +ℤ (G +ℤ y) ≡ F +ℤ G +ℤ (x +ℤ y)
swap = by_d₄ _ λ _ _ _ _ _ _ _ _. simp ints (omega arith)

-- both halves of d: f leaves a, and g, of d less s, leaves b
module _ (s : ℤ) (s> : pos 0 <ℤ s) (d : List ℤ) (long : length d ≡ 8) where
  abbrev S : ℤ
  S = pos 2 *ℤ s

  abbrev f : List ℤ
  f = map (round S) d

  abbrev a : List ℤ
  a = map (left S) d

  abbrev g : List ℤ
  g = map (round S) (lower s 1 d)

  abbrev b : List ℤ
  b = map (left S) (lower s 1 d)

  pub twin-at : (i : ℕ) → i < 8 → Twin s i («at» f i) («at» a i) («at» g i) («at» b i)
  twin-at i h =
      let l : i < length d = omega arith in let m : i < length (lower s 1 d) = omega (arith, length-map d (λ (x : ℤ). x -ℤ s *ℤ pos 1)) in let e = at_map (λ (x : ℤ). x -ℤ s *ℤ pos 1) d i l in
      rw (at_map (round S) d i l, at_map (left S) d i l, at_map (round S) (lower s 1 d) i m, at_map (left S) (lower s 1 d) i m, e) (twins s s> i h («at» d i))

  -- the odd half's largest key
  pub odd-top : Top b (16 * nat_abs s + 15 - (scanned s 8 f a).least)
  odd-top = let t = scan-least s f a 8 (omega arith) in record {
    most = λ i h. omega (arith, t.0 i h, (twin-at i h).both);
    one = (t.1.0, t.1.1, omega (arith, t.1.2, (twin-at t.1.0 t.1.1).both));
  }

  -- its parity
  scan-par : (n : ℕ) → n ≤ 8 → (par (sum_v (take n f) +ℤ sum_v (take n g)) + (scanned s n f a).keys + tri n) % 2 ≡ 0
  unfolding scanned
  scan-par zero h = refl
  scan-par (suc n) h = let F : ℤ = sum_v (take n f) in let G : ℤ = sum_v (take n g) in let x : ℤ = «at» f n in let y : ℤ = «at» g n in
      rw (sum-take-suc f n, sum-take-suc g n, swap F x G y) (omega (arith, par-add (F +ℤ G) (x +ℤ y), scan-par n (omega arith), (twin-at n (omega arith)).parity))

  pub odd-parity : par ((scanned s 8 f a).sum +ℤ pos (scanned s 8 f a).keys) ≡ par (sum_v g)
  odd-parity = let k : ℕ = (scanned s 8 f a).keys in
      let F : sum_v (take 8 f) ≡ sum_v f = ap sum_v (take_all 8 f (omega (arith, length-map d (round S)))) in
      let G : sum_v (take 8 g) ≡ sum_v g = ap sum_v (take_all 8 g (omega (arith, length-map d (λ (x : ℤ). x -ℤ s *ℤ pos 1), length-map (lower s 1 d) (round S)))) in
      rw (scan-sum s f a 8, F) (omega (arith, par-add (sum_v f) (pos k), par-add (sum_v f) (sum_v g), rw (F, G) at (scan-par 8 (omega arith))))

-- all of it is small
pub scan-ranged : (s : ℤ) (f r : List ℤ) → Divisor s → Bounded (2 ^ 32) f → Bounded (nat_abs s) r → Ranged s (scanned s 8 f r)
scan-ranged s f r h hf hr = let m = (scan-most s f r 8 (omega arith)).1 in let l = (scan-least s f r 8 (omega arith)).1 in record {
  most = omega (arith, m.2, (key-small m.0 («at» r m.0) m.1).1, hr m.0, h.most);
  least = omega (arith, l.2, (key-small l.0 («at» r l.0) l.1).1, hr l.0);
  light = scan-light s f r h hf (λ i. omega (arith, hr i, h.most)) 8 (omega arith);
}
