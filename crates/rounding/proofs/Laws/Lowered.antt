-- The odd half from the even one: the rounding of x - s, what it leaves and its key follow from those of x.
use Rattle.std.specs.Prelude.{◌≡◌, refl, Bool, true, false, cond, ℕ, ◌+◌, ◌*◌, ◌%◌, ◌<◌, ◌≤◌, T, ℤ, pos, negsuc, neg_ℤ, nat_abs, ◌+ℤ◌, ◌-ℤ◌, ◌*ℤ◌, ◌≤ℤ◌, ◌<ℤ◌}
use Rattle.std.proofs.Common.{sym, ◌∙◌, ap, ⊎_elim, arith}
use Rattle.std.specs.Int.Signed.{lt_z, clash_ℤ}
use Rattle.integers.specs.Laws.Difference.{abs-D, by_d, ints, by_d₂, by_d₃}
use Rattle.integers.specs.Laws.Signed.{≤ℤ-or-<ℤ}
use Rattle.integers.specs.Laws.Sizes.{abs-add, abs-sub, lt_z-true}
use Rattle.lattice.specs.Doubled.{par}
use Rattle.rounding.specs.Laws.Keys.{key-down, key-up}
use Rattle.lattice.specs.Laws.Parity.{parities}
use Rattle.rounding.proofs.Laws.Reciprocals.{round_is}
use Rattle.rounding.proofs.Laws.Rounds.{round-rest}
use Rattle.rounding.specs.Rounding.{round, left, sign, lowered, key}

-- x rounds to f and leaves a, and x - s rounds to g and leaves b
data Lower (s f a g b : ℤ) : Type 0 where
  up : pos 0 <ℤ a → a ≤ℤ s → g ≡ f → b ≡ a -ℤ s → Lower s f a g b
  down : a ≤ℤ pos 0 → neg_ℤ s <ℤ a → g ≡ f -ℤ pos 1 → b ≡ a +ℤ s → Lower s f a g b

module _ (s : ℤ) (s> : pos 0 <ℤ s) (x : ℤ) where
  abbrev S : ℤ
  S = pos 2 *ℤ s

  abbrev y : ℤ
  y = x -ℤ s *ℤ pos 1

  lowers : Lower s (round S x) (left S x) (round S y) (left S y)
  lowers = ⊎_elim goes_down goes-up (≤ℤ-or-<ℤ (left S x) (pos 0))
    where
      S> : pos 0 <ℤ S
      S> = go s s>
        where
          go : (s : ℤ) → pos 0 <ℤ s → pos 0 <ℤ (pos 2 *ℤ s)
          go = by_d _ λ _ _. simp ints (omega arith)

      goes-up : pos 0 <ℤ left S x → Lower s (round S x) (left S x) (round S y) (left S y)
      goes-up l = let r = round-rest S x S> in let k = near s x (round S x) l r.1 in let g = round_is S y (round S x) S> k.0 k.1 in
          up l k.2 (sym g) (ap (λ (t : ℤ). y -ℤ S *ℤ t) (sym g) ∙ step s x (round S x))
        where
          near : (s x c : ℤ) → pos 0 <ℤ (x -ℤ pos 2 *ℤ s *ℤ c) → (pos 2 *ℤ (x -ℤ pos 2 *ℤ s *ℤ c)) ≤ℤ (pos 2 *ℤ s)
              → (neg_ℤ (pos 2 *ℤ s) <ℤ (pos 2 *ℤ (x -ℤ s *ℤ pos 1 -ℤ pos 2 *ℤ s *ℤ c))) × ((pos 2 *ℤ (x -ℤ s *ℤ pos 1 -ℤ pos 2 *ℤ s *ℤ c)) ≤ℤ (pos 2 *ℤ s)) × ((x -ℤ pos 2 *ℤ s *ℤ c) ≤ℤ s)
          near = by_d₃ _ λ _ _ _ _ _ _. simp ints (omega arith)

          step : (s x c : ℤ) → x -ℤ s *ℤ pos 1 -ℤ pos 2 *ℤ s *ℤ c ≡ x -ℤ pos 2 *ℤ s *ℤ c -ℤ s
          step = by_d₃ _ λ _ _ _ _ _ _. simp ints (omega arith)

      goes_down : left S x ≤ℤ pos 0 → Lower s (round S x) (left S x) (round S y) (left S y)
      goes_down l = let r = round-rest S x S> in let k = near s x (round S x) l r.0 in let g = round_is S y (round S x -ℤ pos 1) S> k.0 k.1 in
          down l k.2 (sym g) (ap (λ (t : ℤ). y -ℤ S *ℤ t) (sym g) ∙ step s x (round S x))
        where
          near : (s x c : ℤ) → (x -ℤ pos 2 *ℤ s *ℤ c) ≤ℤ pos 0 → neg_ℤ (pos 2 *ℤ s) <ℤ (pos 2 *ℤ (x -ℤ pos 2 *ℤ s *ℤ c))
              → (neg_ℤ (pos 2 *ℤ s) <ℤ (pos 2 *ℤ (x -ℤ s *ℤ pos 1 -ℤ pos 2 *ℤ s *ℤ (c -ℤ pos 1)))) × ((pos 2 *ℤ (x -ℤ s *ℤ pos 1 -ℤ pos 2 *ℤ s *ℤ (c -ℤ pos 1))) ≤ℤ (pos 2 *ℤ s)) × (neg_ℤ s <ℤ (x -ℤ pos 2 *ℤ s *ℤ c))
          near = by_d₃ _ λ _ _ _ _ _ _. simp ints (omega arith)

          step : (s x c : ℤ) → x -ℤ s *ℤ pos 1 -ℤ pos 2 *ℤ s *ℤ (c -ℤ pos 1) ≡ x -ℤ pos 2 *ℤ s *ℤ c +ℤ s
          step = by_d₃ _ λ _ _ _ _ _ _. simp ints (omega arith)

-- ---- what that says of an entry

above : (a : ℤ) → pos 0 <ℤ a → lt_z (pos 0) a ≡ true
above a h = go (lt_z (pos 0) a) h.lt
  where
    go : (b : Bool) → T b → b ≡ true
    go true t = refl
    go false t = absurd t

not-above : (a : ℤ) → a ≤ℤ pos 0 → lt_z (pos 0) a ≡ false
not-above a h = go (lt_z (pos 0) a) refl
  where
    go : (b : Bool) → lt_z (pos 0) a ≡ b → b ≡ false
    go true e = clash_ℤ (lt_z-true (pos 0) a e) h
    go false e = refl

-- what is left in the odd half, the two keys, the doubled entries, and the parity that the key tells
pub record Twin (s : ℤ) (i : ℕ) (f a g b : ℤ) : Type 0 where
  pub rest : lowered s a ≡ b
  pub both : key i a + key i b ≡ 16 * nat_abs s + 15
  pub doubled : pos 2 *ℤ f +ℤ pos 1 *ℤ sign a ≡ pos 2 *ℤ g +ℤ pos 1
  pub parity : (par (f +ℤ g) + key i a) % 2 ≡ i % 2

sizes-up : (s a : ℤ) → pos 0 <ℤ a → a ≤ℤ s → (nat_abs a + nat_abs (a -ℤ s) ≡ nat_abs s) × ((a -ℤ s) ≤ℤ pos 0)
sizes-up = by_d₂ _ λ _ _ _ _. simp (ints, abs-D) (omega arith)

sizes-down : (s a : ℤ) → a ≤ℤ pos 0 → neg_ℤ s <ℤ a → (nat_abs a + nat_abs (a +ℤ s) ≡ nat_abs s) × (pos 0 <ℤ (a +ℤ s))
sizes-down = by_d₂ _ λ _ _ _ _. simp (ints, abs-D) (omega arith)

-- the identities of the two cases
double-up : (f : ℤ) → pos 2 *ℤ f +ℤ pos 1 *ℤ pos 1 ≡ pos 2 *ℤ f +ℤ pos 1
double-up = by_d _ λ _ _. simp ints (omega arith)

double-down : (f : ℤ) → pos 2 *ℤ f +ℤ pos 1 *ℤ negsuc 0 ≡ pos 2 *ℤ (f -ℤ pos 1) +ℤ pos 1
double-down = by_d _ λ _ _. simp ints (omega arith)

even_sum : (f : ℤ) → par (f +ℤ f) ≡ 0
even_sum = by_d _ λ _ _. simp parities (omega arith)

odd-sum : (f : ℤ) → par (f +ℤ (f -ℤ pos 1)) ≡ 1
odd-sum = by_d _ λ _ _. simp parities (omega arith)

pub twins : (s : ℤ) → pos 0 <ℤ s → (i : ℕ) → i < 8 → (x : ℤ) → let S = pos 2 *ℤ s in let y = x -ℤ s *ℤ pos 1 in Twin s i (round S x) (left S x) (round S y) (left S y)
twins s s> i i< x = go (lowers s s> x)
  where
    go : {f a g b : ℤ} → Lower s f a g b → Twin s i f a g b
    go {f} {a} {g} {b} (up l m p q) = let z = sizes-up s a l m in let k = key-up i a l in record {
      rest = rw (above a l) (sym q);
      both = rw q (omega (arith, z.0, k.1, (key-down i (a -ℤ s) z.1).1));
      doubled = rw (k.0, p) (double-up f);
      parity = rw (p, even_sum f) (omega (arith, k.1));
    }
    go {f} {a} {g} {b} (down l m p q) = let z = sizes-down s a l m in let k = key-down i a l in record {
      rest = rw (not-above a l) (sym q);
      both = rw q (omega (arith, z.0, k.1, (key-up i (a +ℤ s) z.1).1));
      doubled = rw (k.0, p) (double-down f);
      parity = rw (p, odd-sum f) (omega (arith, k.1));
    }

pub lowered-small : (s x : ℤ) → nat_abs (lowered s x) ≤ nat_abs x + nat_abs s
lowered-small s x = go (lt_z (pos 0) x)
  where
    go : (b : Bool) → nat_abs (cond b (x -ℤ s) (x +ℤ s)) ≤ nat_abs x + nat_abs s
    go true = abs-sub x s
    go false = abs-add x s
