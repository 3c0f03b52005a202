-- Division by one number many times: 2^32 over it once, and a product for each quotient.
use Rattle.std.specs.Prelude.{◌≡◌, refl, ℕ, suc, ◌+◌, ◌*◌, ◌/◌, ◌%◌, ◌<◌, ◌≤◌, ℤ, pos, negsuc, nat_abs, ◌+ℤ◌, ◌-ℤ◌, ◌*ℤ◌, ◌≤ℤ◌, ◌<ℤ◌}
use Rattle.std.proofs.Common.{sym, ◌∙◌, ap, mul-le-mul, le_refl, mod-lt, arith}
use Rattle.std.proofs.Math.Nat.{div-add-mod}
use Rattle.std.specs.Int.Signed.{quot_z, pos-nat_abs, yes_non_neg}
use Rattle.integers.specs.Floor.{floor_div, floor_mod, reciprocal}
use Rattle.integers.specs.Laws.Difference.{abs-D, by_d, ints, by_d₂}
use Rattle.integers.specs.Laws.Floors.{floor_mod-lt, floor-split, floor-unique, by_pos}

pub reciprocal-quot : (m : ℤ) → pos 1 ≤ℤ m → quot_z (pos 4294967296) m ≡ pos (reciprocal (nat_abs m))
reciprocal-quot = by_pos _ λ n. refl

pub reciprocal-small : (m : ℕ) → 2 ≤ m → reciprocal m ≤ 2147483648
reciprocal-small m h = omega (arith, div-add-mod 4294967296 m, mul-le-mul h (le_refl (4294967296 / m)))

pub two-least : (m : ℤ) → pos 2 ≤ℤ m → 2 ≤ nat_abs m
two-least = by_d _ λ _ _. simp (ints, abs-D) (omega arith)

-- ---- the guess at y over m, by the reciprocal of m, is right or one too low

up : (m w e ρ a : ℕ) → m * w + e ≡ 4294967296 → a * e ≤ 2147483648 * m → m * ρ ≤ m * 4294967295 → 0 < m
    → (q : ℤ) → pos a *ℤ pos w -ℤ pos 2147483648 ≡ pos 4294967296 *ℤ q +ℤ pos ρ
    → (pos 0 ≤ℤ (pos a -ℤ pos m *ℤ q)) × ((pos a -ℤ pos m *ℤ q) <ℤ pos (2 * m))
up m w e ρ a E h k m> = by_d _ λ b b'. simp ints λ g. omega (arith, ap (λ (z : ℕ). m * z) g, ap (λ (z : ℕ). a * z) E)

down : (m w e ρ a : ℕ) → m * w + e ≡ 4294967296 → suc a * e ≤ 2147483648 * m → m * ρ ≤ m * 4294967295 → 0 < m
    → (q : ℤ) → negsuc a *ℤ pos w -ℤ pos 2147483648 ≡ pos 4294967296 *ℤ q +ℤ pos ρ
    → (pos 0 ≤ℤ (negsuc a -ℤ pos m *ℤ q)) × ((negsuc a -ℤ pos m *ℤ q) <ℤ pos (2 * m))
down m w e ρ a E h k m> = by_d _ λ b b'. simp ints λ g. omega (arith, ap (λ (z : ℕ). m * z) g, ap (λ (z : ℕ). suc a * z) E)

unfoldable pub guess : ℕ → ℤ → ℤ
guess m y = floor_div (y *ℤ pos (reciprocal m) -ℤ pos 2147483648) 4294967296

pub guess-ok : (m : ℕ) → 0 < m → (y : ℤ) → nat_abs y ≤ 2147483648 → (pos 0 ≤ℤ (y -ℤ pos m *ℤ guess m y)) × ((y -ℤ pos m *ℤ guess m y) <ℤ pos (2 * m))
unfolding guess
guess-ok m m> (pos a) h = let z : ℤ = pos a *ℤ pos (reciprocal m) -ℤ pos 2147483648 in
    let l : 4294967296 % m < m = mod-lt 4294967296 m> in let r : floor_mod z 4294967296 < 4294967296 = floor_mod-lt z 4294967296 (omega arith) in
    up m (reciprocal m) (4294967296 % m) (floor_mod z 4294967296) a (div-add-mod 4294967296 m) (mul-le-mul h (omega (arith, l))) (mul-le-mul (le_refl m) (omega (arith, r))) m> (floor_div z 4294967296) (floor-split z 4294967296 (omega arith))
guess-ok m m> (negsuc a) h = let z : ℤ = negsuc a *ℤ pos (reciprocal m) -ℤ pos 2147483648 in
    let l : 4294967296 % m < m = mod-lt 4294967296 m> in let r : floor_mod z 4294967296 < 4294967296 = floor_mod-lt z 4294967296 (omega arith) in
    down m (reciprocal m) (4294967296 % m) (floor_mod z 4294967296) a (div-add-mod 4294967296 m) (mul-le-mul h (omega (arith, l))) (mul-le-mul (le_refl m) (omega (arith, r))) m> (floor_div z 4294967296) (floor-split z 4294967296 (omega arith))

-- ---- the remainder: what the guess leaves, less m where that is not below m

split : (m : ℕ) (x t : ℤ) → x ≡ pos m *ℤ t +ℤ (x -ℤ pos m *ℤ t)
split m = by_d₂ _ λ _ _ _ _. simp ints (omega arith)

split-more : (m : ℕ) (x t : ℤ) → x ≡ pos m *ℤ (t +ℤ pos 1) +ℤ (x -ℤ pos m *ℤ t -ℤ pos m)
split-more m = by_d₂ _ λ _ _ _ _. simp ints (omega arith)

pub below : (m : ℕ) (r : ℤ) → pos 0 ≤ℤ r → r <ℤ pos m → nat_abs r < m
below m = by_d _ λ _ _. simp (ints, abs-D) (omega arith)

within : (m : ℕ) (r : ℤ) → pos m ≤ℤ r → r <ℤ pos (2 * m) → (pos 0 ≤ℤ (r -ℤ pos m)) × ((r -ℤ pos m) <ℤ pos m)
within m = by_d _ λ _ _. simp ints (omega arith)

module _ (m : ℕ) (x t : ℤ) (low : pos 0 ≤ℤ (x -ℤ pos m *ℤ t)) (high : (x -ℤ pos m *ℤ t) <ℤ pos (2 * m)) where
  abbrev r : ℤ
  r = x -ℤ pos m *ℤ t

  natural : (z : ℤ) → pos 0 ≤ℤ z → z ≡ pos (nat_abs z)
  natural z h = sym (pos-nat_abs z (yes_non_neg h))

  pub left-mod : r <ℤ pos m → r ≡ pos (floor_mod x m)
  left-mod h = let e = natural r low in e ∙ ap pos (sym (floor-unique x m t (nat_abs r) (below m r low h) (split m x t ∙ ap (λ (z : ℤ). pos m *ℤ t +ℤ z) e)).1)

  pub left-mod-more : pos m ≤ℤ r → r -ℤ pos m ≡ pos (floor_mod x m)
  left-mod-more h = let k = within m r h high in let e = natural (r -ℤ pos m) k.0 in
      e ∙ ap pos (sym (floor-unique x m (t +ℤ pos 1) (nat_abs (r -ℤ pos m)) (below m (r -ℤ pos m) k.0 k.1) (split-more m x t ∙ ap (λ (z : ℤ). pos m *ℤ (t +ℤ pos 1) +ℤ z) e)).1)
