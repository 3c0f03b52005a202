-- The test of membership says exactly what E8 says.
use Rattle.std.specs.Prelude.{◌≡◌, refl, ◌⊎◌, ◌↔◌, true, ◌&&◌, List, [], ◌∷◌, ℕ, zero, suc, ◌+◌, ◌%◌, ◌<◌, ◌≤◌, eqb, ℤ, nat_abs, length, take}
use Rattle.std.proofs.Common.{inl, inr, mod-lt, arith, eqb-true, eq-eqb}
use Rattle.std.proofs.Math.Decide.{ℕ_discrete}
use Rattle.integers.specs.Floor.{floor_mod}
use Rattle.integers.specs.Laws.Tests.{and-true}
use Rattle.integers.specs.Vectors.{«at», sum_v}
use Rattle.lattice.specs.Doubled.{par, All, E8, odds, is_point}
use Rattle.lattice.specs.Laws.Rows.{four-mod, mod-four}

par-lt : (x : ℤ) → par x < 2
par-lt x = mod-lt (nat_abs x) (omega arith)

odds-most : (e : List ℤ) → odds e ≤ length e
odds-most [] = omega arith
odds-most (x ∷ e) = omega (arith, par-lt x, odds-most e)

none-odd : (e : List ℤ) → odds e ≡ 0 → All 0 e
none-odd [] h = tt
none-odd (x ∷ e) h = (omega arith, none-odd e (omega arith))

all-odd : (e : List ℤ) → odds e ≡ length e → All 1 e
all-odd [] h = tt
all-odd (x ∷ e) h = (omega (arith, par-lt x, odds-most e), all-odd e (omega (arith, par-lt x, odds-most e)))

odds-none : (e : List ℤ) → All 0 e → odds e ≡ 0
odds-none [] a = refl
odds-none (x ∷ e) a = omega (arith, a.0, odds-none e a.1)

odds-all : (e : List ℤ) → All 1 e → odds e ≡ length e
odds-all [] a = refl
odds-all (x ∷ e) a = omega (arith, a.0, odds-all e a.1)

-- one entry more, as a loop counts it
pub odds-take-suc : (e : List ℤ) (i : ℕ) → odds (take (suc i) e) ≡ odds (take i e) + par («at» e i)
odds-take-suc [] zero = refl
odds-take-suc [] (suc i) = refl
odds-take-suc (x ∷ e) zero = omega arith
odds-take-suc (x ∷ e) (suc i) = omega (arith, odds-take-suc e i)

pub odds-count : (e : List ℤ) (i : ℕ) → odds (take i e) ≤ i
odds-count e zero = omega arith
odds-count e (suc i) = rw (odds-take-suc e i) (omega (arith, odds-count e i, par-lt («at» e i)))

pub is_point-iff : (e : List ℤ) → (is_point e ≡ true) ↔ E8 e
unfolding is_point
is_point-iff e = (λ t. there t, back)
  where
    alike : length e ≡ 8 → odds e % 8 ≡ 0 → All 0 e ⊎ All 1 e
    alike h k = elim (ℕ_discrete (odds e) 0) [ yes z ↦ inl (none-odd e z) | no z ↦ inr (all-odd e (omega (arith, odds-most e))) ]

    there : (eqb (length e) 8 && (eqb (odds e % 8) 0 && eqb (floor_mod (sum_v e) 4) 0)) ≡ true → E8 e
    there t = let a = and-true (eqb (length e) 8) (eqb (odds e % 8) 0 && eqb (floor_mod (sum_v e) 4) 0) t in
        let b = and-true (eqb (odds e % 8) 0) (eqb (floor_mod (sum_v e) 4) 0) a.1 in
        let l : length e ≡ 8 = eqb-true (length e) 8 a.0 in
        record { long = l; alike = alike l (eqb-true (odds e % 8) 0 b.0); four = mod-four (sum_v e) (eqb-true (floor_mod (sum_v e) 4) 0 b.1) }

    count : All 0 e ⊎ All 1 e → length e ≡ 8 → odds e % 8 ≡ 0
    count (inl a) l = omega (arith, odds-none e a)
    count (inr a) l = omega (arith, odds-all e a)

    back : E8 e → (eqb (length e) 8 && (eqb (odds e % 8) 0 && eqb (floor_mod (sum_v e) 4) 0)) ≡ true
    back h = rw (eq-eqb (length e) 8 h.long, eq-eqb (odds e % 8) 0 (count h.alike h.long), eq-eqb (floor_mod (sum_v e) 4) 0 (four-mod (sum_v e) h.four))
