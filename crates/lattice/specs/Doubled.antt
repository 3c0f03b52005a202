-- The lattices, held doubled so that every coordinate is whole (01, The lattice).
use Rattle.std.specs.Prelude.{◌≡◌, ◌⊎◌, Bool, ◌&&◌, List, [], ◌∷◌, ℕ, ◌+◌, ◌%◌, eqb, ℤ, nat_abs, length}
use Rattle.integers.specs.Floor.{floor_mod}
use Rattle.integers.specs.Vectors.{sum_v}

-- 0 of an even number, 1 of an odd one
abbrev pub par : ℤ → ℕ
par z = nat_abs z % 2

-- every entry has parity p
abbrev pub All : ℕ → List ℤ → Type 0
All p [] = Unit {0}
All p (x ∷ e) = (par x ≡ p) × All p e

-- n numbers of parity p with a sum divisible by 4
pub record Half (p n : ℕ) (e : List ℤ) : Type 0 where
  pub long : length e ≡ n
  pub alike : All p e
  pub four : nat_abs (sum_v e) % 4 ≡ 0

-- n numbers of equal parity with a sum divisible by 4
pub record Doubled (n : ℕ) (e : List ℤ) : Type 0 where
  pub long : length e ≡ n
  pub alike : All 0 e ⊎ All 1 e
  pub four : nat_abs (sum_v e) % 4 ≡ 0

-- E8 doubled: eight signed numbers of equal parity with a sum divisible by 4
abbrev pub E8 : List ℤ → Type 0
E8 = Doubled 8

-- D4 doubled: four even numbers with a sum divisible by 4
abbrev pub D4 : List ℤ → Type 0
D4 = Half 0 4

-- ---- membership of E8 as a test

-- how many entries are odd
abbrev pub odds : List ℤ → ℕ
odds [] = 0
odds (x ∷ e) = par x + odds e

-- eight numbers, none or all of them odd, with a sum divisible by 4
unfoldable pub is_point : List ℤ → Bool
is_point e = eqb (length e) 8 && (eqb (odds e % 8) 0 && eqb (floor_mod (sum_v e) 4) 0)
