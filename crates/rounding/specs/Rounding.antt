-- How the code finds the nearest point of D_n: round each entry, and change one where the sum is odd. No promise to a user cites these.
use Rattle.std.specs.Prelude.{◌≡◌, ◌⊎◌, cond, List, map, ℕ, ◌+◌, ◌*◌, ◌-◌, ◌/◌, ◌%◌, ◌<◌, ◌≤◌, ltb, ℤ, pos, negsuc, nat_abs, ◌+ℤ◌, ◌-ℤ◌, ◌*ℤ◌, set, ◌≤ℤ◌, ◌<ℤ◌}
use Rattle.std.specs.Int.Signed.{le_z, lt_z}
use Rattle.integers.specs.Floor.{floor_div}
use Rattle.integers.specs.Vectors.{«at»}
use Rattle.rounding.specs.declared.coordinate.Rounded.{Rounded}

-- the whole number nearest to x / S, the lower of two as near
unfoldable pub round : ℤ → ℤ → ℤ
round S x = floor_div (pos 2 *ℤ x +ℤ S -ℤ pos 1) (2 * nat_abs S)

-- what it leaves of x
abbrev pub left : ℤ → ℤ → ℤ
left S x = x -ℤ S *ℤ round S x

-- both
abbrev pub rounded : ℤ → ℤ → Rounded
rounded S x = record { whole = round S x; rest = left S x }

-- the step from the rounding toward the input where x is left, down where nothing is
abbrev pub sign : ℤ → ℤ
sign x = cond (lt_z (pos 0) x) (pos 1) (negsuc 0)

-- what is left in the odd half, of x - s, where x is left in the even one
abbrev pub lowered : ℤ → ℤ → ℤ
lowered s x = cond (lt_z (pos 0) x) (x -ℤ s) (x +ℤ s)

-- the next nearest
unfoldable pub turn : ℤ → ℤ → ℤ
turn S x = round S x +ℤ sign (left S x)

-- v rounded, with the change at the place j
abbrev pub changed : ℤ → List ℤ → ℕ → List ℤ
changed S v j = set (map (round S) v) j (turn S («at» v j))

-- the place to change, where r i is left of the entry i of n: the most, up to sign; of those the first that goes down, or, where all go up, the last
pub record Place (n : ℕ) (r : ℕ → ℤ) (j : ℕ) : Type 0 where
  pub within : j < n
  pub most : (i : ℕ) → i < n → nat_abs (r i) ≤ nat_abs (r j)
  pub tie : ((r j ≤ℤ pos 0) × ((i : ℕ) → i < j → nat_abs (r i) ≡ nat_abs (r j) → pos 0 <ℤ r i))
      ⊎ ((i : ℕ) → i < n → nat_abs (r i) ≡ nat_abs (r j) → (pos 0 <ℤ r i) × (i ≤ j))

-- a divisor that the code takes: 1 to 2^14
pub record Divisor (s : ℤ) : Type 0 where
  pub least : pos 1 ≤ℤ s
  pub most : nat_abs s ≤ 16384

-- a divisor up to S
pub record Step (S : ℕ) (s : ℤ) : Type 0 where
  pub least : pos 1 ≤ℤ s
  pub most : nat_abs s ≤ S

-- numbers up to M and counts up to K have room for a pass of divisors up to S and roundings up to W, and for what it compares
pub record Room (S W M K : ℕ) : Type 0 where
  pub keys : 9 * (16 * S + 15) ≤ K
  pub sums : 9 * W + 9 * (16 * S + 15) ≤ M
  pub squares : 112 * (S * S) + 1 ≤ M

-- 2^31 over s, rounded down
abbrev pub reciprocal : ℤ → ℕ
reciprocal s = 2147483648 / nat_abs s

-- a number whose order is the order of `Place`, for the first eight entries: what is left x at the entry i
abbrev pub key : ℕ → ℤ → ℕ
key i x = cond (le_z x (pos 0)) (nat_abs x * 16 + (15 - i)) (nat_abs x * 16 + i)

-- the entry that a key is of
abbrev pub spot : ℕ → ℕ
spot k = cond (ltb (k % 16) 8) (k % 16) (15 - k % 16)
