-- The sums that the entries of a slice are made of: with what a half leaves of the low digits, of the high ones, and with the mend. No promise to a user cites these.
use Rattle.std.specs.Prelude.{◌≡◌, List, [], map, ℕ, ◌+◌, ◌*◌, ◌/◌, ◌%◌, ◌^◌, ◌<◌, ◌≤◌, ℤ, pos, ◌+ℤ◌, ◌-ℤ◌, ◌*ℤ◌, length, get_or}
use Rattle.integers.specs.Vectors.{«at», dot, Sized}
use Rattle.rounding.specs.Rounding.{lowered}

-- X with what the even half leaves of the row j, and with what the odd one leaves
abbrev pub even_at : List ℤ → List (List ℤ) → ℕ → ℤ
even_at X rows j = dot X (get_or rows j [])

abbrev pub odd_at : ℤ → List ℤ → List (List ℤ) → ℕ → ℤ
odd_at s X rows j = dot X (map (lowered s) (get_or rows j []))

-- X with the mend of the choice k
abbrev pub mend_at : ℤ → List ℤ → ℕ → ℤ
mend_at s X k = s *ℤ (pos 2 -ℤ pos (2 * (k / 16))) *ℤ «at» X (k / 2 % 8)

-- the first n rows have three small coordinates
abbrev pub Threes : ℕ → List (List ℤ) → Type 0
Threes n rows = (j : ℕ) → j < n → Sized 3 4 (get_or rows j [])

-- r begins with n pairs
pub record Paired (f g : ℕ → ℤ) (n : ℕ) (r : List ℤ) : Type 0 where
  pub first : (j : ℕ) → j < n → «at» r (2 * j) ≡ f j
  pub second : (j : ℕ) → j < n → «at» r (2 * j + 1) ≡ g j

-- what n entries, at most 64, are looked up in: a pair for each, the sums of the 48 choices, and the choice of each
pub record Run (n : ℕ) (pairs sums : List ℤ) (choices : List ℕ) : Type 0 where
  pub few : n ≤ 64
  pub pairs-sized : Sized (2 * n) (2 ^ 29) pairs
  pub sums-sized : Sized 48 (2 ^ 30) sums
  pub choices-long : length choices ≡ n
  pub below : (t : ℕ) → t < n → get_or choices t 0 < 48

-- an entry: of its pair the sum of its half, and the sum of its choice
abbrev pub run_at : List ℤ → List ℤ → List ℕ → ℕ → ℤ
run_at pairs sums choices t = «at» pairs (2 * t + get_or choices t 0 % 2) +ℤ «at» sums (get_or choices t 0)
