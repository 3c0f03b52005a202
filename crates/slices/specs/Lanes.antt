-- What passes over the first three coordinates have seen, side by side: row j holds the number j of each, so that a column is one pass and the way of its first entry. No promise to a user cites these.
use Rattle.std.specs.Prelude.{◌≡◌, ◌≢◌, List, [], ◌∷◌, ℕ, ◌+◌, ◌<◌, ◌≤◌, ℤ, pos, nat_abs, length, get_or, take, ◌≤ℤ◌}
use Rattle.integers.specs.Vectors.{«at»}
use Rattle.columns.specs.Columns.{column, Grid}
use Rattle.columns.specs.Narrow.{Part, brief, scanned_from}
use Rattle.layers.specs.Digits.{digits_of}
use Rattle.rounding.specs.Pass.{Scan}
use Rattle.rounding.specs.Pass.{chosen}
use Rattle.rounding.specs.Rounding.{sign}
use Rattle.slices.specs.Slices.{rounds_of, rests_of, code_of, merge, low_digits, high_digits}

-- ---- a column

-- what a pass has seen, and the way of the first entry
abbrev pub lane_of : Scan → ℤ → List ℤ
lane_of c w = pos c.most ∷ pos c.least ∷ pos c.keys ∷ c.sum ∷ c.even ∷ c.odd ∷ w ∷ []

-- and back
abbrev pub scan_of : List ℤ → Scan
scan_of l = record { most = nat_abs («at» l 0); least = nat_abs («at» l 1); keys = nat_abs («at» l 2); sum = «at» l 3; even = «at» l 4; odd = «at» l 5 }

-- what such a column has as a key or as keys is not negative
abbrev pub Whole : List ℤ → Type 0
Whole l = (i : ℕ) → i < 3 → pos 0 ≤ℤ «at» l i

-- a column of a pass over n entries, where none leaves more than R
pub record Lane (R n : ℕ) (l : List ℤ) : Type 0 where
  pub whole : Whole l
  pub part : Part R n (scan_of l)
  pub way : nat_abs («at» l 6) ≤ 1

-- c' is c with l for its column t
pub record LanePut (t : ℕ) (l : List ℤ) (c c' : List (List ℤ)) : Type 0 where
  pub grid : Grid 7 256 c'
  pub put : column (pos 0) t c' ≡ l
  pub others : (u : ℕ) → u ≢ t → column (pos 0) u c' ≡ column (pos 0) u c

-- ---- the passes of a slice

-- the low digits of the number j, and what is seen by them; the high ones of the number g
abbrev pub low_at : ℤ → ℕ → ℕ → List ℕ
low_at q d j = low_digits (digits_of (nat_abs q) 4 j) d

abbrev pub lane_at : ℤ → ℕ → ℕ → List ℤ
lane_at q d j = lane_of (scanned_from q 0 3 (rounds_of q (low_at q d j)) (rests_of q (low_at q d j))) (sign («at» (rests_of q (low_at q d j)) 0))

abbrev pub high_at : ℤ → ℕ → ℕ → List ℕ
high_at q d g = high_digits (digits_of (nat_abs q) 4 g) d

abbrev pub scan_at : ℤ → ℕ → ℕ → Scan
scan_at q d g = scanned_from q 3 5 (rounds_of q (high_at q d g)) (rests_of q (high_at q d g))

-- the first n columns, and what is left of the first three coordinates
pub record Lows (q : ℤ) (d n : ℕ) (lanes lows : List (List ℤ)) : Type 0 where
  pub grid : Grid 7 256 lanes
  pub long : length lows ≡ 256
  pub lane : (j : ℕ) → j < n → column (pos 0) j lanes ≡ lane_at q d j
  pub low : (j : ℕ) → j < n → get_or lows j [] ≡ take 3 (rests_of q (low_at q d j))

-- ---- the choices by them

-- by one column, with what the pass over the high coordinates has seen
abbrev pub code_by : ℤ → List ℤ → Scan → ℕ
code_by q l high = code_of (brief (chosen q (merge (scan_of l) high) («at» l 6)))

-- what n columns from one on are taken to be
abbrev pub Lanes : ℤ → ℕ → ℕ → List (List ℤ) → Type 0
Lanes q from n lanes = (t : ℕ) → t < n → Lane (nat_abs q) 3 (column (pos 0) (from + t) lanes)

-- r is their choices
pub record Run (q : ℤ) (from n : ℕ) (lanes : List (List ℤ)) (high : Scan) (r : List ℕ) : Type 0 where
  pub long : length r ≡ n
  pub each : (t : ℕ) → t < n → get_or r t 0 ≡ code_by q (column (pos 0) (from + t) lanes) high

-- c' has them from the entry i on; before it is c
pub record RunPut (q : ℤ) (from n : ℕ) (lanes : List (List ℤ)) (high : Scan) (i : ℕ) (c c' : List ℕ) : Type 0 where
  pub long : length c' ≡ length c
  pub each : (t : ℕ) → t < n → get_or c' (i + t) 0 ≡ code_by q (column (pos 0) (from + t) lanes) high
  pub before : (j : ℕ) → j < i → get_or c' j 0 ≡ get_or c j 0
