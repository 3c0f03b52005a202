-- A slice of a part of the query table: the entries whose last digit is the same. The layer point of each is what a half leaves, mended, and what it leaves of the first three coordinates goes by the first four digits and the last, of the others by all but the first three. No promise to a user cites these.
use Rattle.std.specs.Prelude.{◌≡◌, List, [], ◌∷◌, ◌++◌, map, ℕ, ◌+◌, ◌*◌, ◌/◌, ◌%◌, ◌^◌, ◌<◌, ◌≤◌, min, max, ℤ, pos, nat_abs, ◌+ℤ◌, ◌-ℤ◌, ◌*ℤ◌, length, get_or, take, drop}
use Rattle.integers.specs.Vectors.{«at», dot, Sized}
use Rattle.lattice.specs.Basis.{point_of}
use Rattle.rounding.specs.Pass.{Choice}
use Rattle.columns.specs.Narrow.{brief, left_by}
use Rattle.layers.specs.Digits.{digits_of}
use Rattle.layers.specs.Sizes.{Base}
use Rattle.rounding.specs.Pass.{Scan}
use Rattle.rounding.specs.Pass.{scanned, chosen}
use Rattle.rounding.specs.Rounding.{round, left, sign}

-- ---- the choice for eight digits

-- the roundings of their point, and what these leave of it
abbrev pub rounds_of : ℤ → List ℕ → List ℤ
rounds_of q ds = map (round (pos 2 *ℤ q)) (point_of (map pos ds))

abbrev pub rests_of : ℤ → List ℕ → List ℤ
rests_of q ds = map (left (pos 2 *ℤ q)) (point_of (map pos ds))

-- the half that is chosen, and its mend
abbrev pub choice_of : ℤ → List ℕ → Choice
choice_of q ds = brief (chosen q (scanned q 8 (rounds_of q ds) (rests_of q ds)) (sign («at» (rests_of q ds) 0)))

-- a choice as one number below 48, and back
abbrev pub code_of : Choice → ℕ
code_of c = nat_abs c.parity + 2 * c.place + 8 * nat_abs (c.step +ℤ pos 2)

abbrev pub choice_by : ℕ → Choice
choice_by k = record { parity = pos (k % 2); place = k / 2 % 8; step = pos (2 * (k / 16)) -ℤ pos 2 }

-- what two passes over different entries have seen, together
abbrev pub merge : Scan → Scan → Scan
merge a b = record {
  most = max a.most b.most;
  least = min a.least b.least;
  keys = a.keys + b.keys;
  sum = a.sum +ℤ b.sum;
  even = a.even +ℤ b.even;
  odd = a.odd +ℤ b.odd;
}

-- ---- the digits of a slice

-- four digits and the last: as the first four, and as those before the last
abbrev pub low_digits : List ℕ → ℕ → List ℕ
low_digits l d = get_or l 0 0 ∷ get_or l 1 0 ∷ get_or l 2 0 ∷ get_or l 3 0 ∷ 0 ∷ 0 ∷ 0 ∷ d ∷ []

abbrev pub high_digits : List ℕ → ℕ → List ℕ
high_digits l d = 0 ∷ 0 ∷ 0 ∷ get_or l 0 0 ∷ get_or l 1 0 ∷ get_or l 2 0 ∷ get_or l 3 0 ∷ d ∷ []

-- the digits of the entry n of the slice of the last digit d
abbrev pub slice_digits : ℕ → ℕ → ℕ → List ℕ
slice_digits q d n = digits_of q 8 (n + q ^ 7 * d)

-- ---- a slice

-- what is found once for all blocks: the choice for each entry, and what is left by the low and by the high digits
pub record Slice (q : ℤ) (d : ℕ) (choices : List ℕ) (lows highs : List (List ℤ)) : Type 0 where
  pub choices-long : length choices ≡ 16384
  pub lows-long : length lows ≡ 256
  pub highs-long : length highs ≡ 256
  pub chosen : (n : ℕ) → n < nat_abs q ^ 7 → get_or choices n 0 ≡ code_of (choice_of q (slice_digits (nat_abs q) d n))
  pub low : (j : ℕ) → j < nat_abs q ^ 4 → get_or lows j [] ≡ take 3 (rests_of q (low_digits (digits_of (nat_abs q) 4 j) d))
  pub high : (j : ℕ) → j < nat_abs q ^ 4 → get_or highs j [] ≡ drop 3 (rests_of q (high_digits (digits_of (nat_abs q) 4 j) d))

-- such arrays by their sizes alone
pub record Sizes (q : ℤ) (choices : List ℕ) (lows highs : List (List ℤ)) : Type 0 where
  pub base : Base q
  pub most : nat_abs q ≤ 4
  pub choices-long : length choices ≡ 16384
  pub lows-long : length lows ≡ 256
  pub highs-long : length highs ≡ 256
  pub below : (n : ℕ) → n < nat_abs q ^ 7 → get_or choices n 0 < 48
  pub low : (j : ℕ) → j < nat_abs q ^ 4 → Sized 3 4 (get_or lows j [])
  pub high : (j : ℕ) → j < nat_abs q ^ 4 → Sized 5 4 (get_or highs j [])

-- the point of the entry n by them
abbrev pub point_by : ℤ → List ℕ → List (List ℤ) → List (List ℤ) → ℕ → List ℤ
point_by q choices lows highs n = left_by q (choice_by (get_or choices n 0)) (get_or lows (n % nat_abs q ^ 4) [] ++ get_or highs (n / nat_abs q ^ 3) [])

-- r is the sums of X with n points
pub record Dots (n : ℕ) (point : ℕ → List ℤ) (X r : List ℤ) : Type 0 where
  pub long : length r ≡ n
  pub each : (t : ℕ) → t < n → «at» r t ≡ dot X (point t)
