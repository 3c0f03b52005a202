-- The frame of a record: a dimension, then so many entries (01, Bytes).
use Rattle.std.specs.Prelude.{◌≡◌, Bool, ◌&&◌, List, ℕ, ◌+◌, ◌*◌, ◌/◌, ◌%◌, ◌≤◌, eqb, leb, length}
use Rattle.readings.specs.Words.{word_at}

-- n is K times size, with K from least to most
unfoldable pub whole_blocks : ℕ → ℕ → ℕ → ℕ → Bool
whole_blocks size least most n = eqb (n % size) 0 && (leb least (n / size) && leb (n / size) most)

-- a record of entries of `width` bytes: the dimension is there and is K times size with K from least to most, and no entry is cut off
unfoldable pub good_record : ℕ → ℕ → ℕ → ℕ → List ℕ → Bool
good_record width size least most b = leb 4 (length b) && (whole_blocks size least most (word_at b 0) && leb (4 + width * word_at b 0) (length b))

-- ---- what the code relies on, once checked

-- n is K times size, and K is from least to most
pub record Whole (size least most n : ℕ) : Type 0 where
  pub times : n ≡ size * (n / size)
  pub some : least ≤ n / size
  pub few : n / size ≤ most

-- the dimension is there and is so many blocks, and no entry of `width` bytes is cut off
pub record Framed (width size least most : ℕ) (b : List ℕ) : Type 0 where
  pub there : 4 ≤ length b
  pub whole : Whole size least most (word_at b 0)
  pub complete : 4 + width * word_at b 0 ≤ length b
