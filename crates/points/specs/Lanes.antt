-- Blocks side by side: column t holds the digits or the coordinates of block t, or those of one layer.
use Rattle.std.specs.Prelude.{◌≡◌, ◌≢◌, cond, List, [], ℕ, zero, suc, ◌+◌, ◌*◌, ◌-◌, ◌^◌, ◌<◌, ◌≤◌, ltb, ℤ, pos, nat_abs, ◌+ℤ◌, ◌*ℤ◌, length, get_or, take, drop, replicate}
use Rattle.integers.specs.Vectors.{«at», add_v, scale_v, Sized}
use Rattle.columns.specs.Columns.{column, Square8}
use Rattle.layers.specs.E8.{decode8}
use Rattle.records.specs.Eight.Codes.{block_size, whole_point}

-- c' is c with ds for its column t
pub record LayerPut (t : ℕ) (ds : List ℕ) (c c' : List (List ℕ)) : Type 0 where
  pub square : Square8 c'
  pub put : column 0 t c' ≡ ds
  pub others : (u : ℕ) → u ≢ t → column 0 u c' ≡ column 0 u c

-- nothing is laid yet
abbrev pub Blank : List (List ℕ) → Type 0
Blank c = c ≡ replicate 8 (replicate 8 0)

-- block t of a row of blocks
abbrev pub block_at : ℕ → List ℕ → ℕ → List ℕ
block_at m f t = take (block_size m) (drop (block_size m * t) f)

-- the digits of column t: those of block t of n, and zeros past the last
abbrev pub lane_digits : ℕ → ℕ → List ℕ → ℕ → List ℕ
lane_digits m n f t = cond (ltb t n) (drop 1 (block_at m f t)) (replicate (8 * m) 0)

-- their layer i
pub record Gathered (m n i : ℕ) (f : List ℕ) (c : List (List ℕ)) : Type 0 where
  pub square : Square8 c
  pub each : (t : ℕ) → t < 8 → column 0 t c ≡ take 8 (drop (8 * i) (lane_digits m n f t))

-- the points of their layers from i on
pub record LanePoints (q m n i : ℕ) (f : List ℕ) (e : List (List ℤ)) : Type 0 where
  pub square : Square8 e
  pub each : (t : ℕ) → t < 8 → column (pos 0) t e ≡ decode8 q (m - i) (drop (8 * i) (lane_digits m n f t))

-- the points of n blocks
pub record BlockPoints (q m n : ℕ) (f : List ℕ) (e : List (List ℤ)) : Type 0 where
  pub square : Square8 e
  pub each : (t : ℕ) → t < n → column (pos 0) t e ≡ whole_point q m (block_at m f t)

-- ---- all layers of few blocks side by side

-- block after block, and zeros past the last
pub record AllGathered (m n : ℕ) (f : List ℕ) (c : List (List ℕ)) : Type 0 where
  pub square : Square8 c
  pub each : (b i : ℕ) → b < n → i < m → column 0 (m * b + i) c ≡ take 8 (drop (8 * i) (drop 1 (block_at m f b)))
  pub past : (t : ℕ) → m * n ≤ t → t < 8 → column 0 t c ≡ replicate 8 0

-- what a pass takes: all layers where they are at most eight, else the layer i of each block
pub record Taken (m n i : ℕ) (f : List ℕ) (c : List (List ℕ)) : Type 0 where
  pub all : n * m ≤ 8 → AllGathered m n f c
  pub one : 8 < n * m → Gathered m n i f c

-- a whole point's coordinate from those of its m layers, in l from t on: the first, and q times what those after it give
abbrev pub whole_coordinate : ℤ → ℕ → ℕ → List ℤ → ℤ
whole_coordinate q zero t l = pos 0
whole_coordinate q (suc m) t l = «at» l t +ℤ q *ℤ whole_coordinate q m (suc t) l

-- that of n blocks, m layers each
pub record FoldedRow (q : ℤ) (m n : ℕ) (l r : List ℤ) : Type 0 where
  pub long : length r ≡ 8
  pub each : (b : ℕ) → b < n → «at» r b ≡ whole_coordinate q m (m * b) l

-- row by row
pub record FoldedRows (q : ℤ) (m n : ℕ) (l r : List (List ℤ)) : Type 0 where
  pub long : length r ≡ 8
  pub each : (j : ℕ) → j < 8 → FoldedRow q m n (get_or l j []) (get_or r j [])

-- ---- what the code relies on, so that sums fit 16 bits

-- eight numbers, and eight that are small even times q
pub record Summable (q : ℤ) (l e : List ℤ) : Type 0 where
  pub first : Sized 8 128 l
  pub second : Sized 8 (2 ^ 14) (scale_v q e)

-- eight rows of each
pub record SummableRows (q : ℤ) (l e : List (List ℤ)) : Type 0 where
  pub long : length l ≡ 8
  pub long' : length e ≡ 8
  pub each : (j : ℕ) → j < 8 → Summable q (get_or l j []) (get_or e j [])

-- row by row the first and q times the second
pub record SummedRows (q : ℤ) (l e r : List (List ℤ)) : Type 0 where
  pub long : length r ≡ 8
  pub each : (j : ℕ) → j < 8 → get_or r j [] ≡ add_v (get_or l j []) (scale_v q (get_or e j []))

-- eight numbers, of which m from t on are small, as is q times what those after any of them give
pub record Foldable (q : ℤ) (m t : ℕ) (l : List ℤ) : Type 0 where
  pub long : length l ≡ 8
  pub within : t + m ≤ 8
  pub first : (i : ℕ) → i < m → nat_abs («at» l (t + i)) ≤ 128
  pub second : (i : ℕ) → i < m → nat_abs (q *ℤ whole_coordinate q (m - suc i) (t + suc i) l) ≤ 2 ^ 14

-- m for each of n blocks
abbrev pub FoldableRow : ℤ → ℕ → ℕ → List ℤ → Type 0
FoldableRow q m n l = (b : ℕ) → b < n → Foldable q m (m * b) l

-- eight rows of them
pub record FoldableRows (q : ℤ) (m n : ℕ) (l : List (List ℤ)) : Type 0 where
  pub long : length l ≡ 8
  pub each : (j : ℕ) → j < 8 → FoldableRow q m n (get_or l j [])
