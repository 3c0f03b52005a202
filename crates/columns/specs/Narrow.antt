-- The nearest point in narrow numbers: what it is asked for, how its numbers stand for those of the pass, and how large they are. No promise to a user cites these.
use Rattle.std.specs.Prelude.{◌≡◌, cond, List, map, ℕ, ◌+◌, ◌*◌, ◌<◌, ◌≤◌, eqb, ℤ, pos, neg_ℤ, nat_abs, ◌+ℤ◌, ◌-ℤ◌, ◌*ℤ◌, length, ◌≤ℤ◌, ◌<ℤ◌}
use Rattle.integers.specs.Vectors.{«at», range}
pub use Rattle.rounding.specs.Pass.{scanned_from}
use Rattle.rounding.specs.Pass.{Scan, Mend, Choice}
use Rattle.rounding.specs.Rounding.{sign}

-- a divisor up to 16, and eight numbers that three comparisons round
pub record Narrow (s : ℤ) (d : List ℤ) : Type 0 where
  pub least : pos 1 ≤ℤ s
  pub most : nat_abs s ≤ 16
  pub long : length d ≡ 8
  pub low : (i : ℕ) → i < 8 → (neg_ℤ (pos 3 *ℤ s)) <ℤ «at» d i
  pub high : (i : ℕ) → i < 8 → «at» d i ≤ℤ (pos 5 *ℤ s)

-- a divisor up to 16
pub record Few (s : ℤ) : Type 0 where
  pub least : pos 1 ≤ℤ s
  pub most : nat_abs s ≤ 16

-- a number that three comparisons round
pub record Near (s x : ℤ) : Type 0 where
  pub low : (neg_ℤ (pos 3 *ℤ s)) <ℤ x
  pub high : x ≤ℤ (pos 5 *ℤ s)

-- ---- the structures of the narrow code, as those of the wide one

abbrev pub wide : Scan → Scan
wide c = c

abbrev pub brief : Choice → Choice
brief h = h

-- ---- how large they are

-- a pass over n entries, where none leaves more than R
pub record Part (R n : ℕ) (c : Scan) : Type 0 where
  pub most : c.most ≤ 16 * R + 15
  pub least : c.least ≤ 16 * R + 15
  pub keys : c.keys ≤ 271 * n
  pub sum : nat_abs c.sum ≤ 2 * n
  pub even : nat_abs c.even ≤ 256 * n
  pub odd : nat_abs c.odd ≤ 1024 * n

-- small enough for one entry more
pub record Slim (c : Scan) : Type 0 where
  pub keys : c.keys ≤ 2168
  pub sum : nat_abs c.sum ≤ 16
  pub even : nat_abs c.even ≤ 2048
  pub odd : nat_abs c.odd ≤ 8192

-- and for the choice
pub record Slender (s : ℤ) (c : Scan) : Type 0 where
  pub most : c.most ≤ 271
  pub least : c.least ≤ 16 * nat_abs s + 15
  pub slim : Slim c

-- a small mend
pub record Slight (m : Mend) : Type 0 where
  pub step : nat_abs m.step ≤ 2
  pub cost : nat_abs m.cost ≤ 2048

-- ---- what is left

-- what the chosen half, mended, leaves at the entry i, where the rounding leaves a
abbrev pub left_at : ℤ → Choice → List ℤ → ℕ → ℤ
left_at s c a i = «at» a i -ℤ s *ℤ (c.parity *ℤ sign («at» a i) +ℤ cond (eqb i c.place) c.step (pos 0))

-- of all eight
abbrev pub left_by : ℤ → Choice → List ℤ → List ℤ
left_by s c a = map (left_at s c a) (range 0 8)
