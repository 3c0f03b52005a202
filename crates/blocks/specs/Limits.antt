-- Blocks and step lists that the code takes.
use Rattle.std.specs.Prelude.{ℕ, ◌^◌, ◌<◌, ◌≤◌, List, ℤ, length}
use Rattle.integers.specs.Vectors.{«at», Sized}
use Rattle.rounding.specs.Rounding.{Divisor}

-- eight readings, none past 2^24 in magnitude
abbrev pub Block : List ℤ → Type 0
Block X = Sized 8 (2 ^ 24) X

-- few enough for their places to fit a byte, and each a divisor that the nearest point takes
pub record UsedSteps (l : List ℤ) : Type 0 where
  pub few : length l ≤ 256
  pub each : (i : ℕ) → i < length l → Divisor («at» l i)
