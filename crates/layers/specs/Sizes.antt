-- How large coordinates become, and the limits that keep them small (01, Layers and steps).
use Rattle.std.specs.Prelude.{cond, ℕ, zero, suc, ◌+◌, ◌*◌, ◌^◌, ◌≤◌, leb, ℤ, pos, nat_abs, ◌≤ℤ◌}
use Rattle.refusals.specs.Limits.{power_most}

-- W = q + q² + .. + q^m, which is q (q^m - 1) / (q - 1): no coordinate of a whole point is larger, not doubled
abbrev pub width : ℕ → ℕ → ℕ
width q zero = 0
width q (suc m) = q + q * width q m

-- q^M with more layers (02, 13)
abbrev pub long_power : ℕ
long_power = 65536

-- W': where scores gain a factor q (02, 6), q (W + 1); past 4096 there is none (02, 13), and W
abbrev pub score_width : ℕ → ℕ → ℕ
score_width q m = cond (leb (q ^ m) power_most) (q * (width q m + 1)) (width q m)

-- a q that the code takes: from 2, and each digit fits a byte
pub record Base (q : ℤ) : Type 0 where
  pub least : pos 2 ≤ℤ q
  pub most : nat_abs q ≤ 256
