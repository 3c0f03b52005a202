-- Division of a signed number by a natural number that rounds down, so that the remainder is never negative.
use Rattle.std.specs.Prelude.{ℕ, suc, ◌-◌, ◌/◌, ◌%◌, ℤ, pos, negsuc}

-- the greatest whole number that is at most z / m
abbrev pub floor_div : ℤ → ℕ → ℤ
floor_div (pos n) m = pos (n / m)
floor_div (negsuc n) m = negsuc (n / m)

-- what z is above m times that: from 0 to m - 1
abbrev pub floor_mod : ℤ → ℕ → ℕ
floor_mod (pos n) m = n % m
floor_mod (negsuc n) m = m - suc (n % m)

-- 2^32 over m, rounded down: with it code divides by m many times and takes only products
abbrev pub reciprocal : ℕ → ℕ
reciprocal m = 4294967296 / m
