-- A signed number z over a natural number c: the whole number nearest to z / c, and z / c as a single-precision float.
use Rattle.std.specs.Prelude.{ℕ, suc, ◌*◌, Bool, true, false, cond, ltb, ℤ, pos, negsuc, neg_ℤ, ◌+ℤ◌, Float}
use Rattle.std.specs.Float.{binary32}
use Rattle.std.specs.Float.Ieee.{round}
use Rattle.std.specs.Float.Ieee.Exact.{HasValue}
use Rattle.integers.specs.Floor.{floor_div, floor_mod}

-- n, or -n where the sign is set
abbrev pub signed : Bool → ℕ → ℤ
signed false n = pos n
signed true n = neg_ℤ (pos n)

-- the whole number nearest to z / c: the one below, or the next one where more than half is left, so that an exact half goes to the lower
unfoldable pub nearest : ℤ → ℕ → ℤ
nearest z c = cond (ltb c (2 * floor_mod z c)) (floor_div z c +ℤ pos 1) (floor_div z c)

-- the float nearest to z / c, with +0.0 for 0
abbrev pub fraction : ℤ → ℕ → Float
fraction (pos n) c = round binary32 false n c
fraction (negsuc n) c = round binary32 true (suc n) c

-- the float x is z / c with nothing lost, and is +0.0 where z is 0
abbrev pub Exactly : Float → ℤ → ℕ → Type 0
Exactly x (pos n) c = HasValue x false n c
Exactly x (negsuc n) c = HasValue x true (suc n) c
