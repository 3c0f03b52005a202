-- `nearest_size` adds half of 2 ^ k, less one where a half stays below, and shifts: the law `nearest-signed`.
use mathlib.Core.Path.{◌≡◌, sym, ◌∙◌, ap}
use mathlib.Core.Bool.{cond}
use Prim.Native.Nat.{ℕ, ◌+◌, ◌*◌, ◌-◌, ◌%◌, ◌^◌, ◌≤◌}
use native.Mathlib.Nat.{one-mul, two-pow-succ, div-le_self, le_trans}
use native.Mathlib.Numerals.{add-one}
use native.Mathlib.Omega.{arith}
use lib.Dec.{lit<}
use lib.Pow.{pow_pos, pow_mono, shl_exact}
use Rattle.readings.proofs.Laws.Nearest.{nearest-signed}
use Rattle.readings.proofs.pattern.nearest_size.Goals as goal
use Rattle.readings.proofs.pattern.nearest_size.Goals.{Start}

module _ (start : Start) where
  abbrev m : ℕ
  m = start.args.m

  abbrev k : ℕ
  k = start.args.k

  power : 1 * 2 ^ k % 4294967296 ≡ 2 ^ k
  power = shl_exact {a = 1} 1 k 32 (lit< tt) (omega (arith, start.requires.1)) ∙ one-mul (2 ^ k)

  top : 2 ^ k ≤ 2 ^ 25
  top = pow_mono start.requires.1

  twice : 2 ^ (k + 1) ≡ 2 ^ k + 2 ^ k
  twice = ap (λ (j : ℕ). 2 ^ j) (add-one k) ∙ two-pow-succ k

pub overflow_add-result-2 : goal.overflow_add-result-2
overflow_add-result-2 start = omega (arith, power start, top start)

pub overflow_sub-result : goal.overflow_sub-result
overflow_sub-result c = let start = c.before in omega (arith, power start, pow_pos (k start), c.half_less.ensures.1)

pub returns : goal.returns
returns c =
    let start = c.before in let sum = m start + m start + 2 ^ k start in
    rw (power start, c.half_less.ensures.0, twice start) record { small = le_trans (div-le_self (sum - cond start.args.negative 0 1) (2 ^ k start + 2 ^ k start)) (omega (arith, top start, start.requires.0)); nearest = sym (nearest-signed (m start) (2 ^ k start) (pow_pos (k start)) start.args.negative) }
