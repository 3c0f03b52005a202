-- One factor more is at most all of them.
use Rattle.std.proofs.Common.{ℕ, zero, suc, ◌*◌, ◌^◌, ◌<◌, ◌≤◌, arith}
use Rattle.std.proofs.Math.Nat.{pow-suc, pow-le-pow_right}
use Rattle.integers.proofs.power.Goals as goal

grows : (q i m : ℕ) → i < m → q ^ m < 2 ^ 64 → q ^ i * q < 2 ^ 64
grows zero i m l h = omega arith
grows (suc q) i m l h = let g : suc q ^ suc i ≤ suc q ^ m = pow-le-pow_right (omega arith) l in omega (arith, pow-suc (suc q) i)

pub overflow_mul-p : goal.overflow_mul-p
overflow_mul-p c = rw c.loop.invariant (record { fits = grows c.args.q c.loop.counter c.args.m c.loop-test.true c.requires })
