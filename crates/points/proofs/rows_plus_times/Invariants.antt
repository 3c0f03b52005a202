-- `rows_plus_times` goes row by row: after j turns the first j are right.
use mathlib.Core.Path.{◌≡◌}
use mathlib.Core.List.{List, []}
use Prim.Native.Nat.{ℕ, ◌<◌}
use lib.IntN.{ℤ}
use lib.ListN.{length, get_or}
use Rattle.integers.specs.Vectors.{add_v, scale_v}
use Rattle.points.proofs.rows_plus_times.Given as goal

-- the row t of the sum
abbrev pub sum : ℤ → List (List ℤ) → List (List ℤ) → ℕ → List ℤ
sum q l e t = add_v (get_or l t []) (scale_v q (get_or e t []))

abbrev pub invariant-loop-j : goal.invariant-loop-j
invariant-loop-j l = record { long : length l.r ≡ 8; each : (t : ℕ) → t < l.j → get_or l.r t [] ≡ sum l.q l.l l.e t }
