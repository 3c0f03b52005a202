-- Points of blocks are small.
use Rattle.std.specs.Prelude.{◌≡◌, List, ℕ, ◌+◌, ◌*◌, ◌^◌, ◌<◌, ◌≤◌, ℤ, pos, nat_abs, ◌*ℤ◌, length, ◌<ℤ◌}
use Rattle.std.proofs.Common.{mul-le-mul, le_refl, arith}
use Rattle.std.proofs.Math.Nat.{pow-le-pow_right}
use Rattle.std.specs.Int.Signed.{pos-nat_abs, yes_non_neg}
use Rattle.integers.specs.Laws.Floors.{abs-pos}
use Rattle.integers.specs.Laws.Linear.{Z}
use Rattle.integers.specs.Laws.Sizes.{abs-from, abs-times, abs-mul-le}
use Rattle.integers.specs.Laws.Sums.{sized-map, sized-more}
use Rattle.integers.specs.Vectors.{«at», scale_v, Sized}
use Rattle.rounding.specs.Rounding.{Divisor}
use Rattle.layers.proofs.Laws.Widths.{bounded-within, width-less}
use Rattle.layers.specs.Rule.{Lattice, Rule}
use Rattle.layers.specs.E8.{e8, nearest}
use Rattle.layers.specs.Sizes.{width, long_power}
use Rattle.blocks.specs.Limits.{Block}
use Rattle.blocks.specs.Trials.{point_at}

pub divisor-positive : (s : ℤ) → Divisor s → pos 0 <ℤ s
divisor-positive s h = omega (arith, Z, h.least)

pub divisor-is : (s : ℤ) → Divisor s → pos (nat_abs s) ≡ s
divisor-is s h = pos-nat_abs s (yes_non_neg {z = s} (omega (arith, Z, h.least)))

-- a coordinate of the point that d / s rounds to is not much larger than that of d
pub round-sized : (L : Lattice) (R : Rule L) (B : ℕ) (s : ℤ) (d : List ℤ) → Divisor s → Sized L.size B d → Sized L.size (B + 2 * nat_abs s) (R.round s d)
round-sized L R B s d v h =
    let e : List ℤ = R.round s d in let s> : pos 0 <ℤ s = divisor-positive s v in let long : length e ≡ L.size = L.long e (R.member s s> d h.long) in
    record {
      long = long;
      small = bounded-within L.size (B + 2 * nat_abs s) e long
          λ i l. let x : ℤ = «at» d i in let y : ℤ = «at» e i in
          omega (arith, R.close s s> d h.long i l, abs-from x (s *ℤ y), abs-times s y (abs-pos s v.least), h.small i);
    }

pub doubled-sized : (X : List ℤ) → Block X → Sized 8 (2 ^ 25) (scale_v (pos 2) X)
doubled-sized X h = sized-map 8 (2 ^ 24) X h (λ (x : ℤ). pos 2 *ℤ x) (2 ^ 25) (λ x k. omega (arith, abs-mul-le (pos 2) x {m = 2} (omega arith) k))

pub point-sized : (s : ℤ) (X : List ℤ) → Divisor s → Block X → Sized 8 (2 ^ 26) (point_at e8 nearest s X)
point-sized s X v h = let d : List ℤ = scale_v (pos 2) X in
    sized-more 8 (2 ^ 25 + 2 * nat_abs s) (nearest.round s d) (round-sized e8 nearest (2 ^ 25) s d v (doubled-sized X h)) (2 ^ 26) (omega (arith, v.most))

-- W of no more layers than m is at most 2^17 - 2
pub width-under : (q i m : ℕ) → 2 ≤ q → i ≤ m → q ^ m ≤ long_power → width q i + 2 ≤ 2 ^ 17
width-under q i m two h most = let q> : 0 < q = omega arith in let p : q ^ i ≤ q ^ m = pow-le-pow_right q> h in omega (arith, width-less q i two, most)

-- so s (W + 1) fits an i32
pub reach-under : (q m : ℕ) (s : ℤ) → 2 ≤ q → q ^ m ≤ long_power → Divisor s → nat_abs s * (width q m + 1) < 2 ^ 31
reach-under q m s two most v = let k : width q m + 1 ≤ 131071 = omega (arith, width-under q m m two (le_refl m) most) in omega (arith, mul-le-mul v.most k)
