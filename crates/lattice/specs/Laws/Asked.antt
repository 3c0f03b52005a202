-- What it says that the nearest point was asked for and not refused.
use Rattle.std.specs.Prelude.{◌≡◌, ◌&&◌, List, [], ◌∷◌, ℕ, ◌-◌, ◌^◌, ◌≤◌, eqb, ℤ, pos, nat_abs, ◌*ℤ◌, length, ◌≤ℤ◌, ◌<ℤ◌, Ok}
use Rattle.std.proofs.Math.Decide.{dec_le}
use Rattle.std.proofs.Common.{arith, eqb-true}
use Rattle.std.proofs.Math.ListN.{get_or-eq_default}
use Rattle.refusals.specs.declared.Refusal.TheVariants.{Size, Point}
use Rattle.integers.specs.Laws.Floors.{abs-pos}
use Rattle.integers.specs.Laws.Linear.{Z}
use Rattle.integers.specs.Laws.Sizes.{abs-from, abs-times}
use Rattle.integers.specs.Laws.Tests.{and-true, within-true, between, sized-small}
use Rattle.integers.specs.Vectors.{«at», Sized, within, small}
use Rattle.refusals.specs.Laws.Verdicts.{unless-accepted, first-accepted}
use Rattle.refusals.specs.Limits.{step_most, point_most}
use Rattle.refusals.specs.Verdicts.{unless, Verdict}
use Rattle.lattice.specs.Answers.{check_nearest}
use Rattle.lattice.specs.Computed.{nearest_point}
use Rattle.lattice.specs.Laws.Theorems.{nearest8, nearest8-close}

-- eight numbers of at most 2^26, a divisor from 1 to 1024
pub record Asked (d : List ℤ) (s : ℤ) : Type 0 where
  pub input : Sized 8 point_most d
  pub least : pos 1 ≤ℤ s
  pub most : nat_abs s ≤ step_most

pub accepted-asked : (d : List ℤ) (s : ℤ) → check_nearest d s ≡ Ok tt → Asked d s
unfolding check_nearest
accepted-asked d s e =
    let eight : Verdict = unless (eqb (length d) 8) (Size 0) in let limits : Verdict = unless (small point_most d && within (pos 1) (pos step_most) s) Point in
    let a = first-accepted eight (limits ∷ []) e in let b = first-accepted limits [] a.1 in
    let t = and-true (small point_most d) (within (pos 1) (pos step_most) s) (unless-accepted _ Point b.0) in
    record {
      input = sized-small 8 point_most d (eqb-true (length d) 8 (unless-accepted _ (Size 0) a.0)) t.0;
      least = (within-true (pos 1) (pos step_most) s t.1).0;
      most = (between 1 step_most s t.1).2;
    }

-- a coordinate of the answer is not much larger than that of the input
pub nearest-sized : (d : List ℤ) (s : ℤ) → Asked d s → Sized 8 (2 ^ 31 - 1) (nearest_point s d)
nearest-sized d s h = record { long = long; small = λ i. go i (dec_le 8 i) }
  where
    s> : pos 0 <ℤ s
    s> = omega (arith, Z, h.least)

    long : length (nearest_point s d) ≡ 8
    long = (nearest8 s s> d h.input.long).member.long

    go : (i : ℕ) → Dec (8 ≤ i) → nat_abs («at» (nearest_point s d) i) ≤ 2 ^ 31 - 1
    go i (yes l) = rw (get_or-eq_default (nearest_point s d) (pos 0) {n = i} (omega (arith, long))) (omega arith)
    go i (no l) = let x : ℤ = «at» d i in let y : ℤ = «at» (nearest_point s d) i in
        omega (arith, nearest8-close s s> d h.input.long i (omega arith), abs-from x (s *ℤ y), abs-times s y (abs-pos s h.least), h.input.small i, h.most)
