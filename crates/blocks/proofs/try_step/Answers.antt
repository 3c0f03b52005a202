-- `try_step` doubles, rounds and writes digits; the point is never too large for its digits.
use mathlib.Core.Path.{◌≡◌, sym, ◌∙◌, ap, ap₂, subst}
use mathlib.Core.List.{List, ◌++◌}
use Prim.Native.Nat.{ℕ, ◌*◌, ◌^◌}
use native.Mathlib.Omega.{arith}
use lib.IntN.{ℤ, nat_abs}
use lib.ListN.{drop}
use mir.Syntax.{w64}
use mir.Val.{to_z, of_z}
use mir.Facts.{to_z-of_z}
use Rattle.integers.specs.Laws.Sums.{sized-more}
use Rattle.integers.specs.Vectors.{Sized}
use Rattle.lattice.specs.Computed.{nearest_point}
use Rattle.layers.specs.E8.{e8, nearest, digits8, leftover8}
use Rattle.blocks.specs.Laws.Sizes.{doubled-sized, point-sized}
use Rattle.blocks.specs.Trials.{point_at}
use Rattle.blocks.proofs.try_step.Goals as goal
use Rattle.blocks.proofs.try_step.Goals.{Start}
use Rattle.blocks.proofs.try_step.Lts as lts
use Rattle.blocks.proofs.try_step.Tie as tie
use Rattle.blocks.proofs.try_step.Reads as reads

abbrev After-nearest_point-point : Type 0
After-nearest_point-point = lts.After-nearest_point tie.the-claims reads.Pre reads.Post tie.handed_clauses

pub nearest_point-point-requires : goal.nearest_point-point-requires
nearest_point-point-requires c = let d = c.before in let s = d.before.before in
    simp (to_z-of_z, s.ranges.s) (s.requires.1, subst (Sized 8 (2 ^ 30)) (sym d.doubled.ensures) (sized-more 8 (2 ^ 25) _ (doubled-sized s.args.x.now s.requires.0) (2 ^ 30) (omega arith)))

-- the point
module _ (c : After-nearest_point-point) where
  abbrev s : Start
  s = c.before.before.before.before

  abbrev q : ℕ
  q = nat_abs s.args.q

  abbrev point : List ℤ
  point = point_at e8 nearest s.args.s s.args.x.now

  point-is : c.nearest_point-point.result ≡ point
  point-is = (simp (to_z-of_z, s.ranges.s) at c.nearest_point-point.ensures) ∙ ap (nearest_point s.args.s) c.before.before.doubled.ensures

pub digits-leftover-requires : goal.digits-leftover-requires
digits-leftover-requires c = let p = c.before.before in let b = s p in
    simp (to_z-of_z, b.ranges.q) (b.requires.2, subst (Sized 8 (2 ^ 26)) (sym (point-is p)) (point-sized b.args.s b.args.x.now b.requires.1 b.requires.0), b.requires.3)

-- q and the point, as the digits were given them
same : {A : Type 0} (f : ℕ → List ℤ → A) (p : After-nearest_point-point) → f (nat_abs (to_z w64 (of_z w64 (s p).args.q))) p.nearest_point-point.result ≡ f (q p) (point p)
same f p = ap₂ (λ (z : ℤ) (e : List ℤ). f (nat_abs z) e) (to_z-of_z (s p).ranges.q) (point-is p)

pub returns : goal.returns
returns c = let d = c.before.before in let p = d.before.before.before in let m = (s p.before).args.m in let out = (s p.before).args.out.now in record { answer = ap₂ (λ (e f : List ℤ). record { point = e; leftover = f }) (point-is p.before) (d.digits-leftover.ensures.0 ∙ same (λ (q : ℕ). leftover8 q m) p.before); room = d.digits-leftover.ensures.1 ∙ same (λ (q : ℕ) (e : List ℤ). digits8 q m e ++ drop (8 * m) out) p.before }
