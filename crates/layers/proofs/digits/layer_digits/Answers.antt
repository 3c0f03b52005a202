-- A layer's digits are the remainders of the coefficients.
use mathlib.Core.Path.{sym, ◌∙◌, ap, subst}
use mathlib.Core.List.{List, ◌++◌}
use Prim.Native.Nat.{◌*◌, ◌^◌}
use native.Mathlib.Omega.{arith}
use lib.IntN.{ℤ, nat_abs}
use lib.ListN.{drop}
use mir.Facts.{to_z-of_z}
use Rattle.integers.specs.Laws.Sums.{sized-more}
use Rattle.integers.specs.Vectors.{Sized}
use Rattle.lattice.specs.Basis.{coefficients}
use Rattle.layers.proofs.Laws.Bases.{coefficients-sized}
use Rattle.layers.specs.Layers.{remainders, layer_digits}
use Rattle.layers.proofs.digits.layer_digits.Goals as goal

pub coefficients-c-requires : goal.coefficients-c-requires
coefficients-c-requires c = sized-more 8 (2 ^ 26) c.before.args.e.now c.before.requires.1 (2 ^ 32) (omega arith)

pub remainders-requires : goal.remainders-requires
remainders-requires c = let r = c.before.before in let s = r.before.before in let e : List ℤ = s.args.e.now in
    simp (to_z-of_z, s.ranges.q, s.ranges.w)
    (s.requires.0, subst (Sized 8 (2 ^ 31)) (sym r.coefficients-c.ensures) (sized-more 8 (24 * 2 ^ 26) (coefficients e) (coefficients-sized (2 ^ 26) e s.requires.1) (2 ^ 31) (omega arith)), s.requires.2, s.requires.3)

pub returns : goal.returns
unfolding layer_digits
returns c = let r = c.before.before in let s = r.before.before.before.before.before in
    (simp (to_z-of_z, s.ranges.q) at r.remainders.ensures) ∙ ap (λ (e : List ℤ). remainders (nat_abs s.args.q) e ++ drop 8 s.args.out.now) r.before.before.before.coefficients-c.ensures
