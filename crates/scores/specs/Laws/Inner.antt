-- Inner products of doubled points: a quarter is exact, and those of whole points are weighted sums over layers.
use Rattle.std.specs.Prelude.{◌≡◌, refl, List, ℕ, ◌*◌, ℤ, pos, nat_abs, ◌+ℤ◌, ◌*ℤ◌}
use Rattle.std.proofs.Common.{sym, ◌∙◌, ap, arith}
use Rattle.std.proofs.Math.IntN.{+ℤ_idr}
use Rattle.integers.specs.Floor.{floor_div}
use Rattle.integers.specs.Laws.Floors.{floor-split}
use Rattle.integers.specs.Laws.Sizes.{abs-mul}
use Rattle.integers.specs.Vectors.{dot}
use Rattle.lattice.specs.Doubled.{E8}
use Rattle.lattice.specs.Laws.Rows.{four-mod}
use Rattle.layers.specs.Laws.Inner.{dot-four}
use Rattle.scores.specs.Scores.{inner}

-- four times the inner product of two doubled points is the sum of e_i·f_i, so that nothing is lost by the division
pub inner-four : (e f : List ℤ) → E8 e → E8 f → pos 4 *ℤ inner e f ≡ dot e f
unfolding inner
inner-four e f h k = let z : ℤ = dot e f in
    sym (floor-split z 4 (omega arith) ∙ ap (λ (r : ℕ). pos 4 *ℤ floor_div z 4 +ℤ pos r) (four-mod z (dot-four 8 refl e f h k)) ∙ +ℤ_idr (pos 4 *ℤ floor_div z 4))

-- so it is a quarter as large
pub inner-size : (e f : List ℤ) → E8 e → E8 f → 4 * nat_abs (inner e f) ≡ nat_abs (dot e f)
inner-size e f h k = sym (abs-mul (pos 4) (inner e f)) ∙ ap nat_abs (inner-four e f h k)
