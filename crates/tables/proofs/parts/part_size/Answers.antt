-- q is positive and at most 4, so its eighth power is far below 2^64.
use Rattle.std.proofs.Common.{◌∙◌, ap, subst, ◌^◌, ◌≤◌, ℤ, nat_abs, arith}
use lib.Dec.{T}
use lib.Signed.{non_neg}
use mir.Facts.{to_z-of_z}
use Rattle.layers.proofs.Laws.Bases.{base-is}
use Rattle.tables.specs.Laws.Entries.{part-most}
use Rattle.tables.specs.Tables.{part_size}
use Rattle.tables.proofs.parts.part_size.Goals as goal

pub overflow_cast-q : goal.overflow_cast-q
overflow_cast-q c = simp (to_z-of_z, c.ranges.q) (subst (λ (z : ℤ). T (non_neg z)) (base-is c.args.q c.requires.0) tt, record { fits = omega (arith, c.requires.1) })

pub pow-requires : goal.pow-requires
unfolding part_size
pow-requires c = let most : nat_abs c.args.q ^ 8 ≤ 65536 = part-most (nat_abs c.args.q) c.requires.1 in simp (to_z-of_z, c.ranges.q) (omega (arith, most))

pub returns : goal.returns
unfolding part_size
returns c = c.pow.ensures ∙ ap (λ (z : ℤ). nat_abs z ^ 8) (to_z-of_z c.ranges.q)
