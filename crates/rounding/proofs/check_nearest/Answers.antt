-- `check_nearest` is the list of checks, test by test.
use mathlib.Core.Path.{◌≡◌, sym, ◌∙◌}
use borrow.Author.Tests.{eq-eqb, ne_eqb}
use lib.IntN.{pos}
use lib.ListN.{length}
use mir.Facts.{to_z-of_z}
use Rattle.integers.specs.Vectors.{within, small}
use Rattle.lattice.specs.Answers.{check_nearest}
use Rattle.rounding.proofs.check_nearest.Goals as goal
use Rattle.rounding.proofs.check_nearest.Goals.{After-small, After-within}

-- what the two tests said
sized : (c : After-small) → c.small.result ≡ small 67108864 c.before.before.args.d.now
sized c = c.small.ensures

ranged : (c : After-within) → c.within.result ≡ within (pos 1) (pos 1024) c.before.before.before.before.args.s
ranged c = simp (to_z-of_z, c.before.before.before.before.ranges.s) at c.within.ensures

pub returns-then-d-ne8 : goal.returns-then-d-ne8
unfolding check_nearest
returns-then-d-ne8 c = rw (ne_eqb (length c.before.args.d.now) 8 c.if-d-ne8.true)

pub returns-then-within : goal.returns-then-within
unfolding check_nearest
returns-then-within c = let w = c.before in let m = w.before.before in let e = m.before in
    rw (eq-eqb (length e.before.args.d.now) 8 e.if-d-ne8.false, sym (sized m) ∙ w.before.if-small.true, sym (ranged w) ∙ c.if-within.true)

pub returns-else-within : goal.returns-else-within
unfolding check_nearest
returns-else-within c = let w = c.before in let m = w.before.before in let e = m.before in
    rw (eq-eqb (length e.before.args.d.now) 8 e.if-d-ne8.false, sym (sized m) ∙ w.before.if-small.true, sym (ranged w) ∙ c.if-within.false)

pub returns-else-small : goal.returns-else-small
unfolding check_nearest
returns-else-small c = let m = c.before in let e = m.before in
    rw (eq-eqb (length e.before.args.d.now) 8 e.if-d-ne8.false, sym (sized m) ∙ c.if-small.false)
