-- `choose_run` takes column after column: after t turns the first t choices are right.
use Rattle.std.proofs.Common.{◌≡◌, sym, ◌∙◌, ap, ap₂, subst, List, [], ℕ, ◌+◌, ◌<◌, ◌≤◌, ℤ, pos, nat_abs, length, get_or, arith, rules}
use mir.Syntax.{w16}
use mir.Val.{SFits}
use mir.Facts.{to_z-of_z}
use Rattle.integers.specs.Vectors.{«at»}
use Rattle.columns.specs.Columns.{column, Grid}
use Rattle.columns.specs.Narrow.{Slender, wide, brief}
use Rattle.rounding.specs.Pass.{Scan}
use Rattle.rounding.specs.Pass.{chosen}
use Rattle.slices.specs.Lanes.{scan_of, code_by}
use Rattle.slices.specs.Laws.Choices.{run_more}
use Rattle.slices.specs.Laws.Lanes.{column-at, lane-slender}
use Rattle.slices.specs.Slices.{code_of, merge}
use Rattle.slices.proofs.choices.choose_run.Goals as goal
use Rattle.slices.proofs.choices.choose_run.Goals.{After-merged}

-- the way of a column
way-is : (lanes : List (List ℤ)) (t : ℕ) → Grid 7 256 lanes → get_or (get_or lanes 6 []) t (pos 0) ≡ «at» (column (pos 0) t lanes) 6
way-is lanes t g = sym (column-at (pos 0) t lanes 6 (omega (arith, g.long)))

-- what the column and the pass over the high coordinates have seen
both_is : (c : After-merged) → wide c.merged.result ≡ merge (scan_of (column (pos 0) (c.args.from + c.loop-t.t) c.args.lanes.now)) (wide c.args.high)
both_is c = c.merged.ensures ∙ ap (λ (a : Scan). merge a (wide c.args.high)) c.scan_at-low.ensures

pub code-requires : goal.code-requires
code-requires c =
    let q = c.args.q in
    let lanes = c.args.lanes.now in
    let t = c.loop-t.t in
    let place : ℕ = c.args.from + t in
    let t< : t < length c.args.run.now = omega (arith, c.loop-t-test.true, c.loop-t.auto.run) in
    let lane = c.requires.3 t t< in
    let f : SFits w16 (get_or (get_or lanes 6 []) place (pos 0)) = search rules in
    let both = both_is (goal.at.code-requires c).After-merged in
    simp (to_z-of_z, c.ranges.q, f) (
      c.requires.0,
      subst (Slender q) (sym both) (lane-slender q c.requires.0 (column (pos 0) place lanes) (wide c.args.high) lane c.requires.4),
      subst (λ (z : ℤ). nat_abs z ≤ 1) (sym (way-is lanes place c.requires.1)) lane.way,
    )

pub loop-t-preserved : goal.loop-t-preserved
loop-t-preserved c =
    let q = c.args.q in
    let lanes = c.args.lanes.now in
    let high = wide c.args.high in
    let t = c.loop-t.t in
    let place : ℕ = c.args.from + t in
    let t< : t < length c.loop-t.run = omega (arith, c.loop-t-test.true, c.loop-t.auto.run) in
    let f : SFits w16 (get_or (get_or lanes 6 []) place (pos 0)) = search rules in
    let both = both_is (goal.at.loop-t-preserved c).After-merged in
    let code_is : c.code.result ≡ code_by q (column (pos 0) place lanes) high =
    (simp (to_z-of_z, c.ranges.q, f) at c.code.ensures).0 ∙ ap₂ (λ (n : Scan) (z : ℤ). code_of (brief (chosen q n z))) both (way-is lanes place c.requires.1) in
    simp (to_z-of_z, c.ranges.q) (run_more q c.args.from lanes high t c.loop-t.run c.code.result t< (simp (to_z-of_z, c.ranges.q) at c.loop-t.invariant) code_is)

pub returns : goal.returns
returns c =
    let inv = simp (to_z-of_z, c.ranges.q) at c.loop-t.invariant in
    record { long = c.loop-t.auto.run; each = λ t h. inv t (omega (arith, c.loop-t-test.false, c.loop-t.auto.run)) }
