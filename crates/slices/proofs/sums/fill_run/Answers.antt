-- `fill_run` fills the entries one by one: after t turns the first t are right.
use Rattle.std.proofs.Common.{ℕ, ◌+◌, ◌*◌, ◌%◌, ◌<◌, ℤ, ◌+ℤ◌, length, get_or, sym, ap, arith}
use mir.Syntax.{w32}
use mir.Val.{SFits}
use mir.Facts.{to_z-of_z}
use Rattle.integers.specs.Vectors.{«at», range}
use Rattle.integers.specs.Laws.Loops.{range-long, filled_more, filled-all}
use Rattle.integers.specs.Laws.Sizes.{fits-mag, abs-add}
use Rattle.slices.specs.Sums.{run_at}
use Rattle.slices.specs.Laws.Sums.{range-entry}
use Rattle.slices.proofs.sums.fill_run.Goals as goal

pub loop-t-preserved : goal.loop-t-preserved
loop-t-preserved c =
    let a = c.args in
    let r = c.requires in
    let n : ℕ = length a.run.now in
    let t : ℕ = c.loop-t.t in
    let t< : t < n = omega (arith, c.loop-t-test.true, c.loop-t.invariant.long) in
    let choice : ℕ = get_or a.choices.now t 0 in
    let first : ℤ = «at» a.sums.now (2 * t + choice % 2) in
    let second : ℤ = «at» a.y.now choice in
    let f1 : SFits w32 first = fits-mag w32 first (omega (arith, r.pairs-sized.small (2 * t + choice % 2))) in
    let f2 : SFits w32 second = fits-mag w32 second (omega (arith, r.sums-sized.small choice)) in
    let fs : SFits w32 (first +ℤ second) = fits-mag w32 (first +ℤ second) (omega (arith, abs-add first second, r.pairs-sized.small (2 * t + choice % 2), r.sums-sized.small choice)) in
    let value : ℕ → ℤ = run_at a.sums.now a.y.now a.choices.now in
    rw c.from-c.ensures (simp (to_z-of_z, f1, f2, fs) (filled_more value n (range 0 n) (range-long 0 n) 0 (value t) (ap value (sym (range-entry n t t<))) t< c.loop-t.invariant))

pub returns : goal.returns
returns c = let a = c.args in let n = length a.run.now in
    filled-all (run_at a.sums.now a.y.now a.choices.now) n (range 0 n) (range-long 0 n) (omega (arith, c.loop-t-test.false, c.loop-t.invariant.long)) c.loop-t.invariant
