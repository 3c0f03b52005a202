-- `put_run` lends the run's entries to `choose_run`; they come back as its choices.
use mathlib.Core.Path.{◌≡◌, sym, subst}
use mathlib.Core.List.{List}
use Prim.Native.Nat.{ℕ, ◌+◌, ◌-◌}
use native.Mathlib.Omega.{arith}
use borrow.Rule.Slice.PartMut.{put_mid}
use lib.IntN.{ℤ}
use lib.ListN.{length, take, drop, length-take, length-drop}
use mir.Facts.{to_z-of_z}
use Rattle.columns.specs.Narrow.{wide}
use Rattle.rounding.specs.Pass.{Scan}
use Rattle.slices.specs.Lanes.{Run, RunPut}
use Rattle.slices.specs.Laws.Choices.{run-put}
use Rattle.slices.proofs.choices.put_run.Goals as goal
use Rattle.slices.proofs.choices.put_run.Goals.{After-choose_run, Start}

module _ (s : Start) where
  abbrev i : ℕ
  i = s.args.i

  abbrev n : ℕ
  n = s.args.n

  abbrev found : List ℕ
  found = s.args.choices.now

  whole : i + n - i ≡ n
  whole = omega arith

  part-long : length (take (i + n - i) (drop i found)) ≡ n
  part-long = simp (length-take, length-drop) (omega (arith, s.requires.5))

-- the entries are chosen, and come back
module _ (c : After-choose_run) where
  abbrev b : Start
  b = c.before.before.before

  abbrev q : ℤ
  q = b.args.q

  abbrev high : Scan
  high = wide b.args.high

  abbrev lanes : List (List ℤ)
  lanes = b.args.lanes.now

  abbrev run : List ℕ
  run = c.choose_run.new.run

  run_is : Run q b.args.from (n b) lanes high run
  run_is = subst (λ (m : ℕ). Run q b.args.from m lanes high run) (part-long b) (simp (to_z-of_z, b.ranges.q) at c.choose_run.ensures)

  put_is : RunPut q b.args.from (n b) lanes high (i b) (found b) (put_mid (i b) (i b + n b - i b) (found b) run)
  put_is = subst (λ (m : ℕ). RunPut q b.args.from (n b) lanes high (i b) (found b) (put_mid (i b) m (found b) run)) (sym (whole b))
      (run-put q b.args.from (n b) lanes high (i b) (found b) run b.requires.5 run_is)

pub returns : goal.returns
returns c = put_is c.before.before.before
