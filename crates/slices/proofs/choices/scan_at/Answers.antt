-- `scan_at` reads the column row by row; what it casts is not negative.
use Rattle.std.proofs.Common.{◌≡◌, sym, ap, subst, ◌≤ℤ◌, List, [], ℕ, ◌<◌, ℤ, pos, nat_abs, get_or, arith, rules}
use lib.Signed.{yes_non_neg}
use mir.Syntax.{w16}
use mir.Val.{SFits}
use mir.Facts.{to_z-of_z}
use Rattle.integers.specs.Vectors.{«at»}
use Rattle.columns.specs.Columns.{column, Grid}
use Rattle.slices.specs.Lanes.{Whole}
use Rattle.slices.specs.Laws.Lanes.{column-at}
use Rattle.slices.specs.Laws.Merging.{scan-is}
use Rattle.slices.proofs.choices.scan_at.Goals as goal

-- the entry of the row j
module _ (lanes : List (List ℤ)) (t : ℕ) where
  abbrev x : ℕ → ℤ
  x j = get_or (get_or lanes j []) t (pos 0)

  x-is : Grid 7 256 lanes → (j : ℕ) → j < 7 → x j ≡ «at» (column (pos 0) t lanes) j
  x-is g j h = sym (column-at (pos 0) t lanes j (omega (arith, g.long)))

-- an entry of the first three rows is not negative
casts : (lanes : List (List ℤ)) (t : ℕ) → Grid 7 256 lanes → Whole (column (pos 0) t lanes) → (j : ℕ) → j < 3 → pos 0 ≤ℤ x lanes t j
casts lanes t g h j l = subst (λ (z : ℤ). pos 0 ≤ℤ z) (sym (x-is lanes t g j (omega arith))) (h j l)

pub overflow_cast-result-2 : goal.overflow_cast-result-2
overflow_cast-result-2 c =
    let f : SFits w16 (x c.args.lanes.now c.args.t 1) = search rules in
    simp (to_z-of_z, f) (yes_non_neg (casts c.args.lanes.now c.args.t c.requires.0 c.requires.2 1 (omega arith)), search rules)

pub overflow_cast-result-3 : goal.overflow_cast-result-3
overflow_cast-result-3 c =
    let f : SFits w16 (x c.args.lanes.now c.args.t 2) = search rules in
    simp (to_z-of_z, f) (yes_non_neg (casts c.args.lanes.now c.args.t c.requires.0 c.requires.2 2 (omega arith)), search rules)

pub returns : goal.returns
returns c =
    let lanes = c.args.lanes.now in
    let t = c.args.t in
    let e = x-is lanes t c.requires.0 in
    let f0 : SFits w16 (x lanes t 0) = search rules in
    let f1 : SFits w16 (x lanes t 1) = search rules in
    let f2 : SFits w16 (x lanes t 2) = search rules in
    let f3 : SFits w16 (x lanes t 3) = search rules in
    let f4 : SFits w16 (x lanes t 4) = search rules in
    let f5 : SFits w16 (x lanes t 5) = search rules in
    simp (to_z-of_z, f0, f1, f2, f3, f4, f5)
    (scan-is (ap nat_abs (e 0 (omega arith))) (ap nat_abs (e 1 (omega arith))) (ap nat_abs (e 2 (omega arith))) (e 3 (omega arith)) (e 4 (omega arith)) (e 5 (omega arith)))
