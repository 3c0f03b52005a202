-- `add_high` goes pair by pair: after c turns the first c pairs are right.
use Rattle.std.proofs.Common.{ℕ, ◌+◌, ◌*◌, ◌^◌, ◌<◌, ◌≤◌, ℤ, nat_abs, ◌+ℤ◌, List, refl, arith}
use lib.ListN.{set}
use mir.Syntax.{w32}
use mir.Val.{SFits}
use mir.Facts.{to_z-of_z}
use Rattle.integers.specs.Vectors.{«at», Sized}
use Rattle.integers.specs.Laws.Sizes.{fits-mag, abs-add}
use Rattle.integers.specs.Laws.Sums.{sized_set}
use Rattle.slices.specs.Sums.{Paired}
use Rattle.slices.specs.Laws.Sums.{paired-more}
use Rattle.slices.proofs.sums.add_high.Goals as goal

-- one sum
module _ (Z : List ℤ) (z : Sized 48 (2 ^ 27) Z) (e : ℤ) (h : nat_abs e ≤ 40 * 2 ^ 24) (i : ℕ) where
  fz : SFits w32 («at» Z i)
  fz = fits-mag w32 («at» Z i) (omega (arith, z.small i))

  small : nat_abs («at» Z i +ℤ e) ≤ 2 ^ 30
  small = omega (arith, abs-add («at» Z i) e, z.small i)

  fits : SFits w32 («at» Z i +ℤ e)
  fits = fits-mag w32 («at» Z i +ℤ e) (omega (arith, small))

-- the sums of the pair k
module _ (Z : List ℤ) (z : Sized 48 (2 ^ 27) Z) (e o : ℤ) (he : nat_abs e ≤ 40 * 2 ^ 24) (ho : nat_abs o ≤ 40 * 2 ^ 24) (k : ℕ) (lt : k < 24) (y : List ℤ) (s : Sized 48 (2 ^ 30) y) where
  abbrev first : ℕ → ℤ
  first c = «at» Z (2 * c) +ℤ e

  abbrev second : ℕ → ℤ
  second c = «at» Z (2 * c + 1) +ℤ o

  more : Paired first second k y → Sized 48 (2 ^ 30) (set (set y (2 * k) (first k)) (2 * k + 1) (second k)) × Paired first second (k + 1) (set (set y (2 * k) (first k)) (2 * k + 1) (second k))
  more p = (
    sized_set 48 (2 ^ 30) _ (sized_set 48 (2 ^ 30) y s (2 ^ 30) (omega arith) (2 * k) (first k) (small Z z e he (2 * k))) (2 ^ 30) (omega arith) (2 * k + 1) (second k) (small Z z o ho (2 * k + 1)),
    paired-more first second k y p (omega (arith, s.long)) (first k) (second k) refl refl,
  )

pub loop-c-preserved : goal.loop-c-preserved
loop-c-preserved c =
    let Z = c.args.z.now in
    let z = c.requires.0 in
    let k = c.loop-c.c in
    let fe = c.ranges.even in
    let fo = c.ranges.odd in
    let p = simp (to_z-of_z, fe, fo) at c.loop-c.invariant.1 in
    simp (to_z-of_z, fe, fo, fz Z z c.args.even c.requires.1 (2 * k), fz Z z c.args.odd c.requires.2 (2 * k + 1), fits Z z c.args.even c.requires.1 (2 * k), fits Z z c.args.odd c.requires.2 (2 * k + 1))
    (more Z z c.args.even c.args.odd c.requires.1 c.requires.2 k c.loop-c-test.true c.loop-c.y c.loop-c.invariant.0 p)
