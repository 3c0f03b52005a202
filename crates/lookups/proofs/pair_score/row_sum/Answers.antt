-- `row_sum` goes from the last entry down: it holds the sum of those from i on, which stays small whatever they are.
use Rattle.std.proofs.Common.{◌≡◌, refl, sym, ◌∙◌, List, map, ℕ, ◌*◌, ◌-◌, ◌^◌, ◌<◌, ◌≤◌, ℤ, pos, nat_abs, ◌+ℤ◌, ◌*ℤ◌, length, get_or, arith, w8, w64, to_z}
use Rattle.std.proofs.lemmas.List.{length-map}
use mir.Val.{SFits}
use mir.Facts.{to_z-of_z, sfits_widen}
use Rattle.integers.specs.Laws.Loops.{map_at}
use Rattle.integers.specs.Laws.Sizes.{fits-abs, fits-mul}
use Rattle.integers.specs.Vectors.{«at»}
use Rattle.layers.specs.Laws.Rows.{below_at}
use Rattle.lookups.specs.Laws.Sums.{Summed, summed-none, summed-more, summed-most, summed-all, two-power, read_small}
use Rattle.lookups.proofs.pair_score.row_sum.Goals as goal
use Rattle.lookups.proofs.pair_score.row_sum.Goals.{After-z-in-loop-i-1}
use Rattle.lookups.proofs.pair_score.row_sum.Given.{Over}

module _ (m : ℕ) (few : m ≤ 4) (row : List ℤ) (numbers : List ℕ) (long : length numbers ≡ m) where
  abbrev all : List ℤ
  all = map («at» row) numbers

  all-long : length all ≡ m
  all-long = length-map numbers («at» row) ∙ long

  abbrev Sum : ℕ → ℤ → Type 0
  Sum i z = Summed 2 (2 ^ 7) all i z

  small : (i : ℕ) (z : ℤ) → Sum i z → nat_abs z ≤ 2 ^ 7 * 2 ^ 4
  small i z s = summed-most 2 (2 ^ 7) all i z s (omega arith) (2 ^ 4) (two-power (length all) (omega (arith, all-long)))

  fits : (i : ℕ) (z : ℤ) → Sum i z → SFits w64 z
  fits i z s = fits-abs z (omega (arith, small i z s))

  module _ (i : ℕ) (z : ℤ) (s : Sum i z) where
    above-fits : SFits w64 (pos 2 *ℤ z)
    above-fits = fits-mul (pos 2) z 2 (2 ^ 7 * 2 ^ 4) (omega arith) (small i z s) (omega arith)

    more : 0 < i → i - 1 < m → (x : ℤ) → x ≡ «at» row (get_or numbers (i - 1) 0) → nat_abs x ≤ 2 ^ 7 → Sum (i - 1) (x +ℤ pos 2 *ℤ z)
    more some within x is low = summed-more 2 (2 ^ 7) all i z s (omega arith) some x (is ∙ sym (map_at («at» row) numbers (i - 1) 0 (pos 0) (omega (arith, long, within)))) low

pub loop-i-init : goal.loop-i-init
loop-i-init g c = summed-none 2 (2 ^ 7) (map («at» c.args.row.now) c.args.numbers.now) g.row.M (simp length-map c.told-numbers)

module _ (g : Over) (c : After-z-in-loop-i-1 g) where
  abbrev x : ℤ
  x = «at» c.args.row.now (get_or c.args.numbers.now (c.loop-i.i - 1) 0)

  x_fits : SFits w8 x
  x_fits = record { sfits = c.z-in-loop-i-1.given }

  x-wide : SFits w64 x
  x-wide = sfits_widen tt x_fits

  above : SFits w64 (pos 2 *ℤ to_z w64 c.loop-i.z-bits)
  above = above-fits g.row.M c.requires.1 c.args.row.now c.args.numbers.now c.told-numbers c.loop-i.i _ c.loop-i.invariant

  next : Sum g.row.M c.requires.1 c.args.row.now c.args.numbers.now c.told-numbers (c.loop-i.i - 1) (x +ℤ pos 2 *ℤ to_z w64 c.loop-i.z-bits)
  next = more g.row.M c.requires.1 c.args.row.now c.args.numbers.now c.told-numbers c.loop-i.i _ c.loop-i.invariant c.loop-i-test.true (omega (arith, c.loop-i.auto.i, c.loop-i-test.true)) x refl (read_small (2 ^ 7) x c.z-in-loop-i-1.given)

  next-fits : SFits w64 (x +ℤ pos 2 *ℤ to_z w64 c.loop-i.z-bits)
  next-fits = fits g.row.M c.requires.1 c.args.row.now c.args.numbers.now c.told-numbers (c.loop-i.i - 1) _ next

pub bounds-row-numbers : goal.bounds-row-numbers
bounds-row-numbers g c = omega (arith, c.requires.0, below_at 256 c.args.numbers.now c.requires.2 (c.loop-i.i - 1) (omega (arith, c.told-numbers, c.loop-i.auto.i, c.loop-i-test.true)))

pub overflow_cast-z : goal.overflow_cast-z
overflow_cast-z g c = simp (to_z-of_z, x_fits g c) (x-wide g c)

pub overflow_mul-z : goal.overflow_mul-z
overflow_mul-z g c = above g c

pub overflow_add-z : goal.overflow_add-z
overflow_add-z g c = simp (to_z-of_z, x_fits g c, x-wide g c, above g c) (next-fits g c)

pub loop-i-preserved : goal.loop-i-preserved
loop-i-preserved g c = simp (to_z-of_z, x_fits g c, x-wide g c, above g c, next-fits g c) (next g c)

pub returns : goal.returns
returns g c = let none : c.loop-i.i ≡ 0 = omega (arith, c.loop-i-test.false) in record {
  value = summed-all 2 (2 ^ 7) (map («at» c.args.row.now) c.args.numbers.now) c.loop-i.i _ c.loop-i.invariant none;
  small = small g.row.M c.requires.1 c.args.row.now c.args.numbers.now c.told-numbers c.loop-i.i _ c.loop-i.invariant;
}
