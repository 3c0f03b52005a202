-- `fill_blocks` goes through the last digits: after those below d the first q^7 d entries of every part are right.
use Rattle.std.proofs.Common.{◌≡◌, sym, ◌∙◌, ap, subst, List, ℕ, ◌+◌, ◌*◌, ◌/◌, ◌^◌, ◌<◌, ◌≤◌, ℤ, nat_abs, length, arith}
use mir.Syntax.{w16}
use mir.Val.{SFits}
use mir.Facts.{to_z-of_z}
use Rattle.integers.specs.Laws.Sizes.{fits-mag}
use Rattle.layers.specs.Sizes.{Base}
use Rattle.layers.proofs.Laws.Bases.{base-two}
use Rattle.records.specs.Laws.Parts.{part-ends}
use Rattle.slices.specs.Laws.Slices.{point_by-is, slice-sizes}
use Rattle.slices.specs.Slices.{Slice, Sizes, point_by}
use Rattle.tables.specs.Groups.{GroupFilled}
use Rattle.tables.specs.Laws.Entries.{part-most, part-slices, slice-size}
use Rattle.tables.specs.Laws.Groups.{FilledTo, filled_more, filled-all}
use Rattle.tables.specs.Tables.{part_size, layer_at}
use Rattle.tables.proofs.query_table.fill_blocks.Goals as goal

module _ (z : ℤ) (base : Base z) (most : nat_abs z ≤ 4) where
  abbrev q : ℕ
  q = nat_abs z

  q> : 0 < q
  q> = omega (arith, base-two z base)

  base-fits : SFits w16 z
  base-fits = fits-mag w16 z (omega (arith, most))

  -- the entries of a part and of a slice, the slice of d, and its choices and rests
  module _ (size : ℕ) (size_is : size ≡ part_size q) (d : ℕ) (less : d < q) (halves : List ℕ) (lows highs : List (List ℤ)) (slice : Slice z d halves lows highs) where
    abbrev n : ℕ
    n = size / q

    abbrev point : ℕ → List ℤ
    point = point_by z halves lows highs

    n-is : n ≡ q ^ 7
    n-is = ap (λ (m : ℕ). m / q) size_is ∙ slice-size q q>

    ends : q ^ 7 * d + q ^ 7 ≤ part_size q
    ends = omega (arith, part-ends (q ^ 7) d q less, part-slices q)

    ends-n : n * d + n ≤ size
    ends-n = subst (λ (m : ℕ). n * d + n ≤ m) (sym size_is) (subst (λ (m : ℕ). m * d + m ≤ part_size q) (sym n-is) ends)

    sizes : Sizes z halves lows highs
    sizes = slice-sizes z base most d less halves lows highs slice

    point-is : (j : ℕ) → j < q ^ 7 → point j ≡ layer_at q (q ^ 7 * d + j)
    point-is j h = point_by-is z base most d less halves lows highs slice j h ∙ ap (layer_at q) (omega arith)

    -- all parts have this slice's entries
    module _ (k : ℕ) (X found entries more : List ℤ) (filled : FilledTo q k X found (q ^ 7 * d) entries) where
      more-is : GroupFilled size (n * d) n point X entries k more → FilledTo q k X found (q ^ 7 * (d + 1)) more
      more-is g = subst (λ (i : ℕ). FilledTo q k X found i more) (omega arith)
          (filled_more q k X found (q ^ 7 * d) entries filled (q ^ 7) point more
          (subst (λ (m : ℕ). GroupFilled (part_size q) (m * d) m point X entries k more) n-is (subst (λ (m : ℕ). GroupFilled m (n * d) n point X entries k more) size_is g)) ends point-is)

pub fill_slices-requires : goal.fill_slices-requires
fill_slices-requires c =
    let z = c.args.q in
    let fq = c.ranges.q in
    let base = c.requires.0 in
    let most = c.requires.1 in
    let fb = base-fits z base most in
    let size : ℕ = c.part_size-size.result in
    let size_is = simp (to_z-of_z, fq) at c.part_size-size.ensures in
    let less = simp (to_z-of_z, fq) at c.loop-last-test.true in
    let slice = simp (to_z-of_z, fq, fb) at c.fill.ensures in
    let filled = simp (to_z-of_z, fq) at c.loop-last.invariant.3 in
    let d = c.loop-last.last in
    let halves = c.fill.new.self.choices in
    let lows = c.fill.new.self.lows in
    let highs = c.fill.new.self.highs in
    let room : size * c.args.k ≤ length c.loop-last.entries = subst (λ (m : ℕ). m * c.args.k ≤ length c.loop-last.entries) (sym size_is) (omega (arith, c.requires.3, filled.long)) in
    let whole : size ≤ 65536 = omega (arith, size_is, part-most (nat_abs z) most) in
    simp (to_z-of_z, fq, fb) (
      sizes z base most size size_is d less halves lows highs slice,
      n-is z base most size size_is d less halves lows highs slice,
      c.requires.2,
      ends-n z base most size size_is d less halves lows highs slice,
      whole,
      c.requires.4,
      room,
    )

pub loop-last-preserved : goal.loop-last-preserved
loop-last-preserved c =
    let z = c.args.q in
    let fq = c.ranges.q in
    let base = c.requires.0 in
    let most = c.requires.1 in
    let fb = base-fits z base most in
    let size : ℕ = c.part_size-size.result in
    let size_is = simp (to_z-of_z, fq) at c.part_size-size.ensures in
    let less = simp (to_z-of_z, fq) at c.loop-last-test.true in
    let slice = simp (to_z-of_z, fq, fb) at c.fill.ensures in
    let filled = simp (to_z-of_z, fq) at c.loop-last.invariant.3 in
    let group = simp (to_z-of_z, fq, fb) at c.fill_slices.ensures in
    let d = c.loop-last.last in
    let halves = c.fill.new.self.choices in
    let lows = c.fill.new.self.lows in
    let highs = c.fill.new.self.highs in
    let more = more-is z base most size size_is d less halves lows highs slice c.args.k c.args.x.now c.args.entries.now c.loop-last.entries c.fill_slices.new.entries filled group in
    simp (to_z-of_z, fq) (slice.choices-long, slice.lows-long, slice.highs-long, more)

pub returns : goal.returns
returns c =
    let q = nat_abs c.args.q in
    let k = c.args.k in
    let X = c.args.x.now in
    let found = c.args.entries.now in
    let fq = c.ranges.q in
    let d-most = simp (to_z-of_z, fq) at c.loop-last.auto.last-end in
    let d-least = simp (to_z-of_z, fq) at c.loop-last-test.false in
    let filled = simp (to_z-of_z, fq) at c.loop-last.invariant.3 in
    let e : c.loop-last.last ≡ q = omega (arith, d-most, d-least) in
    let all : q ^ 7 * q ≡ part_size q = omega (arith, part-slices q) in
    filled-all q k X found c.loop-last.entries (subst (λ (i : ℕ). FilledTo q k X found i c.loop-last.entries) (ap (λ (d : ℕ). q ^ 7 * d) e ∙ all) filled) c.requires.3
