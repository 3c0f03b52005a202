-- `block_pair_by` goes from the first block's top layer down: it holds the sums of the rows of the layers from i on, which stay small whatever the table holds.
use Rattle.std.proofs.Common.{◌≡◌, sym, ◌∙◌, ap, ap₂, subst, List, map, ℕ, ◌+◌, ◌*◌, ◌-◌, ◌^◌, ◌<◌, ◌≤◌, ℤ, pos, nat_abs, ◌+ℤ◌, ◌*ℤ◌, length, take, drop, arith, w64, to_z}
use mir.Val.{SFits}
use mir.Facts.{to_z-of_z}
use lib.ListN.{length-take, length-drop}
use Rattle.integers.specs.Laws.Loops.{rest-whole}
use Rattle.integers.specs.Laws.Sizes.{fits-abs, fits-mul, abs-mul-le}
use Rattle.integers.specs.Vectors.{«at»}
use Rattle.layers.specs.Digits.{Below, IsLayer, IsCode, cut, entry_of}
use Rattle.layers.proofs.Laws.Loops.{code-layer}
use Rattle.layers.specs.Laws.Rows.{cut-layers}
use Rattle.records.specs.Eight.Codes.{step_of}
use Rattle.scores.specs.Laws.Sizes.{step_small}
use Rattle.tables.specs.Laws.Entries.{entry-within, block-layer}
use Rattle.lookups.proofs.Laws.Rows.{entries_below, row-sum-is}
use Rattle.lookups.specs.Laws.Sums.{power_sum, Summed, summed-none, summed-more, summed-most, summed-all, terms, terms-long, terms-at, pair-power, two-power}
use Rattle.lookups.specs.Scoring.{pair_entry, block_pair_by}
use Rattle.tables.specs.Tables.{part_size}
use Rattle.lookups.proofs.pair_score.block_pair_by.Goals as goal
use Rattle.lookups.proofs.pair_score.block_pair_by.Goals.{After-row_sum, After-step_of-2}
use Rattle.lookups.proofs.pair_score.block_pair_by.Given.{Over}
use Rattle.lookups.proofs.pair_score.block_pair_by.Invariants.{B, row_sum}

-- the sums of the rows
module _ (t : List ℤ) (m : ℕ) (b b' : List ℕ) where
  abbrev all : List ℤ
  all = terms (row_sum t m b') m (drop 1 b)

  all-long : length all ≡ m
  all-long = terms-long (row_sum t m b') m (drop 1 b)

  small : m ≤ 4 → (i : ℕ) (z : ℤ) → Summed 2 B all i z → nat_abs z ≤ B * 2 ^ 4
  small few i z h = summed-most 2 B all i z h (omega arith) (2 ^ 4) (two-power (length all) (omega (arith, all-long)))

-- layer j, as it is lent
module _ (m : ℕ) (b : List ℕ) (code : IsCode 8 2 m (drop 1 b)) (j : ℕ) (within : j < m) where
  abbrev digits : List ℕ
  digits = take 8 (drop (8 * j) (drop 1 b))

  abbrev lent : List ℕ
  lent = take (8 * j + 1 + 8 - (8 * j + 1)) (drop (8 * j + 1) b)

  layer : IsLayer 8 2 digits
  layer = code-layer 8 2 m (drop 1 b) code j within

  lent-layer : IsLayer 8 2 lent
  lent-layer = subst (IsLayer 8 2) (sym (block-layer b j)) layer

  number_below : (n : ℕ) → n ≡ entry_of 2 lent → n < 256
  unfolding part_size
  number_below n e = omega (arith, entry-within 2 lent lent-layer)

-- the numbers of the second block's layers
numbers-are : (m : ℕ) (b : List ℕ) (ns : List ℕ) → ns ≡ map (entry_of 2) (cut 8 m (take (length b - 1) (drop 1 b))) → ns ≡ map (entry_of 2) (cut 8 m (drop 1 b))
numbers-are m b ns e = e ∙ ap (λ (f : List ℕ). map (entry_of 2) (cut 8 m f)) (rest-whole 1 b)

-- the sum of a row
module _ (g : Over) (c : After-row_sum g) where
  abbrev m : ℕ
  m = g.row.M

  abbrev t : List ℤ
  t = c.args.table.now

  abbrev b : List ℕ
  b = c.args.b.now

  abbrev b' : List ℕ
  b' = c.args.b2.now

  abbrev j : ℕ
  j = c.loop-i.i - 1

  abbrev n : ℕ
  n = c.entry_number-from.result

  abbrev x : ℤ
  x = c.row_sum.result

  abbrev z : ℤ
  z = to_z w64 c.loop-i.z-bits

  within : j < m
  within = omega (arith, c.loop-i.auto.i, c.loop-i-test.true)

  few : m ≤ 4
  few = c.requires.0.few

  x_fits : SFits w64 x
  x_fits = record { sfits = c.row_sum.type_inv }

  x-is : x ≡ row_sum t m b' (digits m b c.requires.2.code j within)
  x-is = let d : List ℕ = digits m b c.requires.2.code j within in let whole : 256 * n + 256 - 256 * n ≡ 256 = omega arith in
      c.row_sum.ensures.value
      ∙ ap₂ (λ (w : ℕ) (ns : List ℕ). power_sum 2 (map («at» (take w (drop (256 * n) t))) ns)) whole (numbers-are m b' c.entry_numbers-numbers.result c.entry_numbers-numbers.ensures)
      ∙ ap (λ (n : ℕ). power_sum 2 (map («at» (take 256 (drop (256 * n) t))) (map (entry_of 2) (cut 8 m (drop 1 b'))))) (c.entry_number-from.ensures ∙ ap (entry_of 2) (block-layer b j))
      ∙ row-sum-is t d m (cut 8 m (drop 1 b')) (cut-layers 8 2 m (drop 1 b') c.requires.3.code)

  above-fits : SFits w64 (pos 2 *ℤ z)
  above-fits = fits-mul (pos 2) z 2 (B * 2 ^ 4) (omega arith) (small t m b b' few c.loop-i.i z c.loop-i.invariant) (omega arith)

  more : Summed 2 B (all t m b b') j (x +ℤ pos 2 *ℤ z)
  more = summed-more 2 B (all t m b b') c.loop-i.i z c.loop-i.invariant (omega arith) c.loop-i-test.true x
      (x-is ∙ sym (terms-at (row_sum t m b') m (drop 1 b) j within)) c.row_sum.ensures.small

  more-fits : SFits w64 (x +ℤ pos 2 *ℤ z)
  more-fits = fits-abs _ (omega (arith, small t m b b' few j (x +ℤ pos 2 *ℤ z) more))

-- the steps, and all of it
module _ (g : Over) (c : After-step_of-2 g) where
  abbrev p : ℤ
  p = c.step_of.result

  abbrev p' : ℤ
  p' = c.step_of-2.result

  abbrev y : ℤ
  y = to_z w64 c.loop-i.z-bits

  abbrev sums : List ℤ
  sums = all c.args.table.now g.row.M c.args.b.now c.args.b2.now

  p-fits : SFits w64 p
  p-fits = record { sfits = c.step_of.type_inv }

  p'-fits : SFits w64 p'
  p'-fits = record { sfits = c.step_of-2.type_inv }

  both_small : nat_abs (p *ℤ p') ≤ 1024 * 1024
  both_small =
      let k : nat_abs p ≤ 1024 = rw c.step_of.ensures (step_small (pos 2) g.row.M c.args.steps.now c.requires.0 c.args.b.now c.requires.2) in
      let k' : nat_abs p' ≤ 1024 = rw c.step_of-2.ensures (step_small (pos 2) g.row.M c.args.steps2.now c.requires.1 c.args.b2.now c.requires.3) in
      abs-mul-le p p' k k'

  both-fits : SFits w64 (p *ℤ p')
  both-fits = fits-abs _ (omega (arith, both_small))

  value-small : nat_abs (p *ℤ p' *ℤ y) ≤ 2 ^ 35
  value-small = omega (arith, abs-mul-le (p *ℤ p') y both_small (small c.args.table.now g.row.M c.args.b.now c.args.b2.now c.requires.0.few c.loop-i.i y c.loop-i.invariant))

  value-fits : SFits w64 (p *ℤ p' *ℤ y)
  value-fits = fits-abs _ (omega (arith, value-small))

  value-is : p *ℤ p' *ℤ y ≡ block_pair_by g.row.M c.args.steps.now c.args.steps2.now c.args.table.now c.args.b.now c.args.b2.now
  unfolding block_pair_by
  value-is = let none : c.loop-i.i ≡ 0 = omega (arith, c.loop-i-test.false) in let b = c.args.b.now in let b' = c.args.b2.now in
      ap₂ (λ (u v : ℤ). u *ℤ v *ℤ y) c.step_of.ensures c.step_of-2.ensures
      ∙ ap (λ (z : ℤ). step_of c.args.steps.now b *ℤ step_of c.args.steps2.now b' *ℤ z)
      (summed-all 2 B sums c.loop-i.i y c.loop-i.invariant none ∙ sym (pair-power 2 (pair_entry c.args.table.now) (cut 8 g.row.M (drop 1 b')) (cut 8 g.row.M (drop 1 b))))

pub entry_numbers-numbers-requires : goal.entry_numbers-numbers-requires
entry_numbers-numbers-requires g c = (omega (arith, c.requires.0.few), (c.requires.0.few, subst (IsCode 8 2 g.row.M) (sym (rest-whole 1 c.args.b2.now)) c.requires.3.code))

pub loop-i-init : goal.loop-i-init
loop-i-init g c = let f = row_sum c.args.table.now g.row.M c.args.b2.now in
    summed-none 2 B (terms f g.row.M (drop 1 c.args.b.now)) g.row.M (terms-long f g.row.M (drop 1 c.args.b.now))

pub entry_number-from-requires : goal.entry_number-from-requires
entry_number-from-requires g c = (lent-layer g.row.M c.args.b.now c.requires.2.code (c.loop-i.i - 1) (omega arith), omega arith)

pub overflow_mul-from : goal.overflow_mul-from
overflow_mul-from g c = omega (arith, number_below g.row.M c.args.b.now c.requires.2.code (c.loop-i.i - 1) (omega arith) c.entry_number-from.result c.entry_number-from.ensures)

pub overflow_add-to : goal.overflow_add-to
overflow_add-to g c = omega (arith, number_below g.row.M c.args.b.now c.requires.2.code (c.loop-i.i - 1) (omega arith) c.entry_number-from.result c.entry_number-from.ensures)

pub slice_bounds-row_sum-end : goal.slice_bounds-row_sum-end
slice_bounds-row_sum-end g c = omega (arith, number_below g.row.M c.args.b.now c.requires.2.code (c.loop-i.i - 1) (omega arith) c.entry_number-from.result c.entry_number-from.ensures)

pub row_sum-requires : goal.row_sum-requires
row_sum-requires g c = let m : ℕ = g.row.M in let n : ℕ = c.entry_number-from.result in let whole : 256 * n + 256 - 256 * n ≡ 256 = omega arith in
    let below : Below 256 c.entry_numbers-numbers.result = subst (Below 256) (sym (numbers-are m c.args.b2.now c.entry_numbers-numbers.result c.entry_numbers-numbers.ensures))
    (entries_below m (cut 8 m (drop 1 c.args.b2.now)) (cut-layers 8 2 m (drop 1 c.args.b2.now) c.requires.3.code)) in
    let long : length (take (256 * n + 256 - 256 * n) (drop (256 * n) c.args.table.now)) ≡ 256 =
    simp (length-take, length-drop) (omega (arith, whole, number_below m c.args.b.now c.requires.2.code (c.loop-i.i - 1) (omega arith) n c.entry_number-from.ensures)) in
    (omega (arith, c.requires.0.few), (long, c.requires.0.few, below))

pub overflow_mul-z : goal.overflow_mul-z
overflow_mul-z g c = above-fits g c

pub overflow_add-z : goal.overflow_add-z
overflow_add-z g c = simp (to_z-of_z, x_fits g c, above-fits g c) (more-fits g c)

pub loop-i-preserved : goal.loop-i-preserved
loop-i-preserved g c = simp (to_z-of_z, x_fits g c, above-fits g c, more-fits g c) (more g c)

pub overflow_mul-result : goal.overflow_mul-result
overflow_mul-result g c = simp (to_z-of_z, p-fits g c, p'-fits g c) (both-fits g c)

pub overflow_mul-result-2 : goal.overflow_mul-result-2
overflow_mul-result-2 g c = simp (to_z-of_z, p-fits g c, p'-fits g c, both-fits g c) (value-fits g c)

pub returns : goal.returns
returns g c = simp (to_z-of_z, p-fits g c, p'-fits g c, both-fits g c, value-fits g c) record { value = value-is g c; small = value-small g c }
