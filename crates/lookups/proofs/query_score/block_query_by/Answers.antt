-- `block_query_by` goes from the top layer down: it holds the sum of the entries of the layers from i on, which stays small whatever they are.
use Rattle.std.proofs.Common.{◌≡◌, sym, ◌∙◌, ap, ap₂, subst, List, ℕ, ◌+◌, ◌*◌, ◌-◌, ◌^◌, ◌<◌, ◌≤◌, ℤ, pos, nat_abs, ◌+ℤ◌, ◌*ℤ◌, get_or, take, drop, arith, w32, w64, to_z}
use mir.Val.{SFits}
use mir.Facts.{to_z-of_z, sfits_widen}
use Rattle.integers.specs.Laws.Sizes.{fits-abs, fits-mul, abs-mul-le}
use Rattle.integers.specs.Vectors.{«at»}
use Rattle.layers.specs.Digits.{IsLayer, IsCode, cut, entry_of}
use Rattle.layers.proofs.Laws.Bases.{base-two}
use Rattle.layers.proofs.Laws.Loops.{code-layer}
use Rattle.scores.specs.Laws.Sizes.{step_small}
use Rattle.tables.specs.Laws.Entries.{entry-within, part-most, block-layer}
use Rattle.tables.specs.Tables.{part_size}
use Rattle.lookups.specs.Laws.Sums.{Summed, summed-none, summed-more, summed-most, summed-all, terms, terms-long, terms-at, layer-power, read_small}
use Rattle.lookups.specs.Scoring.{block_query_by}
use Rattle.lookups.proofs.query_score.block_query_by.Goals as goal
use Rattle.lookups.proofs.query_score.block_query_by.Goals.{After-step_of, After-z-1}
use Rattle.lookups.proofs.query_score.block_query_by.Given.{Over}
use Rattle.lookups.proofs.query_score.block_query_by.Invariants.{entry}

-- layer j, as it is lent
module _ (q m : ℕ) (b : List ℕ) (code : IsCode 8 q m (drop 1 b)) (j : ℕ) (within : j < m) where
  abbrev lent : List ℕ
  lent = take (8 * j + 1 + 8 - (8 * j + 1)) (drop (8 * j + 1) b)

  layer : IsLayer 8 q lent
  layer = subst (IsLayer 8 q) (sym (block-layer b j)) (code-layer 8 q m (drop 1 b) code j within)

  number_below : (n : ℕ) → n ≡ entry_of q lent → n < part_size q
  number_below n e = rw e (entry-within q lent layer)

-- the sum of the entries
module _ (q m : ℕ) (p : List ℤ) (b : List ℕ) where
  abbrev all : List ℤ
  all = terms (entry q p) m (drop 1 b)

  small : 2 ≤ q → q ^ m ≤ 4096 → (i : ℕ) (z : ℤ) → Summed q (2 ^ 31) all i z → nat_abs z ≤ 2 ^ 31 * 4096
  small two power i z h = summed-most q (2 ^ 31) all i z h (omega (arith, two)) 4096 (subst (λ (n : ℕ). q ^ n ≤ 4096) (sym (terms-long (entry q p) m (drop 1 b))) power)

-- an entry is added to q times what the layers above gave
module _ (g : Over) (c : After-z-1 g) where
  abbrev q : ℕ
  q = g.row.Q

  abbrev m : ℕ
  m = g.row.M

  abbrev p : List ℤ
  p = c.args.part.now

  abbrev b : List ℕ
  b = c.args.b.now

  abbrev j : ℕ
  j = c.loop-i.i - 1

  abbrev n : ℕ
  n = c.entry_number-n.result

  abbrev x : ℤ
  x = get_or p n (pos 0)

  abbrev z : ℤ
  z = to_z w64 c.loop-i.z-bits

  two : 2 ≤ q
  two = base-two (pos q) c.requires.0.base

  within : j < m
  within = omega (arith, c.loop-i.auto.i, c.loop-i-test.true)

  summed : Summed q (2 ^ 31) (all q m p b) c.loop-i.i z
  summed = c.loop-i.invariant

  n-is : n ≡ entry_of q (lent q m b c.requires.1.code j within)
  n-is = c.entry_number-n.ensures

  x_fits : SFits w32 x
  x_fits = record { sfits = c.z-1.given }

  x-wide : SFits w64 x
  x-wide = sfits_widen tt x_fits

  q-fits : SFits w64 (pos q)
  q-fits = fits-abs (pos q) (omega (arith, c.requires.2))

  above-fits : SFits w64 (pos q *ℤ z)
  above-fits = fits-mul (pos q) z 256 (2 ^ 31 * 4096) c.requires.0.base.most (small q m p b two c.requires.0.power c.loop-i.i z summed) (omega arith)

  more : Summed q (2 ^ 31) (all q m p b) j (x +ℤ pos q *ℤ z)
  more = summed-more q (2 ^ 31) (all q m p b) c.loop-i.i z summed two c.loop-i-test.true x
      (ap (λ (n : ℕ). «at» p n) (n-is ∙ ap (entry_of q) (block-layer b j)) ∙ sym (terms-at (entry q p) m (drop 1 b) j within)) (read_small (2 ^ 31) x c.z-1.given)

  more-fits : SFits w64 (x +ℤ pos q *ℤ z)
  more-fits = fits-abs _ (omega (arith, small q m p b two c.requires.0.power j (x +ℤ pos q *ℤ z) more))

-- the step, and all of it
module _ (g : Over) (c : After-step_of g) where
  abbrev base : ℕ
  base = g.row.Q

  abbrev y : ℤ
  y = to_z w64 c.loop-i.z-bits

  abbrev step : ℤ
  step = c.step_of.result

  step_fits : SFits w64 step
  step_fits = record { sfits = c.step_of.type_inv }

  done : Summed base (2 ^ 31) (all base g.row.M c.args.part.now c.args.b.now) c.loop-i.i y
  done = c.loop-i.invariant

  value-small : nat_abs (step *ℤ y) ≤ 2 ^ 53
  value-small =
      let k : nat_abs step ≤ 1024 = rw c.step_of.ensures (step_small (pos g.row.Q) g.row.M c.args.steps.now c.requires.0 c.args.b.now c.requires.1) in
      omega (arith, abs-mul-le step y k (small base g.row.M c.args.part.now c.args.b.now (base-two (pos g.row.Q) c.requires.0.base) c.requires.0.power c.loop-i.i y done))

  value-fits : SFits w64 (step *ℤ y)
  value-fits = fits-abs _ (omega (arith, value-small))

  value-is : step *ℤ y ≡ block_query_by base g.row.M c.args.steps.now c.args.part.now c.args.b.now
  unfolding block_query_by
  value-is = let none : c.loop-i.i ≡ 0 = omega (arith, c.loop-i-test.false) in
      ap₂ ◌*ℤ◌ c.step_of.ensures (summed-all base (2 ^ 31) (all base g.row.M c.args.part.now c.args.b.now) c.loop-i.i y done none
      ∙ sym (layer-power base (entry base c.args.part.now) (cut 8 g.row.M (drop 1 c.args.b.now))))

pub loop-i-init : goal.loop-i-init
loop-i-init g c = let f = entry g.row.Q c.args.part.now in let m = g.row.M in summed-none g.row.Q (2 ^ 31) (terms f m (drop 1 c.args.b.now)) m (terms-long f m (drop 1 c.args.b.now))

pub entry_number-n-requires : goal.entry_number-n-requires
entry_number-n-requires g c = (layer g.row.Q g.row.M c.args.b.now c.requires.1.code (c.loop-i.i - 1) (omega arith), c.requires.2)

pub offset_bounds-part-n : goal.offset_bounds-part-n
offset_bounds-part-n g c =
    omega (arith, number_below g.row.Q g.row.M c.args.b.now c.requires.1.code (c.loop-i.i - 1) (omega arith) c.entry_number-n.result c.entry_number-n.ensures, part-most g.row.Q c.requires.2)

pub bounds-part-n : goal.bounds-part-n
bounds-part-n g c = omega (arith, number_below g.row.Q g.row.M c.args.b.now c.requires.1.code (c.loop-i.i - 1) (omega arith) c.entry_number-n.result c.entry_number-n.ensures)

pub overflow_mul-z : goal.overflow_mul-z
overflow_mul-z g c = simp (to_z-of_z, q-fits g c) (above-fits g c)

pub overflow_add-z : goal.overflow_add-z
overflow_add-z g c = simp (to_z-of_z, x_fits g c, x-wide g c, q-fits g c, above-fits g c) (more-fits g c)

pub loop-i-preserved : goal.loop-i-preserved
loop-i-preserved g c = simp (to_z-of_z, x_fits g c, x-wide g c, q-fits g c, above-fits g c, more-fits g c) (more g c)

pub overflow_mul-result : goal.overflow_mul-result
overflow_mul-result g c = simp (to_z-of_z, step_fits g c) (value-fits g c)

pub returns : goal.returns
returns g c = simp (to_z-of_z, step_fits g c, value-fits g c) record { value = value-is g c; small = value-small g c }
